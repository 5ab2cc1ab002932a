use Rattle.std.proofs.Common.{List, ℕ, [], slice_index_or, ap, ◌∙◌, Option}
use Rattle.std.specs.Prelude.{unwrap_or}
use Rattle.std.proofs.lemmas.Option.{unwrap_or-slice_get}
use Rattle.jb_artifacts.proofs.lending_reader.record_of.Goals as goal

pub returns-in-None : goal.returns-in-None
returns-in-None c =
    let records = c.args.records.now in
    let none = c.in-None.ensures in
    ap (λ (found : Option (List ℕ)). unwrap_or found []) none ∙ unwrap_or-slice_get records c.saturating_sub-index.result []
    ∙ ap (λ index. slice_index_or records index []) c.saturating_sub-index.ensures
