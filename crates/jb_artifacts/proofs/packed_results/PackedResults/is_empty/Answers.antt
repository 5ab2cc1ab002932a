use Rattle.std.proofs.Common.{◌≡◌, length, ap, sym, ◌∙◌, rules}
use Rattle.jb_artifacts.proofs.Packing.{count_is}
use Rattle.std.specs.Prelude.{◌==◌}
use Rattle.jb_artifacts.proofs.packed_results.PackedResults.is_empty.Goals as goal

pub returns : goal.returns
returns c =
    let len : c.is_empty.result ≡ (length c.self.inside.numbers.items == 0) = search rules in
    len ∙ ap (λ n. n == 0) (sym (count_is c.self.inside.numbers.items c.self.inside.texts c.args.self.now c.self.view_is c.self.invariant))
