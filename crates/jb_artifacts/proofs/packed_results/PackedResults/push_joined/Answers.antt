use Rattle.std.proofs.Common.{[], ◌∷◌, ◌++◌, ap, ◌∙◌}
use Rattle.std.specs.Prelude.{zip}
use Rattle.jb_artifacts.proofs.Packing.{one_more}
use Rattle.jb_artifacts.proofs.packed_results.PackedResults.push_joined.Goals as goal

pub returns-clause-ok : goal.returns-clause-ok
returns-clause-ok c =
    (λ i. zip ((c.push_reserved.ensures.items ∙ ap (λ ns. ns ++ c.args.number ∷ []) c.reserve.ensures.items) i) (c.in_ok-push_joined.ensures.ok i))
    ∙ one_more c.self.inside.numbers.items c.self.inside.texts c.args.number (c.args.first.now ++ c.args.second.now) c.self.invariant
    ∙ ap (λ rs. rs ++ (c.args.number, (c.args.first.now ++ c.args.second.now)) ∷ []) c.self.view_is
