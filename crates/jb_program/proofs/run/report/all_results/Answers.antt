use Rattle.std.proofs.Common.{◌≡◌, ◌∷◌, rules}
use Rattle.std.specs.Vec.Iter.{into_iter_items}
use Rattle.jb_program.proofs.Own.{own_artifacts}
use Rattle.jb_program.proofs.Told.{one-list}
use Rattle.jb_program.proofs.run.report.all_results.Goals as goal

pub loop-one-preserved : goal.loop-one-preserved
loop-one-preserved c =
    let next : into_iter_items c.loop-one.one-iterator ≡ c.in-Some.one ∷ into_iter_items c.next.new.self = search rules in
    one-list own_artifacts c.loop-one.lists.items c.push.new.self.items c.results_of.result c.in-Some.one (into_iter_items c.loop-one.one-iterator) (into_iter_items c.next.new.self) _
    c.in_ok-push.ensures.items next c.results_of.ensures c.loop-one.invariant
