use Rattle.std.proofs.Common.{◌≡◌}
use Rattle.std.specs.Vec.Iter.{into_iter_items}
use Rattle.jb_step.specs.inside.table.Places.{filled}
use Rattle.jb_step.proofs.rounds.round.put_back.Given as goal

abbrev pub invariant-loop-done : goal.invariant-loop-done
invariant-loop-done g l =
    filled g.T.PartitionTask.task_state (into_iter_items l.done-iterator) l.places.items ≡ filled g.T.PartitionTask.task_state l.fn.dones.items l.fn.places.items
