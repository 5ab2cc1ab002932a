use Rattle.std.proofs.Common.{refl, arith}
use Rattle.std.proofs.lemmas.List.Sorted.{IsNonDecreasingBy-from_all_adjacent}
use Rattle.jb_workers.proofs.Rising.{next_rises}
use Rattle.jb_workers.proofs.round.order.rise.Goals as goal

pub returns-then-not-is_next : goal.returns-then-not-is_next
returns-then-not-is_next g c = (
  λ h. absurd cc,
  λ all.
      let yes = c.is_next.ensures.1 (next_rises (λ w. (g.T.PartitionTask.task_state w.task).partition) c.args.works.now c.loop-i.i _ _ all (omega arith) (omega arith) c.index-works-i.is c.index-works-i-in-loop-i.is) in
      absurd cc,
)

pub returns : goal.returns
returns g c = (λ h. IsNonDecreasingBy-from_all_adjacent (λ w. (g.T.PartitionTask.task_state w.task).partition) c.args.works.now (λ k d lt. c.loop-i.invariant k d (omega (arith, lt))), λ all. refl)
