use Rattle.std.proofs.Common.{arith, rules}
use Rattle.jb_step.proofs.calls.Growing.{grew-more}
use Rattle.jb_step.proofs.calls.Telling.{place-told, place-faulted, places-over}
use Rattle.jb_step.proofs.callbacks.tell.tell_stopped.Goals as goal

pub returns-then-is_some-clause-heard : goal.returns-then-is_some-clause-heard
returns-then-is_some-clause-heard g c =
    c.loop-place.invariant.0 _ _
    (place-faulted c.calls_end_at_a_fault.ensures.none_after g.T.PartitionTask.task_state c.args.held.now c.loop-place.place-index c.place-item.result _ _ _
    c.loop-place-test.true c.place-item.is (search rules) c.in_ok-fault.ensures.heard)

pub returns-clause-heard : goal.returns-clause-heard
returns-clause-heard g c = c.loop-place.invariant.0 _ _ (places-over g.T.PartitionTask.task_state c.args.held.now c.loop-place.place-index _ (omega arith))

pub loop-place-preserved : goal.loop-place-preserved
loop-place-preserved g c = (
  λ fault later rest.
      c.loop-place.invariant.0 fault later
      (place-told c.calls_end_at_a_fault.ensures.one_after_another g.T.PartitionTask.task_state c.args.held.now c.loop-place.place-index c.place-item.result _ _ later _ fault
      c.loop-place-test.true c.place-item.is (search rules) c.in_ok-fault.ensures.heard rest),
  grew-more _ _ _ c.loop-place.invariant.1 c.in_ok-fault.ensures.grew,
)
