use Rattle.std.proofs.Common.{[], ◌∷◌, not, ap, sym, ◌∙◌, subst, arith}
use Rattle.std.specs.List.{cons_option}
use Rattle.jb_cert.specs.Plans.{slot_pair}
use Rattle.jb_workers.specs.declared.worker.lane_work.Work.{Work}
use Rattle.jb_step.specs.inside.rounds.Round.{AreDonesOf}
use Rattle.jb_step.specs.inside.table.Places.{table_in}
use Rattle.jb_step.proofs.table.Placing.{IsPutBack, put-back}
use Rattle.jb_step.proofs.run.Rounding.{round-is}
use Rattle.jb_step.proofs.run.SingleSlot.{has-one, heard-one, one-rises, taken-one, or-false}
use Rattle.jb_step.proofs.run.Splitting.{taken-can}
use Rattle.jb_step.proofs.rounds.runner.RoundRunner.round_of_one.Goals as goal
use Rattle.jb_step.proofs.rounds.runner.RoundRunner.round_of_one.Goals.{After-put_task}

pub unreachable-requires : goal.unreachable-requires
unreachable-requires g c =
    has-one g.T.PartitionTask.task_state (slot_pair c.args.slot) c.args.ran.now.held.items c.requires.can_run (sym c.take_task.ensures.task ∙ c.in_default.is)

pub run_one-requires-after_bounds : goal.run_one-requires-after_bounds
run_one-requires-after_bounds g c κs within =
    let task_state = g.T.PartitionTask.task_state in
    let work : Work _ = record { lane = 0; task = c.in-Some.task } in
    let taken = taken-one task_state (slot_pair c.args.slot) c.args.ran.now.held.items _ c.requires.placed (sym c.take_task.ensures.task ∙ c.in-Some.is) in
    taken-can task_state (slot_pair c.args.slot ∷ []) (table_in task_state c.args.ran.now.held.items) (work ∷ []) taken c.requires.ready c.requires.can_run 0 work (omega arith)

-- The attempt is that of the one task that was taken out.
back : (g : _) (c : After-put_task g) → IsPutBack g.T.PartitionTask.task_state (slot_pair c.args.slot ∷ []) c.args.ran.now.held.items (c.in_ok-done.done ∷ []) c.put_task.new.places.items
back g c =
    let task_state = g.T.PartitionTask.task_state in
    let done = subst (λ o. AreDonesOf task_state (cons_option o []) (c.in_ok-done.done ∷ [])) (sym (sym c.take_task.ensures.task ∙ c.in-Some.is)) (c.in_ok-done.ensures.done.attempted, tt) in
    rw (c.put_task.ensures, c.take_task.ensures.places)
    (put-back task_state (slot_pair c.args.slot ∷ []) c.args.ran.now.held.items (c.in_ok-done.done ∷ []) (one-rises (slot_pair c.args.slot)) c.requires.placed done (c.in_ok-done.ensures.whole, tt))

pub returns-clause-round : goal.returns-clause-round
returns-clause-round g c =
    round-is _ _ _ _ _ (back g c) _ _ _ _ _ _ _ _ c.requires.ready (ap not c.is_committed-broke.ensures ∙ sym (or-false _)) (rw (← heard-one g.T.PartitionTask.task_state c.in_ok-done.done) c.in_ok-ran.ensures.heard)
    c.in_ok-ran-2.ensures c.in_ok-ran-3.ensures
