use Rattle.std.proofs.Common.{length, map, ap, subst}
use Rattle.jb_cert.specs.Plans.{slot_pair}
use Rattle.jb_step.specs.inside.rounds.Round.{AreDonesOf}
use Rattle.jb_step.proofs.table.Placing.{IsPutBack, in-turn, put-back}
use Rattle.jb_step.proofs.run.Rounding.{round-is}
use Rattle.jb_step.proofs.run.Splitting.{done-by}
use Rattle.jb_step.proofs.rounds.runner.RoundRunner.one_round.Goals as goal
use Rattle.jb_step.proofs.rounds.runner.RoundRunner.one_round.Goals.{After-put_back}

-- The round's attempts are those of the tasks that were taken out, and each had memory.
back : (g : _) (c : After-put_back g) → IsPutBack g.T.PartitionTask.task_state (map slot_pair c.args.slots.now) c.args.ran.now.held.items c.in_ok-dones.dones.items c.put_back.new.places.items
back g c =
    let task_state = g.T.PartitionTask.task_state in
    let done = subst (λ us. AreDonesOf task_state us c.in_ok-dones.dones.items) c.in_ok-works.ensures.works (done-by task_state c.in_ok-works.works.items c.in_ok-dones.dones.items c.in_ok-dones.ensures.dones) in
    rw (c.put_back.ensures, c.in_ok-works.ensures.places)
    (put-back task_state (map slot_pair c.args.slots.now) c.args.ran.now.held.items c.in_ok-dones.dones.items (in-turn c.args.slots.now c.requires.in_turn) c.requires.placed done c.in_ok-dones.ensures.whole)

pub returns-clause-round : goal.returns-clause-round
returns-clause-round g c =
    round-is _ _ _ _ _ (back g c) _ _ _ _ _ _ _ _ c.requires.ready (rw c.as_slice-3.ensures.value at c.some_breaks-broke.ensures) (rw (← c.as_slice.ensures.value) c.in_ok-ran.ensures.heard) c.in_ok-ran-2.ensures
    (rw (ap length c.as_slice-2.ensures.value) at c.in_ok-ran-3.ensures)
