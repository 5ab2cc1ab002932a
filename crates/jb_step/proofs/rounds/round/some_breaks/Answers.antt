use Rattle.std.proofs.Common.{◌+◌, drop, sym, ap, ◌∙◌}
use Rattle.std.proofs.lemmas.List.{at_drop_more}
use Rattle.jb_collect.specs.Heard.{endings_of}
use Rattle.jb_step.specs.rounds.Rounds.{breaks_in, is_commit}
use Rattle.jb_step.proofs.run.Breaking.{is-found, is-passed}
use Rattle.jb_step.proofs.rounds.round.some_breaks.Goals as goal

pub loop-done-preserved : goal.loop-done-preserved
loop-done-preserved g c =
    let task_state = g.T.PartitionTask.task_state in
    let rest = breaks_in (endings_of task_state (drop (c.loop-done.done-index + 1) c.args.dones.now)) in
    sym (at_drop_more (λ dones. breaks_in (endings_of task_state dones)) c.args.dones.now c.loop-done.done-index c.done-item.result c.loop-done-test.true
    ∙ is-passed _ rest (ap (λ done. is_commit done.outcome) (sym c.done-item.is) ∙ sym c.is_committed.ensures ∙ c.if-not-is_committed.false)) ∙ c.loop-done.invariant
