use Rattle.std.proofs.Common.{◌+◌, ◌∷◌, [], drop, sym, ap, ◌∙◌}
use Rattle.std.proofs.lemmas.List.{at_drop_more}
use Rattle.jb_step.proofs.run.Ending.{ended-here, ended_in, goes-on-here}
use Rattle.jb_step.proofs.rounds.run.all_ended.Goals as goal

pub loop-place-preserved : goal.loop-place-preserved
loop-place-preserved g c =
    let task_state = g.T.PartitionTask.task_state in
    let here = ap (λ o. ended_in task_state (o ∷ [])) (sym c.place-item.is) ∙ sym c.has_ended.ensures ∙ c.if-not-has_ended.false in
    sym (at_drop_more (ended_in task_state) c.args.held.now c.loop-place.place-index c.place-item.result c.loop-place-test.true ∙ ended-here task_state _ (drop (c.loop-place.place-index + 1) c.args.held.now) here) ∙ c.loop-place.invariant

pub returns-then-not-has_ended : goal.returns-then-not-has_ended
returns-then-not-has_ended g c =
    let task_state = g.T.PartitionTask.task_state in
    let here = ap (λ o. ended_in task_state (o ∷ [])) (sym c.place-item.is) ∙ sym c.has_ended.ensures ∙ c.if-not-has_ended.true in
    sym (sym c.loop-place.invariant ∙ at_drop_more (ended_in task_state) c.args.held.now c.loop-place.place-index c.place-item.result c.loop-place-test.true ∙ goes-on-here task_state _ (drop (c.loop-place.place-index + 1) c.args.held.now) here)
