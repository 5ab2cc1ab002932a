use Rattle.std.proofs.Common.{rules}
use Rattle.jb_step.proofs.calls.CallsInPart.{undone-in-part, ending-failed-in-part, ending-well-in-part}
use Rattle.jb_step.proofs.callbacks.reduce.complete.Goals as goal

pub returns-in_err-failed-clause-memory : goal.returns-in_err-failed-clause-memory
returns-in_err-failed-clause-memory g c = let ending = undone-in-part _ c.in_err-failed.ensures.memory in search (rules, ending)

pub returns-in_err-undo-clause-memory : goal.returns-in_err-undo-clause-memory
returns-in_err-undo-clause-memory g c =
    let ending = ending-failed-in-part _ _ _ c.in_ok-failed.failed c.if-failed.true c.in_ok-failed.ensures.grew c.in_err-undo.ensures.grew c.in_ok-failed.ensures.calls c.in_err-undo.ensures.some in search (rules, ending)

pub returns-in_err-faulted-clause-memory : goal.returns-in_err-faulted-clause-memory
returns-in_err-faulted-clause-memory g c =
    let ending = ending-well-in-part ((goal.Reducer-dyn g c.args.reducer.now).reduced c.args.reducer.now.1) _ _ c.in_ok-failed.failed c.after-ended.result c.in_err-faulted.field-0.0 c.in_ok-failed.ensures.calls c.after-ended.ensures c.in_err-faulted.ensures in search (rules, ending)
