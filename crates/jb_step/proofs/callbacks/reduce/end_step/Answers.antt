use Rattle.std.proofs.Common.{rules}
use Rattle.jb_step.proofs.calls.CallsInPart.{undone-in-part}
use Rattle.jb_step.proofs.callbacks.reduce.end_step.Goals as goal

pub returns-in_err-faulted-in-Started-clause-memory : goal.returns-in_err-faulted-in-Started-clause-memory
returns-in_err-faulted-in-Started-clause-memory g c = let ending = undone-in-part _ c.in_err-faulted-in-Started.ensures.some in search (rules, ending)
