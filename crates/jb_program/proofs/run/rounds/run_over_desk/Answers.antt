use Rattle.std.proofs.Common.{rules, List, map}
use Rattle.jb_collect.specs.declared.calls.AnalyzerCall.{AnalyzerCall}
use Rattle.jb_collect.specs.declared.calls.ReducerCall.{ReducerCall}
use Rattle.jb_collect.specs.AnsweredCalls.{AnsweredCall, since, well}
use Rattle.jb_step.specs.Answers.{AreCallsAfter, IsStatus}
use Rattle.jb_program.proofs.Callbacks.{well-after}
use Rattle.jb_program.proofs.Rounds.{stands}
use Rattle.jb_program.proofs.run.rounds.run_over_desk.Goals as goal

pub returns-in-Ok-clause-status : goal.returns-in-Ok-clause-status
returns-in-Ok-clause-status g c =
    let heard : List (AnsweredCall AnalyzerCall) = map well c.args.analyzer in
    let reduced : List (AnsweredCall ReducerCall) = map well c.args.reducer in
    let is : IsStatus c.in-Ok.end.snapshot (since heard (map well c.run_pooled_step-end.result.1)) (since reduced (map well c.run_pooled_step-end.result.2)) c.in-Ok.end.status = search rules in
    stands c.in-Ok.end.snapshot heard reduced c.run_pooled_step-end.result.1 c.run_pooled_step-end.result.2 c.in-Ok.end.status is

pub returns-in-Ok-clause-reducer : goal.returns-in-Ok-clause-reducer
returns-in-Ok-clause-reducer g c =
    let heard : List (AnsweredCall AnalyzerCall) = map well c.args.analyzer in
    let reduced : List (AnsweredCall ReducerCall) = map well c.args.reducer in
    let after : AreCallsAfter c.in-Ok.end.snapshot (since heard (map well c.run_pooled_step-end.result.1)) (since reduced (map well c.run_pooled_step-end.result.2)) = search rules in
    well-after c.in-Ok.end.snapshot heard c.run_pooled_step-end.result.1 c.args.reducer c.run_pooled_step-end.result.2 c.run_pooled_step-end.ensures.reducer_grew after
