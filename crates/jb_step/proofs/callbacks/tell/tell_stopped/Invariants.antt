use Rattle.std.proofs.Common.{List, Option, drop}
use Rattle.jb_base.specs.declared.class.ClassId.{ClassId}
use Rattle.jb_collect.specs.declared.calls.AnalyzerCall.{AnalyzerCall}
use Rattle.jb_collect.specs.Heard.{heard_last}
use Rattle.jb_collect.specs.AnsweredCalls.{AnsweredCall, Grew, HasTaken}
use Rattle.jb_step.specs.Tables.{held_in}
use Rattle.jb_step.specs.inside.table.Places.{table_in}
use Rattle.jb_step.proofs.callbacks.tell.tell_stopped.Given as goal

-- what is told of the other places is told of all
abbrev pub invariant-loop-place : goal.invariant-loop-place
invariant-loop-place g l =
    let base = (goal.Analyzer-dyn g l.fn.analyzer.now).analyzed l.fn.analyzer.now.1 in
    let now = (goal.Analyzer-dyn g l.analyzer.now).analyzed l.analyzer.now.1 in
    ((fault : Option ClassId) (later : List (AnsweredCall AnalyzerCall)) →
    HasTaken now (heard_last (held_in (table_in g.T.PartitionTask.task_state (drop l.place-index l.held)))) fault later
    → HasTaken base (heard_last (held_in (table_in g.T.PartitionTask.task_state l.held))) fault later)
    × Grew base now
