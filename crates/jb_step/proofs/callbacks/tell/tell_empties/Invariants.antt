use Rattle.std.proofs.Common.{List, Option, drop}
use Rattle.jb_base.specs.declared.class.ClassId.{ClassId}
use Rattle.jb_collect.specs.declared.calls.AnalyzerCall.{AnalyzerCall}
use Rattle.jb_collect.specs.AnsweredCalls.{AnsweredCall, Grew, HasTaken}
use Rattle.jb_step.specs.inside.callbacks.Telling.{empties}
use Rattle.jb_step.proofs.callbacks.tell.tell_empties.Given as goal

-- what is told of the other rows is told of all
abbrev pub invariant-loop-partition : goal.invariant-loop-partition
invariant-loop-partition g l =
    let base = (goal.Analyzer-dyn g l.fn.analyzer.now).analyzed l.fn.analyzer.now.1 in
    let now = (goal.Analyzer-dyn g l.analyzer.now).analyzed l.analyzer.now.1 in
    ((fault : Option ClassId) (later : List (AnsweredCall AnalyzerCall)) → HasTaken now (empties l.partition (drop l.partition l.rows)) fault later → HasTaken base (empties 0 l.rows) fault later)
    × Grew base now
