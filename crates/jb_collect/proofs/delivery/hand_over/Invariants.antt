use Rattle.std.specs.Prelude.{Result}
use Rattle.std.specs.Vec.Iter.{into_iter_items}
use Rattle.std.proofs.Common.{List}
use Rattle.jb_base.specs.declared.artifact_error.ArtifactError.{ArtifactError}
use Rattle.jb_collect.specs.declared.calls.AnalyzerCall.{AnalyzerCall}
use Rattle.jb_collect.specs.Heard.{collected_calls}
use Rattle.jb_collect.specs.AnsweredCalls.{AnsweredCall, TakesCalls}
use Rattle.jb_collect.proofs.delivery.hand_over.Given as goal

-- whatever is answered for the texts to come, it is answered for all
abbrev pub invariant-loop-text : goal.invariant-loop-text
invariant-loop-text g l =
    (result : Result (Unit {0}) ArtifactError) (after : List (AnsweredCall AnalyzerCall))
    → TakesCalls ((goal.Analyzer-dyn g l.analyzer.now).analyzed l.analyzer.now.1) (collected_calls l.partition (into_iter_items l.text-iterator)) result after
    → TakesCalls ((goal.Analyzer-dyn g l.fn.analyzer.now).analyzed l.fn.analyzer.now.1) (collected_calls l.partition l.fn.texts.items) result after
