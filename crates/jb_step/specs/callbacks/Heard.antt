-- Heard: what the analyzer is called with in a whole step (Jakarta Batch 2.1, "Partition Analyzer"; the number, order and
-- place of the calls are this project's choice).
use Rattle.std.specs.Prelude.{List, Option}
use Rattle.jb_base.specs.declared.class.ClassId.{ClassId}
use Rattle.jb_collect.specs.declared.calls.AnalyzerCall.{AnalyzerCall}
use Rattle.jb_collect.specs.Heard.{heard_by}
use Rattle.jb_collect.specs.AnsweredCalls.{AnsweredCall, HasTaken}
use Rattle.jb_step.specs.preparing.Setup.{Setup}
use Rattle.jb_step.specs.rounds.Runs.{PlanRun, all_attempts, table_after}
use Rattle.jb_step.specs.Tables.{Table, held_in}

-- at first the empty ranges; then each round's attempts, by rising partition; at last the partitions left unfinished
abbrev pub heard : Setup → Table → List PlanRun → List AnalyzerCall
heard s start plans = heard_by s.is_fresh s.rows (all_attempts plans start) (held_in (table_after plans start))

-- the analyzer took these calls, one after another, all of them or up to its first fault
abbrev pub HasHeard : (before : List (AnsweredCall AnalyzerCall)) → List AnalyzerCall → (after : List (AnsweredCall AnalyzerCall)) → Type 0
HasHeard before calls after = (fault : Option ClassId) × HasTaken before calls fault after
