-- Heard: what an analyzer is called with (Jakarta Batch 2.1, "Partition Analyzer"; the number, order and place of the calls
-- are this project's choice).
use Rattle.std.specs.Prelude.{ℕ, ◌==◌, Bool, true, false, List, [], ◌∷◌, ◌++◌, map}
use Rattle.std.specs.List.{filter, flat_map, enumerate_from}
use Rattle.jb_rules.specs.declared.row.Row.{Row}
use Rattle.jb_rules.specs.declared.row.RowState.{RowState}
use Rattle.jb_rules.specs.declared.row.RowState.TheVariants as state
use Rattle.jb_rules.specs.States.{is_waiting}
use Rattle.jb_chunk.specs.Attempt.{AttemptEnd, ending_of}
use Rattle.jb_chunk.specs.TaskState.{TaskState}
use Rattle.jb_chunk.specs.declared.outcome.Done.{Done}
use Rattle.jb_collect.specs.declared.calls.Status.TheVariants.{Stopped, Failed, Completed}
use Rattle.jb_collect.specs.declared.calls.AnalyzerCall.{AnalyzerCall}
use Rattle.jb_collect.specs.declared.calls.AnalyzerCall.TheVariants as call

-- the texts of a partition's collector
abbrev pub collected_calls : ℕ → List (List ℕ) → List AnalyzerCall
collected_calls partition texts = map (λ text. call.Collected partition text) texts

-- the status of a partition that has ended
abbrev pub ended_calls : ℕ → RowState → List AnalyzerCall
ended_calls partition state.Waiting = []
ended_calls partition (state.Running lane) = []
ended_calls partition state.Finished = call.Status partition Completed ∷ []
ended_calls partition state.Failed = call.Status partition Failed ∷ []

-- of one attempt: the texts, and then the partition's status if it ended
abbrev pub heard_of : AttemptEnd → List AnalyzerCall
heard_of e = collected_calls e.task.partition e.values ++ ended_calls e.task.partition e.task.row.state

-- of attempts, as those of a round by rising partition, or of all rounds one after another
abbrev pub heard_in : List AttemptEnd → List AnalyzerCall
heard_in attempts = flat_map heard_of attempts

-- before the first round: the partitions with an empty range are completed, if the step begins them; if its rows are
-- those of an earlier run, that run reported them
abbrev pub heard_first : (is_fresh : Bool) → List Row → List AnalyzerCall
heard_first false rows = []
heard_first true rows = map (λ n. call.Status n.0 Completed) (filter (λ n. n.1.lo == n.1.hi) (enumerate_from 0 rows))

-- after the last round: the partitions that a stop left unfinished are stopped
abbrev pub heard_last : List TaskState → List AnalyzerCall
heard_last tasks = map (λ t. call.Status t.partition Stopped) (filter (λ t. is_waiting t.row.state) tasks)

-- of a whole run of a step: by the rows that it begins with, all its attempts, and the tasks as they were left
abbrev pub heard_by : (is_fresh : Bool) → List Row → List AttemptEnd → List TaskState → List AnalyzerCall
heard_by is_fresh rows attempts tasks = heard_first is_fresh rows ++ heard_in attempts ++ heard_last tasks

-- the calls about a partition
abbrev pub partition_heard : AnalyzerCall → ℕ
partition_heard (call.Collected partition text) = partition
partition_heard (call.Status partition status) = partition

abbrev pub calls_about : ℕ → List AnalyzerCall → List AnalyzerCall
calls_about p calls = filter (λ one. partition_heard one == p) calls

-- how attempts ended, of which these tasks, outcomes and texts came back
abbrev pub endings_of : {T : Type 0} → (T → TaskState) → List (Done T) → List AttemptEnd
endings_of task_state dones = map (λ d. ending_of (task_state d.task) d.outcome d.values.items d.again) dones
