-- What a step begins with: the rows of all its partitions, and tasks for those that aren't finished.
use Rattle.std.specs.Prelude.{ℕ, ◌≡◌, ◌≤◌, ◌⊎◌, nat_eq, Bool, true, false, not, ◌&&◌, is_some, if◌then◌else◌, List, [], ◌∷◌, map, filter, slice_get, Option, Some, None}
use Rattle.std.specs.List.{enumerate_from, zip}
use Rattle.jb_base.specs.declared.range.Range.{Range}
use Rattle.jb_base.specs.Limits.{max_retry_limit}
use Rattle.jb_base.specs.Rules.{RulesRecord}
use Rattle.jb_job.specs.Records.{StepRecord}
use Rattle.jb_rules.specs.declared.row.Row.{Row}
use Rattle.jb_rules.specs.declared.row.RowState.TheVariants.{Waiting, Finished}
use Rattle.jb_rules.specs.Rows.{fresh_row}
use Rattle.jb_artifacts.specs.Meaning.{ArtifactsMeaning}
use Rattle.jb_chunk.specs.TaskState.{TaskState, started}
use Rattle.jb_repo.specs.Openable.{IsOpenable, opened_journal}
use Rattle.jb_repo.specs.Rows.{remaining}
use Rattle.jb_rules.specs.States.{is_finished}
use Rattle.jb_saved.specs.GoingOn.{other_step, rows_restarted, step_faults}
use Rattle.jb_saved.specs.SavedRows.{SavedRows}
use Rattle.jb_saved.specs.declared.place.SavedPlace.{SavedPlace}
use Rattle.jb_step.specs.Tables.{Table, held_in, in_places}

-- the prepared rows, one for each partition, what the step says of chunks, and the number of threads
pub record Setup : Type 0 where
  pub rows : List Row
  pub rules : RulesRecord
  pub item_count : ℕ
  pub threads : ℕ
  -- the rows are new ones, and not those of an earlier run
  pub is_fresh : Bool

-- the rows that a run begins with: new ones of the ranges, or an earlier run's, of which the failed ones wait again
abbrev pub fresh_rows : List Range → List Row
fresh_rows ranges = map fresh_row ranges

abbrev pub opening_rows : List Range → Option SavedRows → List Row
opening_rows ranges None = fresh_rows ranges
opening_rows ranges (Some saved) = rows_restarted saved

-- the earlier run's rows from which a run resumes: none if the plan begins all partitions from the start
abbrev pub gone_on : (replace : Bool) → Option SavedRows → Option SavedRows
gone_on true saved = None
gone_on false saved = saved

-- an earlier run's results are discarded
abbrev pub overrides : (replace : Bool) → Option SavedRows → Bool
overrides replace saved = replace && is_some saved

-- what is wrong with an earlier run's rows for a step of so many records; if they are discarded, only their step is checked
abbrev pub saved_faults : StepRecord → (records : ℕ) → (replace : Bool) → Option SavedRows → List SavedPlace
saved_faults step records replace None = []
saved_faults step records false (Some saved) = step_faults step.id records saved
saved_faults step records true (Some saved) = other_step step.id saved

-- what a step may begin with: a repository may be opened with its rows, each partition waits or is finished, and the retry
-- limit is one of a job's
pub record IsSetup (s : Setup) : Type 0 where
  pub openable : IsOpenable (opened_journal s.rows s.threads s.item_count)
  pub begun : (p : ℕ) (row : Row) → slice_get s.rows p ≡ Some row → (row.state ≡ Waiting) ⊎ (row.state ≡ Finished)
  pub retried : s.rules.retry_limit ≤ max_retry_limit

-- the partitions that aren't finished, rising, with their rows
abbrev pub unfinished : List Row → List (ℕ × Row)
unfinished rows = filter (λ n. not (is_finished n.1.state)) (enumerate_from 0 rows)

abbrev pub needs : List Row → List ℕ
needs rows = map (λ n. n.0) (unfinished rows)

-- their tasks, each with its artifacts
abbrev pub first_tasks : Setup → List ArtifactsMeaning → List TaskState
first_tasks s artifacts = map (λ n. started n.0.0 n.0.1 s.rules s.item_count n.1) (zip (unfinished s.rows) artifacts)

-- the table that a step begins with
abbrev pub first_table : Setup → List ArtifactsMeaning → Table
first_table s artifacts = in_places s.rows (first_tasks s artifacts)

-- the row of a partition now: its task's, or the prepared one if it has no task
abbrev pub row_now : List TaskState → ℕ → Row → Row
row_now [] p row = row
row_now (t ∷ ts) p row = if nat_eq t.partition p then t.row else row_now ts p row

-- the rows of all partitions now
abbrev pub rows_now : List Row → List TaskState → List Row
rows_now rows ts = map (λ n. row_now ts n.0 n.1) (enumerate_from 0 rows)

-- how many chunks each partition has left
abbrev pub counts_now : Setup → Table → List ℕ
counts_now s table = remaining s.item_count (rows_now s.rows (held_in table))
