-- Attempt: what one try at the task's next chunk does to row, outputs, fault plans and values.
use Rattle.std.specs.Prelude.{ℕ, zero, suc, ◌≡◌, ◌+◌, ◌-◌, ◌==◌, Bool, true, false, if◌then◌else◌, List, [], ◌∷◌, length, Option, Some, None, unwrap_or}
use Rattle.jb_base.specs.declared.class.ClassId.{ClassId}
use Rattle.jb_base.specs.declared.range.Range.{Range}
use Rattle.jb_rules.specs.declared.counts.Counts.{Counts}
use Rattle.jb_rules.specs.declared.row.Row.{Row}
use Rattle.jb_rules.specs.declared.choice.Choice.{Choice}
use Rattle.jb_rules.specs.declared.choice.Choice.TheVariants.{Skip, Fail}
use Rattle.jb_rules.specs.Counts.{no_counts}
use Rattle.jb_rules.specs.Rows.{row_block, repeated_row, committed_row, rolled_row, failed_row}
use Rattle.jb_artifacts.specs.declared.view.RowView.{RowView}
use Rattle.jb_artifacts.specs.Faults.{used_at}
use Rattle.jb_artifacts.specs.Writer.{Numbered, write_fault, after_write}
use Rattle.jb_artifacts.specs.Meaning.{ArtifactsMeaning}
use Rattle.jb_chunk.specs.declared.outcome.Outcome.{Outcome}
use Rattle.jb_chunk.specs.declared.outcome.Outcome.TheVariants.{Committed, Rolled, Failed, NoMemory}
use Rattle.jb_chunk.specs.Block.{entry, results, count_of, skips_before, choice_at, repeats, settling, passed, MayBeUsed}
use Rattle.jb_chunk.specs.Entries.{Entry, ReadFault, fault_in, is_fault, is_read_fault}
use Rattle.jb_chunk.specs.TaskState.{TaskState, at_checkpoint}

-- THE CHUNK

-- the task's next chunk: the first of those that are left
abbrev pub block_of : TaskState → Range
block_of t = row_block t.item_count t.row

abbrev pub results_of : TaskState → Numbered
results_of t = results t.artifacts t.row.at (block_of t).hi

-- its first record whose fault isn't skipped
abbrev pub settled_at : TaskState → Option ℕ
settled_at t = settling t.rules t.row t.artifacts (block_of t).hi

-- the fault that the chunk has reached: that of its settling record, else its write's
abbrev pub fault_at : TaskState → (settled : Option ℕ) → Option ClassId
fault_at t (Some k) = fault_in (entry t.artifacts k)
fault_at t None = write_fault t.artifacts.writer (results_of t)

-- the skips before it: before the write, all faults of the chunk are counted as skips
abbrev pub skips_at : TaskState → (settled : Option ℕ) → ℕ
skips_at t settled = skips_before t.row t.artifacts (unwrap_or settled (block_of t).hi)

-- HOW IT ENDS

-- What a committed chunk of so many records adds to the counts (Jakarta Batch 2.1, "Metric"). The other numbers: the skips of
-- records, those of them that are of reads, the results, those of them that are written, and the skipped write calls. READ
-- counts the reads that succeeded, and a skipped write call counts one: both are this project's choice.
abbrev pub counts_with : (records skips read_skips results written write_skips : ℕ) → Counts
counts_with records skips read_skips results written write_skips = record no_counts {
  read = records - read_skips;
  write = written;
  commit = 1;
  read_skip = read_skips;
  process_skip = skips - read_skips;
  filter = records - skips - results;
  write_skip = write_skips;
}

-- what the chunk adds
abbrev pub counts_of : TaskState → (written write_skips : ℕ) → Counts
counts_of t =
    let counted : (Entry → Bool) → ℕ = λ p. count_of p t.artifacts t.row.at (block_of t).hi in
    counts_with ((block_of t).hi - t.row.at) (counted is_fault) (counted is_read_fault) (length (results_of t))

-- A chunk ends by a fault as is chosen for it, when no call of it is to be repeated any more (Jakarta Batch 2.1, "Chunk
-- Exception Handling"). A skipped fault that ends it is a write's: the whole list of that write call is left out (this
-- project's choice), and the chunk is committed with these counts.
abbrev pub end_by : (skipped : Counts) → ClassId → Choice → Outcome
end_by skipped class Skip = Committed skipped
end_by skipped class Fail = Failed class
end_by skipped class _ = Rolled class

-- and without a fault it is written
abbrev pub end_at : TaskState → (fault : Option ClassId) → (skips : ℕ) → Outcome
end_at t None skips = Committed (counts_of t (length (results_of t)) 0)
end_at t (Some class) skips = end_by (counts_of t 0 1) class (choice_at t.rules t.row class skips)

unfoldable pub end_of : TaskState → Outcome
end_of t = end_at t (fault_at t (settled_at t)) (skips_at t (settled_at t))

-- REPEATS IN PLACE

-- the artifacts when the call that failed for this record, its read or else its process call, is repeated: its fault is used
abbrev pub called_again : ArtifactsMeaning → ℕ → Entry → ArtifactsMeaning
called_again w k (ReadFault class) = record w { reader = record w.reader { faults = used_at w.reader.faults k } }
called_again w k _ = record w { processor = record w.processor { faults = used_at w.processor.faults k } }

-- the artifacts when the call that the chunk has reached is repeated: that of its settling record, else its write, of which
-- nothing stays
abbrev pub repeated_artifacts : TaskState → (settled : Option ℕ) → ArtifactsMeaning
repeated_artifacts t (Some k) = called_again t.artifacts k (entry t.artifacts k)
repeated_artifacts t None = record t.artifacts { writer = record (after_write t.artifacts.writer (results_of t)) { written = t.artifacts.writer.written } }

-- The task when that call is repeated: its chunk is the same without the fault, and one retry is used (Jakarta Batch 2.1,
-- "Preventing Rollback During Retry"). It is this project's choice that the call alone is repeated, that the reader or the
-- writer is opened again before it, and that it uses a retry.
abbrev pub repeated : TaskState → TaskState
repeated t = record t { row = repeated_row t.row 1; artifacts = repeated_artifacts t (settled_at t) }

-- the call that the chunk has reached has a fault, and is to be repeated
unfoldable pub asks_repeat : TaskState → Bool
asks_repeat t = repeats t.rules t.row (fault_at t (settled_at t)) (skips_at t (settled_at t))

-- the task after as many repeats as its chunk asks for, but no more than this
unfoldable pub repeated_up_to : ℕ → TaskState → TaskState
repeated_up_to zero t = t
repeated_up_to (suc n) t = if asks_repeat t then repeated_up_to n (repeated t) else t

-- The task after all repeats of its next chunk. Each uses a retry, so no more are asked for than there are retries left. The
-- fault that the chunk has then reached, if there is one, is not to be repeated any more.
unfoldable pub all_repeated : TaskState → TaskState
all_repeated t = repeated_up_to (t.rules.retry_limit - t.row.retries) t

-- they change its row and its artifacts alone
abbrev pub after_repeats : TaskState → TaskState
after_repeats t = record t { row = (all_repeated t).row; artifacts = (all_repeated t).artifacts }

-- how often a call of that chunk is repeated
abbrev pub again_of : TaskState → ℕ
again_of t = (after_repeats t).row.in_place - t.row.in_place

-- WHAT IT LEAVES

-- the row that each end leaves of a chunk up to `hi`
abbrev pub row_after : Row → (hi : ℕ) → Outcome → Row
row_after row hi (Committed delta) = committed_row row hi delta
row_after row hi (Rolled class) = rolled_row row hi
row_after row hi (Failed class) = failed_row row
row_after row hi NoMemory = row

-- The artifacts that a chunk used: its records up to the one that settles it, after which nothing is written; else all its
-- records, and then the writer. So it is also where the chunk is rolled back.
unfoldable pub artifacts_used : TaskState → (settled : Option ℕ) → ArtifactsMeaning
artifacts_used t (Some k) = passed t.artifacts t.row.at (k + 1)
artifacts_used t None = record (passed t.artifacts t.row.at (block_of t).hi) { writer = after_write t.artifacts.writer (results_of t) }

-- what the collector sees of a row
abbrev pub view_of : (partition : ℕ) → Row → (last : Bool) → RowView
view_of partition row last = record { partition = partition; lo = row.lo; hi = row.hi; at = row.at; counts = row.counts; last = last }

-- The collector's texts for a chunk that ended so and left this row (Jakarta Batch 2.1, "Partition Collector"). There is one
-- if it is committed, and one more if it finishes the partition. The number of the collector's calls is this project's choice.
abbrev pub values_of : (RowView → List ℕ) → (partition : ℕ) → Row → Outcome → List (List ℕ)
values_of collector partition row (Committed delta) =
    collector (view_of partition row false)
    ∷ (if row.at == row.hi then collector (view_of partition row true) ∷ [] else [])
values_of collector partition row _ = []

-- how an attempt ended: the task that it left, its outcome, the collector's texts, and how often it repeated a call in place
pub record AttemptEnd : Type 0 where
  pub task : TaskState
  pub outcome : Outcome
  pub values : List (List ℕ)
  pub again : ℕ

abbrev pub ending_of : TaskState → Outcome → List (List ℕ) → (again : ℕ) → AttemptEnd
ending_of task out values again = record { task = task; outcome = out; values = values; again = again }

-- What each end of the chunk leaves, after so many repeats: its row, and the artifacts that it used, opened at that row's
-- checkpoint. So the results of a committed chunk are written after the others, unless its write call is skipped. Else the
-- reader is at the last checkpoint again (Jakarta Batch 2.1, "Default Retry Behavior - Rollback"). What a failing write call
-- wrote is cut off (this project's choice).
abbrev pub ending_by : TaskState → (again : ℕ) → Outcome → AttemptEnd
ending_by t again out =
    let row = row_after t.row (block_of t).hi out in
    ending_of (record t { row = row; artifacts = at_checkpoint row (artifacts_used t (settled_at t)) }) out (values_of t.artifacts.collector t.partition row out) again

-- the attempt at the task's next chunk, if it finds its memory: the chunk ends after all its repeats
abbrev pub attempt_of : TaskState → AttemptEnd
attempt_of t = ending_by (after_repeats t) (again_of t) (end_of (after_repeats t))

-- all is as it was, but for the plans of the records from `lo` to `hi - 1`: each is as it was after some calls
pub record IsRestored (lo hi : ℕ) (before after : ArtifactsMeaning) : Type 0 where
  pub reader : after.reader ≡ record before.reader { faults = after.reader.faults }
  pub processor : after.processor ≡ record before.processor { faults = after.processor.faults }
  pub writer : after.writer ≡ record before.writer { faults = after.writer.faults }
  pub collector : after.collector ≡ before.collector
  pub read_plans : MayBeUsed lo hi before.reader.faults after.reader.faults
  pub process_plans : MayBeUsed lo hi before.processor.faults after.processor.faults
  pub write_plans : MayBeUsed lo hi before.writer.faults after.writer.faults

-- an attempt that found no memory left row and outputs as they were, and reader and writer at the checkpoint; of the fault
-- plans it used its own block's alone
pub record IsUnfinished (before after : TaskState) : Type 0 where
  pub task : after ≡ record before { artifacts = after.artifacts }
  pub artifacts : IsRestored before.row.at (block_of before).hi before.artifacts after.artifacts

abbrev pub IsAttemptBy : Outcome → TaskState → AttemptEnd → Type 0
IsAttemptBy NoMemory t e = (e.values ≡ []) × (e.again ≡ 0) × IsUnfinished t e.task
IsAttemptBy _ t e = e ≡ attempt_of t

-- the attempt ended so: it is the attempt of the task, or it found no memory
abbrev pub IsAttempt : TaskState → AttemptEnd → Type 0
IsAttempt t e = IsAttemptBy e.outcome t e
