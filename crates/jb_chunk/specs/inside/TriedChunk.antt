-- What the functions that try a chunk keep, from its parts to its end.
use Rattle.std.specs.Prelude.{ℕ, ◌≡◌, ◌+◌, ◌-◌, ◌≤◌, length, take, Option, Some, None, ⊤}
use Rattle.jb_rules.specs.declared.row.Row.{Row}
use Rattle.jb_base.specs.declared.class.ClassId.{ClassId}
use Rattle.jb_base.specs.Rules.{RulesRecord}
use Rattle.jb_rules.specs.Rows.{skips_of}
use Rattle.jb_artifacts.specs.Writer.{Numbered, write_fault, after_write}
use Rattle.jb_artifacts.specs.Meaning.{ArtifactsMeaning}
use Rattle.jb_chunk.specs.declared.outcome.Outcome.{Outcome}
use Rattle.jb_chunk.specs.declared.outcome.Outcome.TheVariants.{Committed, NoMemory}
use Rattle.jb_rules.specs.declared.counts.Counts.{Counts}
use Rattle.jb_rules.specs.Counts.{IsDelta}
use Rattle.jb_chunk.specs.Attempt.{block_of, settled_at, counts_with, end_by, end_of, row_after, artifacts_used}
use Rattle.jb_chunk.specs.inside.Gathering.{Yield}
use Rattle.jb_chunk.specs.Block.{choice_at, MayBeUsed}
use Rattle.jb_chunk.specs.TaskState.{TaskState, at_checkpoint}

-- the task of this partition with this row, these rules, this item count and these artifacts
abbrev pub task_at : (partition : ℕ) → Row → RulesRecord → (item_count : ℕ) → ArtifactsMeaning → TaskState
task_at partition row rules item_count w = record { partition = partition; row = row; rules = rules; item_count = item_count; artifacts = w }

-- this holds of such a task, whatever its partition's number
abbrev pub OfTask : RulesRecord → Row → (item_count : ℕ) → ArtifactsMeaning → (TaskState → Type 0) → Type 0
OfTask rules row item_count w P = (partition : ℕ) → P (task_at partition row rules item_count w)

-- a chunk of so many records found its memory, and if it is committed adds what it may to the counts
abbrev pub HasDelta : (records : ℕ) → Outcome → Type 0
HasDelta records (Committed delta) = IsDelta records delta
HasDelta records NoMemory = ⊥
HasDelta records _ = ⊤

-- what a chunk of so many records that came to this adds to the counts
abbrev pub counts_by : (records : ℕ) → Yield → (written write_skips : ℕ) → Counts
counts_by records tally = counts_with records tally.skips tally.read_skips (length tally.found)

-- how such a chunk ends by its write's fault after so many skips
abbrev pub end_from : RulesRecord → Row → (records : ℕ) → Yield → (fault : Option ClassId) → (skips : ℕ) → Outcome
end_from rules row records tally None skips = Committed (counts_by records tally (length tally.found) 0)
end_from rules row records tally (Some class) skips = end_by (counts_by records tally 0 1) class (choice_at rules row class skips)

-- the artifacts with these results written
abbrev pub written_with : ArtifactsMeaning → Numbered → ArtifactsMeaning
written_with w found = record w { writer = after_write w.writer found }

-- how a chunk ended that nothing settled before its write, after the faults that the tally counts, and what it left
pub record IsFinish (rules : RulesRecord) (row : Row) (hi : ℕ) (tally : Yield) (w : ArtifactsMeaning) (end : Outcome) (now : ArtifactsMeaning) : Type 0 where
  pub ended : end ≡ end_from rules row (hi - row.at) tally (write_fault w.writer tally.found) (skips_of row + tally.skips)
  pub left : now ≡ at_checkpoint (row_after row hi end) (written_with w tally.found)

-- the chunk was tried to its end
pub record IsTried (t : TaskState) (end : Outcome) (now : ArtifactsMeaning) : Type 0 where
  pub ended : end ≡ end_of t
  pub left : now ≡ at_checkpoint (row_after t.row (block_of t).hi end) (artifacts_used t (settled_at t))

-- reader and processor may have worked on the records from `lo` to `hi - 1`, and something may be written past what was there
pub record IsTorn (lo hi : ℕ) (w now : ArtifactsMeaning) : Type 0 where
  pub reader : now.reader ≡ record w.reader { place = now.reader.place; faults = now.reader.faults }
  pub processor : now.processor ≡ record w.processor { faults = now.processor.faults }
  pub collector : now.collector ≡ w.collector
  pub read_plans : MayBeUsed lo hi w.reader.faults now.reader.faults
  pub process_plans : MayBeUsed lo hi w.processor.faults now.processor.faults
  pub write_plans : MayBeUsed lo hi w.writer.faults now.writer.faults
  pub written : take (length w.writer.written) now.writer.written ≡ w.writer.written
  pub longer : length w.writer.written ≤ length now.writer.written
