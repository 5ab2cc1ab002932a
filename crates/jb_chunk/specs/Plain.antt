-- Plain run: outputs and counts of a partition none of whose calls fails. Only COMMIT knows of chunks.
use Rattle.std.specs.Prelude.{ℕ, ◌≡◌, ◌-◌, ◌≤◌, ◌<◌, ◌++◌, List, length, None}
use Rattle.std.specs.List.{filter_map, range_with_len}
use Rattle.jb_plan.specs.Blocks.{left}
use Rattle.jb_rules.specs.declared.counts.Counts.{Counts}
use Rattle.jb_rules.specs.declared.row.Row.{Row}
use Rattle.jb_rules.specs.Counts.{no_counts}
use Rattle.jb_rules.specs.Rows.{committed_row}
use Rattle.jb_artifacts.specs.Faults.{live}
use Rattle.jb_artifacts.specs.Reader.{record_at}
use Rattle.jb_artifacts.specs.Meaning.{ArtifactsMeaning}
use Rattle.jb_chunk.specs.TaskState.{TaskState}

-- the processor's answers on the records `lo` to `hi - 1`, in order, without the filtered ones
unfoldable pub plain_answers : ArtifactsMeaning → (lo hi : ℕ) → List (List ℕ)
plain_answers w lo hi = filter_map (λ k. w.processor.answer k (record_at w.reader k)) (range_with_len lo (hi - lo))

-- so many records were read, so many results of them written in so many chunks, and the other records filtered
abbrev pub plain_delta : (records found chunks : ℕ) → Counts
plain_delta records found chunks = record no_counts { read = records; write = found; commit = chunks; filter = records - found }

-- the row after all its records were done, in the chunks that were left
abbrev pub plain_row : TaskState → Row
plain_row t =
    committed_row t.row t.row.hi
    (plain_delta (t.row.hi - t.row.at) (length (plain_answers t.artifacts t.row.at t.row.hi)) (left t.row.at t.row.redo t.row.hi t.item_count))

-- what was written, and the answers after it
abbrev pub plain_outputs : TaskState → List (List ℕ)
plain_outputs t = t.artifacts.writer.written ++ plain_answers t.artifacts t.row.at t.row.hi

-- no call for the records `lo` to `hi - 1` fails
pub record IsCalm (w : ArtifactsMeaning) (lo hi : ℕ) : Type 0 where
  pub reads : (k : ℕ) → lo ≤ k → k < hi → live (w.reader.faults k) ≡ None
  pub processes : (k : ℕ) → lo ≤ k → k < hi → live (w.processor.faults k) ≡ None
  pub writes : (k : ℕ) → lo ≤ k → k < hi → live (w.writer.faults k) ≡ None

-- the Plain run leads from one place to the other: its counts, with the whole row, and its outputs
abbrev pub IsPlain : (before after : TaskState) → Type 0
IsPlain before after = (after.row ≡ plain_row before) × (after.artifacts.writer.written ≡ plain_outputs before)
