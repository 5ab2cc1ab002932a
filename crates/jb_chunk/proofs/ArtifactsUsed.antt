-- The artifacts that a chunk used, part by part.
use Rattle.std.proofs.Common.{◌≡◌, ℕ, ◌+◌, ◌++◌, [], append-nil, not, Option, Some, None, refl, ap, sym}
use Rattle.std.specs.List.{take_while}
use Rattle.jb_artifacts.specs.Faults.{FaultTable, is_live}
use Rattle.jb_artifacts.specs.Reader.{reader_end}
use Rattle.jb_artifacts.specs.Writer.{Texts, texts_of, after_write}
use Rattle.jb_artifacts.specs.Meaning.{ArtifactsMeaning}
use Rattle.jb_chunk.specs.Attempt.{block_of, results_of, artifacts_used}
use Rattle.jb_chunk.specs.Block.{passed}
use Rattle.jb_chunk.specs.TaskState.{TaskState}

-- how far the records are read: past the one that settles the chunk, else to the chunk's end
abbrev pub read_end : TaskState → (settled : Option ℕ) → ℕ
read_end t (Some k) = k + 1
read_end t None = (block_of t).hi

-- the writer's plans: there is a write call where no fault settles the chunk before
abbrev pub write_plans : TaskState → (settled : Option ℕ) → FaultTable
write_plans t (Some k) = t.artifacts.writer.faults
write_plans t None = (after_write t.artifacts.writer (results_of t)).faults

-- what it put behind the others
abbrev pub more_written : TaskState → (settled : Option ℕ) → Texts
more_written t (Some k) = []
more_written t None = texts_of (take_while (λ r. not (is_live t.artifacts.writer.faults r.0)) (results_of t))

abbrev pub artifacts_as : TaskState → (settled : Option ℕ) → ArtifactsMeaning
artifacts_as t settled = record (passed t.artifacts t.row.at (read_end t settled)) { writer = record { written = t.artifacts.writer.written ++ more_written t settled; faults = write_plans t settled } }

pub used-as : (t : TaskState) (settled : Option ℕ) → artifacts_used t settled ≡ artifacts_as t settled
unfolding artifacts_used
used-as t (Some k) = λ i. record (passed t.artifacts t.row.at (k + 1)) { writer = record t.artifacts.writer { written = sym (append-nil t.artifacts.writer.written) i } }
used-as t None = refl

-- what a chunk changes nothing of
pub record IsThere (before after : ArtifactsMeaning) : Type 0 where
  pub first : after.reader.first ≡ before.reader.first
  pub end : reader_end after.reader ≡ reader_end before.reader
  pub collector : after.collector ≡ before.collector

pub used-there : (t : TaskState) (settled : Option ℕ) → IsThere t.artifacts (artifacts_used t settled)
used-there t settled = record {
  first = ap (λ (w : ArtifactsMeaning). w.reader.first) (used-as t settled);
  end = ap (λ (w : ArtifactsMeaning). reader_end w.reader) (used-as t settled);
  collector = ap (λ (w : ArtifactsMeaning). w.collector) (used-as t settled);
}
