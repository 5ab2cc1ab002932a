-- Which records were skipped.
use Rattle.std.specs.Prelude.{ℕ, ◌≡◌, ◌-◌, List, length, Option, None, Some}
use Rattle.std.specs.List.{AllByRecursion, filter_map, flat_map, range_with_len}
use Rattle.jb_artifacts.specs.Meaning.{ArtifactsMeaning}
use Rattle.jb_base.specs.declared.class.ClassId.{ClassId}
use Rattle.jb_base.specs.declared.range.Range.{Range}
use Rattle.jb_ready.specs.declared.notes.Note.{Note}
use Rattle.jb_rules.specs.declared.row.Row.{Row}
use Rattle.jb_chunk.specs.TaskState.{TaskState}
use Rattle.jb_step.specs.Alone.{AreOnTheWay}
use Rattle.jb_step.specs.preparing.Prepare.{DoFit}
use Rattle.jb_step.specs.preparing.Setup.{IsSetup, Setup, first_tasks, fresh_rows, rows_now, unfinished}
use Rattle.jb_records.specs.Function.{Function, refusal_of}
use Rattle.jb_records.specs.PartitionResults.{IsSoFar}
use Rattle.jb_records.specs.Steps.{AreArtifacts}
use Rattle.jb_records.specs.Artifacts.{record_of}

-- the record of this number is refused, with this class, if there is one
abbrev pub skip_by : (number : ℕ) → (refusal : Option ClassId) → Option Note
skip_by number None = None
skip_by number (Some class) = Some (record { number = number; class = class })

-- the records from number `lo` to `hi - 1` that are refused, in order, each with the class of its fault
abbrev pub skips_between : Function → (records : List (List ℕ)) → (lo hi : ℕ) → List Note
skips_between f records lo hi = filter_map (λ k. skip_by k (refusal_of f (record_of 0 records k))) (range_with_len lo (hi - lo))

-- THE SKIPPED RECORDS of a step: those before its partitions' checkpoints that are refused
abbrev pub skipped_of : Function → (records : List (List ℕ)) → List Row → List Note
skipped_of f records rows = flat_map (λ row. skips_between f records row.lo row.at) rows

-- ---- AS MANY AS ARE COUNTED

-- the row counts as many records as skipped when they were processed
abbrev pub AreSkipsCounted : Function → (records : List (List ℕ)) → Row → Type 0
AreSkipsCounted f records row = row.counts.process_skip ≡ length (skips_between f records row.lo row.at)

abbrev pub AreCounted : Function → (records : List (List ℕ)) → List Row → Type 0
AreCounted f records rows = AllByRecursion (AreSkipsCounted f records) rows

-- THE LAW: at each state in which a run of the step left its partitions, its rows count the skipped records, if they did when it began
abbrev pub SkipsAreCounted : Type 0
SkipsAreCounted =
    (f : Function) (records : List (List ℕ)) (partition_results : List (List (List ℕ))) (s : Setup) (artifacts : List ArtifactsMeaning) (ends : List TaskState)
    → IsSetup s → DoFit s artifacts → AreArtifacts f s.rules records partition_results (unfinished s.rows) artifacts → AreOnTheWay (first_tasks s artifacts) ends
    → IsSoFar f records s.rows partition_results → AreCounted f records s.rows → AreCounted f records (rows_now s.rows ends)

-- and new rows do
abbrev pub NewRowsAreCounted : Type 0
NewRowsAreCounted = (f : Function) (records : List (List ℕ)) (ranges : List Range) → AreCounted f records (fresh_rows ranges)
