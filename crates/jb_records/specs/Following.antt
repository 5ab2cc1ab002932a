-- Rows that follow the rules: which records' faults pass, and by which one a partition fails.
use Rattle.std.specs.Prelude.{ℕ, suc, ◌≡◌, ◌≤◌, ◌<◌, true, List, length, map, Option, None, Some}
use Rattle.std.specs.List.{AllByRecursion, list_any}
use Rattle.jb_base.specs.Rules.{RulesRecord}
use Rattle.jb_base.specs.declared.class.ClassId.{ClassId}
use Rattle.jb_base.specs.declared.range.Range.{Range}
use Rattle.jb_collect.specs.declared.calls.Status.{Status}
use Rattle.jb_collect.specs.declared.calls.Status.TheVariants as status
use Rattle.jb_ready.specs.declared.notes.Note.{Note}
use Rattle.jb_rules.specs.Rows.{range_of, skips_of}
use Rattle.jb_rules.specs.States.{is_failed}
use Rattle.jb_rules.specs.declared.row.Row.{Row}
use Rattle.jb_rules.specs.declared.row.RowState.TheVariants.{Failed}
use Rattle.jb_slices.specs.Function.{Pass}
use Rattle.jb_slices.specs.Job.{IsRaised}
use Rattle.jb_records.specs.Artifacts.{record_of}
use Rattle.jb_records.specs.declared.step.RecordsStep.{RecordsStep}
use Rattle.jb_records.specs.Function.{Function, refusal_of}
use Rattle.jb_records.specs.Made.{even_partitions}
use Rattle.jb_records.specs.Skips.{skips_between}
pub use Rattle.jb_records.specs.Function.{IsSteady}

-- ---- A ROW

-- the classes of the faults of the records from number `lo` to `hi - 1`, in order
abbrev pub classes_between : Function → (records : List (List ℕ)) → (lo hi : ℕ) → List ClassId
classes_between f records lo hi = map (λ note. note.class) (skips_between f records lo hi)

-- THE RECORD BY WHOSE FAULT A PARTITION FAILS, of those from its checkpoint on: the rules let the faults before it pass, but not with it
pub record IsStop (f : Function) (rules : RulesRecord) (records : List (List ℕ)) (row : Row) (note : Note) : Type 0 where
  pub from : row.at ≤ note.number
  pub to : note.number < row.hi
  pub refused : refusal_of f (record_of 0 records note.number) ≡ Some note.class
  pub passed : Pass rules (classes_between f records row.lo note.number)
  pub fails : Pass rules (classes_between f records row.lo (suc note.number)) → ⊥

-- A ROW FOLLOWS THE RULES: they let the faults before its checkpoint pass. These are the skips that it counts. It has failed only by such a record.
pub record FollowsRules (f : Function) (rules : RulesRecord) (records : List (List ℕ)) (row : Row) : Type 0 where
  pub counted : row.counts.process_skip ≡ length (skips_between f records row.lo row.at)
  pub skipped : skips_of row ≡ length (skips_between f records row.lo row.at)
  pub passed : Pass rules (classes_between f records row.lo row.at)
  pub failed : row.state ≡ Failed → (note : Note) × IsStop f rules records row note

abbrev pub FollowRules : Function → RulesRecord → (records : List (List ℕ)) → List Row → Type 0
FollowRules f rules records rows = AllByRecursion (FollowsRules f rules records) rows

-- ---- WHICH RUN MUST FAIL: no run is named

-- the records of a range pass
abbrev pub RangePasses : Function → RulesRecord → (records : List (List ℕ)) → Range → Type 0
RangePasses f rules records range = Pass rules (classes_between f records range.lo range.hi)

abbrev pub RangesPass : Function → RulesRecord → (records : List (List ℕ)) → List Range → Type 0
RangesPass f rules records ranges = AllByRecursion (RangePasses f rules records) ranges

-- those of each partition of these rows
abbrev pub ranges_of : List Row → List Range
ranges_of rows = map range_of rows

abbrev pub RowsPass : Function → RulesRecord → (records : List (List ℕ)) → List Row → Type 0
RowsPass f rules records rows = RangesPass f rules records (ranges_of rows)

-- those of each partition of the step, by its rules
abbrev pub StepPasses : Function → RecordsStep → (records : List (List ℕ)) → Type 0
StepPasses f step records = RangesPass f step.rules records (even_partitions step (length records)).ranges

-- by which record the row's partition fails; if by none, the records of its range pass
abbrev pub IsStopOf : Function → RulesRecord → (records : List (List ℕ)) → Row → Option Note → Type 0
IsStopOf f rules records row None = RangePasses f rules records (range_of row)
IsStopOf f rules records row (Some note) = IsStop f rules records row note

-- a partition failed
abbrev pub HasFailed : List Row → Type 0
HasFailed rows = list_any (λ row. is_failed row.state) rows ≡ true

-- ---- HOW A RUN ENDS

-- its rows follow the rules; it is COMPLETED only if the records of its partitions pass, and FAILED only if they don't
pub record EndsByRules (f : Function) (rules : RulesRecord) (records : List (List ℕ)) (rows : List Row) (now : Status) : Type 0 where
  pub follows : FollowRules f rules records rows
  pub completed : now ≡ status.Completed → RowsPass f rules records rows
  pub failed : now ≡ status.Failed → RowsPass f rules records rows → ⊥

-- ---- A LIMIT MAY BE RAISED

-- the same classes may be skipped, and as many or more of their faults
pub record AreRulesRaised (before after : RulesRecord) : Type 0 where
  pub skippable : after.skippable ≡ before.skippable
  pub skips : IsRaised before.skip_limit after.skip_limit
