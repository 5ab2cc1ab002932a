-- What comes of rows that follow the rules.
use Rattle.std.specs.Prelude.{ℕ, ◌≡◌, ◌≤◌, ◌-◌, List, length, take, drop}
use Rattle.jb_artifacts.specs.Meaning.{ArtifactsMeaning}
use Rattle.jb_base.specs.Rules.{RulesRecord}
use Rattle.jb_base.specs.declared.range.Range.{Range}
use Rattle.jb_chunk.specs.TaskState.{TaskState}
use Rattle.jb_ready.specs.declared.notes.Note.{Note}
use Rattle.jb_rules.specs.Rows.{range_of}
use Rattle.jb_rules.specs.declared.row.Row.{Row}
use Rattle.jb_saved.specs.GoingOn.{rows_restarted}
use Rattle.jb_saved.specs.SavedRows.{SavedRows}
use Rattle.jb_slices.specs.Function.{fault_classes}
use Rattle.jb_step.specs.Alone.{AreOnTheWay}
use Rattle.jb_step.specs.preparing.Prepare.{DoFit}
use Rattle.jb_step.specs.preparing.Setup.{IsSetup, Setup, first_tasks, fresh_rows, rows_now, unfinished}
use Rattle.jb_records.specs.Following.{AreRulesRaised, FollowRules, HasFailed, IsStop, RangePasses, RowsPass, classes_between, ranges_of}
use Rattle.jb_records.specs.Function.{Function, IsSteady}
use Rattle.jb_records.specs.PartitionResults.{AreAtTheirEnds, IsSoFar}
use Rattle.jb_records.specs.Steps.{AreArtifacts}

-- THE LAW: at each state in which a run of the step left its partitions, its rows follow the step's rules, if they did when it began
abbrev pub RulesAreKept : Type 0
RulesAreKept =
    (f : Function) (records : List (List ℕ)) (partition_results : List (List (List ℕ))) (s : Setup) (artifacts : List ArtifactsMeaning) (ends : List TaskState)
    → IsSteady f → IsSetup s → DoFit s artifacts → AreArtifacts f s.rules records partition_results (unfinished s.rows) artifacts → AreOnTheWay (first_tasks s artifacts) ends
    → IsSoFar f records s.rows partition_results → FollowRules f s.rules records s.rows → FollowRules f s.rules records (rows_now s.rows ends)

-- and new rows do
abbrev pub NewRowsFollow : Type 0
NewRowsFollow = (f : Function) (rules : RulesRecord) (records : List (List ℕ)) (ranges : List Range) → FollowRules f rules records (fresh_rows ranges)

-- THE LAW: once all are finished, the records of each partition pass
abbrev pub FinishedRowsPass : Type 0
FinishedRowsPass =
    (f : Function) (rules : RulesRecord) (records : List (List ℕ)) (rows : List Row) (partition_results : List (List (List ℕ)))
    → IsSoFar f records rows partition_results → FollowRules f rules records rows → AreAtTheirEnds rows → RowsPass f rules records rows

-- THE LAW: if one has failed, those of some partition don't
abbrev pub FailedRowsDont : Type 0
FailedRowsDont = (f : Function) (rules : RulesRecord) (records : List (List ℕ)) (rows : List Row) → FollowRules f rules records rows → HasFailed rows → RowsPass f rules records rows → ⊥

-- THE LAW: a partition fails by one record at most; if there is one, the records of its range don't pass
abbrev pub StopsAreOne : Type 0
StopsAreOne =
    (f : Function) (rules : RulesRecord) (records : List (List ℕ)) (row : Row) (note other : Note)
    → IsStop f rules records row note → IsStop f rules records row other → note ≡ other

abbrev pub StoppedRowsDont : Type 0
StoppedRowsDont =
    (f : Function) (rules : RulesRecord) (records : List (List ℕ)) (row : Row) (note : Note)
    → IsStop f rules records row note → RangePasses f rules records (range_of row) → ⊥

-- THE LAW: by raised limits, and by the same ones, the rows follow the rules once the failed ones wait again
abbrev pub RaisedRulesFollow : Type 0
RaisedRulesFollow =
    (f : Function) (before after : RulesRecord) (records : List (List ℕ)) (held : SavedRows)
    → AreRulesRaised before after → FollowRules f before records held.rows → FollowRules f after records (rows_restarted held)

-- THE LAW: the faults of a range of records are those of these records as the items of a slice
abbrev pub FaultsAreOfItems : Type 0
FaultsAreOfItems =
    (f : Function) (records : List (List ℕ)) (lo hi : ℕ) → lo ≤ hi → hi ≤ length records
    → classes_between f records lo hi ≡ fault_classes f.answer (take (hi - lo) (drop lo records))

-- THE LAW: a run of the step leaves each partition its range
abbrev pub RangesStay : Type 0
RangesStay =
    (s : Setup) (artifacts : List ArtifactsMeaning) (ends : List TaskState)
    → IsSetup s → DoFit s artifacts → AreOnTheWay (first_tasks s artifacts) ends → ranges_of (rows_now s.rows ends) ≡ ranges_of s.rows

-- and so does a restart
abbrev pub RestartsKeepRanges : Type 0
RestartsKeepRanges = (held : SavedRows) → ranges_of (rows_restarted held) ≡ ranges_of held.rows
