-- What follows for rows as progresses.
use Rattle.std.specs.Prelude.{ℕ, ◌≡◌, ◌≤◌, ◌↔◌, true, List, [], length, Contains, Option}
use Rattle.std.specs.List.{AllByRecursion}
use Rattle.jb_base.specs.Pairwise.{Pairwise}
use Rattle.jb_base.specs.Rules.{RulesRecord}
use Rattle.jb_mapper.specs.EvenCover.{even_ranges}
use Rattle.jb_ready.specs.declared.notes.Note.{Note}
use Rattle.jb_repo.specs.Openable.{AreIdle}
use Rattle.jb_rules.specs.States.{has_ended}
use Rattle.jb_rules.specs.declared.row.Row.{Row}
use Rattle.jb_saved.specs.GoingOn.{rows_restarted}
use Rattle.jb_saved.specs.SavedRows.{SavedRows}
use Rattle.jb_records.specs.Following.{FollowRules, HasFailed, IsStopOf, ranges_of}
use Rattle.jb_records.specs.Function.{steady}
use Rattle.jb_records.specs.PartitionResults.{AreAtTheirEnds, AreRowsInOrder, IsSoFar}
use Rattle.jb_records.specs.Intervals as stretches
use Rattle.jb_slices.specs.Checkpoint.{Progress}
use Rattle.jb_slices.specs.Function.{Function}
use Rattle.jb_slices.specs.Job.{AreRaised, Job, Limits, first_of, rules_of}
use Rattle.jb_slices.specs.Partitions as partitions
use Rattle.jb_slices.specs.Partitions.{AreFinished, ArePartitionsSoFar, HaveEnded, grown}
use Rattle.jb_slices.specs.Slice.{Functions, IsInterval, IsStateSoFar, SliceState}
use Rattle.jb_slice_run.specs.Rows.{ArePlaced, AreStopsNamed, HaveRisen, places_of, progresses_of, progresses_since, results_in, rows_in}
use Rattle.jb_slice_run.specs.Step.{AreStampsOf}

-- ---- ROWS AND PROGRESSES

-- THE LAW: rows that are so far and follow the rules are partitions so far
abbrev pub RowsAreSoFar : Type 0
RowsAreSoFar =
    (f : Function) (rules : RulesRecord) (first : ℕ) (records : List (List ℕ)) (rows : List Row) (partition_results : List (List (List ℕ))) (stops : List (Option Note))
    → IsSoFar (steady f) records rows partition_results → FollowRules (steady f) rules records rows → ArePlaced rows → AreStopsNamed f rules records rows stops
    → ArePartitionsSoFar f rules first 0 records (progresses_of f first records rows partition_results stops)

-- THE LAW: partitions so far give rows that are so far and follow the rules
abbrev pub SoFarAreRows : Type 0
SoFarAreRows =
    (f : Function) (rules : RulesRecord) (first : ℕ) (records : List (List ℕ)) (ps : List Progress)
    → ArePartitionsSoFar f rules first 0 records ps → AreRowsInOrder 0 (length records) (rows_in ps) → ArePlaced (rows_in ps)
    → IsSoFar (steady f) records (rows_in ps) (results_in ps) × FollowRules (steady f) rules records (rows_in ps)

-- THE LAW: progresses have the rows and the shares of which they are made
abbrev pub ProgressesHaveRows : Type 0
ProgressesHaveRows =
    (f : Function) (first : ℕ) (records : List (List ℕ)) (from : List ℕ) (rows : List Row) (partition_results : List (List (List ℕ))) (stops : List (Option Note))
    → length from ≡ length rows → length partition_results ≡ length rows → length stops ≡ length rows
    → (rows_in (progresses_since f first records from rows partition_results stops) ≡ rows) × (results_in (progresses_since f first records from rows partition_results stops) ≡ partition_results)

-- THE LAW: what is known of each row's partition names the stops of those that failed
abbrev pub StopsAreNamed : Type 0
StopsAreNamed =
    (f : Function) (rules : RulesRecord) (records : List (List ℕ)) (rows : List Row) (stops : List (Option Note))
    → FollowRules (steady f) rules records rows → Pairwise (IsStopOf (steady f) rules records) rows stops → AreStopsNamed f rules records rows stops

-- ---- WHERE ROWS ARE

-- THE LAW: rows over even ranges are in order
abbrev pub EvenRowsAreInOrder : Type 0
EvenRowsAreInOrder = (records parts : ℕ) (rows : List Row) → 1 ≤ parts → ranges_of rows ≡ even_ranges records parts → AreRowsInOrder 0 records rows

-- THE LAW: idle rows are placed; restarted rows are placed exactly if they were before
abbrev pub IdleRowsArePlaced : Type 0
IdleRowsArePlaced = (rows : List Row) → AreIdle rows → ArePlaced rows

abbrev pub RestartedRowsArePlaced : Type 0
RestartedRowsArePlaced = (held : SavedRows) → ArePlaced (rows_restarted held) ↔ ArePlaced held.rows

-- ---- HOW THEY GROW

-- THE LAW: what there was, with what is new after it, is the progress of the rows now
abbrev pub GrownIsProgress : Type 0
GrownIsProgress =
    (f : Function) (rules : RulesRecord) (first : ℕ) (records : List (List ℕ)) (ps : List Progress) (rows : List Row) (new_output : List (List (List ℕ))) (stops : List (Option Note))
    → ArePartitionsSoFar f rules first 0 records ps → AreRowsInOrder 0 (length records) (rows_in ps) → ArePlaced (rows_in ps)
    → ranges_of rows ≡ ranges_of (rows_in ps) → HaveRisen (rows_in ps) rows → ArePlaced rows → length new_output ≡ length rows → length stops ≡ length rows
    → grown ps (progresses_since f first records (places_of (rows_in ps)) rows new_output stops) ≡ progresses_of f first records rows (stretches.grown (results_in ps) new_output) stops

-- ---- INTERVALS

-- THE LAW: the first interval of a slice, by rows of its step
abbrev pub FirstIntervalsFollow : Type 0
FirstIntervalsFollow =
    (job : Job) (functions : Functions) (f : Function) (limits : Limits) (number : ℕ) (items : List (List ℕ)) (at : SliceState) (rows : List Row) (partition_results : List (List (List ℕ))) (stops : List (Option Note))
    → at.begun ≡ true → at.partitions ≡ [] → functions at.stamp ≡ f → AreRaised at.limits limits
    → ranges_of rows ≡ even_ranges (length items) job.partitions → IsSoFar (steady f) items rows partition_results → FollowRules (steady f) (rules_of job limits) items rows
    → ArePlaced rows → AreStopsNamed f (rules_of job limits) items rows stops
    → IsInterval job functions number items at (record { limits = limits; partitions = progresses_of f (first_of job number) items rows partition_results stops })

-- THE LAW: a later interval of a slice, by what is new of each partition
abbrev pub LaterIntervalsFollow : Type 0
LaterIntervalsFollow =
    (job : Job) (functions : Functions) (f : Function) (limits : Limits) (number : ℕ) (items : List (List ℕ)) (at : SliceState) (rows : List Row) (new_output : List (List (List ℕ))) (stops : List (Option Note))
    → at.begun ≡ true → IsStateSoFar job functions number items at → partitions.ranges_of at.partitions ≡ even_ranges (length items) job.partitions → 1 ≤ job.partitions
    → functions at.stamp ≡ f → AreRaised at.limits limits → ArePlaced (rows_in at.partitions) → HaveRisen (rows_in at.partitions) rows → length new_output ≡ length rows
    → ranges_of rows ≡ even_ranges (length items) job.partitions → IsSoFar (steady f) items rows (stretches.grown (results_in at.partitions) new_output) → FollowRules (steady f) (rules_of job limits) items rows
    → ArePlaced rows → AreStopsNamed f (rules_of job limits) items rows stops
    → IsInterval job functions number items at (record { limits = limits; partitions = progresses_since f (first_of job number) items (places_of (rows_in at.partitions)) rows new_output stops })

-- ---- HOW THEY END

-- THE LAW: partitions are finished, have ended or have failed exactly if their rows are or have
abbrev pub EndsAreOfRows : Type 0
EndsAreOfRows =
    (ps : List Progress)
    → (AreFinished ps ↔ AreAtTheirEnds (rows_in ps)) × (HaveEnded ps ↔ AllByRecursion (λ (row : Row). has_ended row.state ≡ true) (rows_in ps))
    × (partitions.HasFailed ps ↔ HasFailed (rows_in ps))

-- THE LAW: a stamp that is one of those of a function has that function
abbrev pub StampsAreOf : Type 0
StampsAreOf = (functions : Functions) (f : Function) (stamps : List (List ℕ)) (stamp : List ℕ) → AreStampsOf functions f stamps → Contains stamps stamp → functions stamp ≡ f
