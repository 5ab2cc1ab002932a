-- A slice's run after its checkpoints.
use Rattle.std.specs.Prelude.{ℕ, ◌≡◌, ◌⊎◌, ◌<◌, ◌^◌, Bool, false, true, List, [], ◌∷◌, ◌++◌, length, map, IsTrue}
use Rattle.std.specs.List.{AllByRecursion}
use Rattle.jb_collect.specs.declared.calls.Status.TheVariants.{Failed}
use Rattle.jb_mapper.specs.EvenCover.{even_ranges}
use Rattle.jb_rules.specs.declared.row.Row.{Row}
use Rattle.jb_rules.specs.States.{has_ended}
use Rattle.jb_saved.specs.GoingOn.{restarted}
use Rattle.jb_step.specs.Statuses.{status_of}
use Rattle.jb_records.specs.Following.{ranges_of}
use Rattle.jb_records.specs.Function.{steady}
use Rattle.jb_records.specs.PartitionResults.{AreAtTheirEnds, AreNumbered, joined}
use Rattle.jb_records.specs.Intervals.{RunState, StandsOver}
use Rattle.jb_slice_file.specs.CheckpointBytes.{CheckpointBytes, checkpoint_bytes}
use Rattle.jb_slices.specs.Checkpoint.{Begins, Checkpoint, header_of}
use Rattle.jb_slices.specs.Function.{Function}
use Rattle.jb_slices.specs.Job.{AreRaised, Job, Limits, rules_of}
use Rattle.jb_slices.specs.Slice.{Functions, IsStateSoFar, IsSliceSoFar, slice_state}
use Rattle.jb_slice_run.specs.Named.{Faults, HoldsFaults}
use Rattle.jb_slice_run.specs.SliceBytes.{AreStoredAs, IsStoredAs}
use Rattle.jb_slice_run.specs.Rows.{results_in, rows_in}
use Rattle.jb_slice_run.specs.declared.resumable_run.Stage.{Stage}
use Rattle.jb_slice_run.specs.declared.resumable_run.Stage.TheVariants.{NoCheckpoint, HeaderOnly, SomeIntervals}

-- ---- THE RUN IN MEMORY

-- the run is over the slice's items and its even partitions, by the job's rules with these limits
pub record RunsSlice (job : Job) (f : Function) (limits : Limits) (items : List (List ℕ)) (s : RunState) : Type 0 where
  pub stands : StandsOver (steady f) items s
  pub rules_are : s.setup.rules ≡ rules_of job limits
  pub ranges : ranges_of s.setup.rows ≡ even_ranges (length items) job.partitions

-- the run has no result yet
pub record HasNoResults (s : RunState) : Type 0 where
  pub numbered : AreNumbered s.setup.rows s.partition_results
  pub empty : joined s.partition_results ≡ []

-- ---- THE CHECKPOINTS

-- these bytes store a slice with a header, which this function can resume with these limits: the slice's stamp is one of this function's, and no
-- limit is lower
pub record KeepsBegun (job : Job) (functions : Functions) (f : Function) (limits : Limits) (number : ℕ) (items : List (List ℕ)) (cs : List Checkpoint) (all : List CheckpointBytes) : Type 0 where
  pub stored_as : AreStoredAs cs all
  pub so_far : IsSliceSoFar job functions number items cs
  pub begun : (slice_state cs).begun ≡ true
  pub stamp_is : functions (slice_state cs).stamp ≡ f
  pub raised : AreRaised (slice_state cs).limits limits

-- the last of these checkpoints has these limits
abbrev pub GoesBy : Limits → List CheckpointBytes → Type 0
GoesBy limits all = (cs : List Checkpoint) → AreStoredAs cs all → (slice_state cs).limits ≡ limits

-- ---- WHERE A SLICE IS

-- no checkpoint is stored; the first one will be this header, with a stamp of this function
pub record HasNoCheckpoint (job : Job) (functions : Functions) (f : Function) (limits : Limits) (number : ℕ) (items : List (List ℕ)) (first : CheckpointBytes) (s : RunState) (all : List CheckpointBytes) : Type 0 where
  pub none : all ≡ []
  pub stamp : List ℕ
  pub stamp_is : functions stamp ≡ f
  pub first_is : IsStoredAs (Begins (header_of job limits stamp number items)) first
  pub runs : RunsSlice job f limits items s
  pub empty : HasNoResults s

-- the header alone is stored
pub record HasHeaderOnly (job : Job) (functions : Functions) (f : Function) (limits : Limits) (number : ℕ) (items : List (List ℕ)) (s : RunState) (all : List CheckpointBytes) : Type 0 where
  pub checkpoints : List Checkpoint
  pub keeps : KeepsBegun job functions f limits number items checkpoints all
  pub alone : (slice_state checkpoints).partitions ≡ []
  pub runs : RunsSlice job f limits items s
  pub empty : HasNoResults s

-- an interval is stored: its partitions have these rows, and the results of the run, which resumes from there
pub record HasIntervals (job : Job) (functions : Functions) (f : Function) (limits : Limits) (number : ℕ) (items : List (List ℕ)) (s : RunState) (rows : List Row) (all : List CheckpointBytes) : Type 0 where
  pub checkpoints : List Checkpoint
  pub keeps : KeepsBegun job functions f limits number items checkpoints all
  pub rows_are : rows_in (slice_state checkpoints).partitions ≡ rows
  pub partition_results_are : results_in (slice_state checkpoints).partitions ≡ s.partition_results
  pub partitions : IsStateSoFar job functions number items (slice_state checkpoints)
  pub runs : RunsSlice job f limits items s
  pub again : s.setup.rows ≡ map restarted rows

-- WHERE A SLICE IS, after these checkpoints
abbrev pub SliceStandsAt : Job → Functions → Function → Limits → (number : ℕ) → (items : List (List ℕ)) → Stage → RunState → List Row → List CheckpointBytes → Type 0
SliceStandsAt job functions f limits number items (NoCheckpoint first) s rows all = HasNoCheckpoint job functions f limits number items (checkpoint_bytes first) s all × (rows ≡ [])
SliceStandsAt job functions f limits number items HeaderOnly s rows all = HasHeaderOnly job functions f limits number items s all × (rows ≡ [])
SliceStandsAt job functions f limits number items SomeIntervals s rows all = HasIntervals job functions f limits number items s rows all

-- ---- ONE INTERVAL

-- the run resumes from these rows, or from the start of the partitions if these are empty
abbrev pub GoesOnFrom : Job → Functions → Function → Limits → (number : ℕ) → (items : List (List ℕ)) → RunState → (before : List Row) → List CheckpointBytes → Type 0
GoesOnFrom job functions f limits number items s before all = HasHeaderOnly job functions f limits number items s all × (before ≡ []) ⊎ HasIntervals job functions f limits number items s before all

-- the run has come to these rows, with one checkpoint more, which has these limits; the faults that were held are these now
pub record HasGoneOnTo (job : Job) (functions : Functions) (f : Function) (limits : Limits) (number : ℕ) (items : List (List ℕ)) (all : List CheckpointBytes) (held : List Faults) (t : RunState) (rows : List Row) (now : List Faults) (next : CheckpointBytes) : Type 0 where
  pub at : HasIntervals job functions f limits number items t rows (all ++ next ∷ [])
  pub by : GoesBy limits (all ++ next ∷ [])
  pub holds : HoldsFaults held all → HoldsFaults now (all ++ next ∷ [])

-- ---- WHAT ITS ROWS SAY

-- each partition has ended: it is finished, or it has failed
abbrev pub HaveRowsEnded : List Row → Type 0
HaveRowsEnded rows = AllByRecursion (λ (row : Row). IsTrue (has_ended row.state)) rows

-- If the slice has failed, the status of the rows is FAILED, each partition has ended, and an interval is stored. If nothing is left to run, each
-- partition is finished.
pub record StatusMatchesRows (has_failed : Bool) (stage : Stage) (s : RunState) (rows : List Row) : Type 0 where
  pub failed : IsTrue has_failed → status_of rows false ≡ Failed
  pub ended : IsTrue has_failed → HaveRowsEnded rows
  pub kept : IsTrue has_failed → stage ≡ SomeIntervals
  pub whole : AreAtTheirEnds s.setup.rows → AreAtTheirEnds rows

-- nothing is left to run, an interval is stored, and the slice hasn't failed
pub record IsRunDone (has_failed : Bool) (stage : Stage) (s : RunState) : Type 0 where
  pub well : has_failed ≡ false
  pub kept : stage ≡ SomeIntervals
  pub whole : AreAtTheirEnds s.setup.rows

-- ---- ITEMS

-- the length of each item has four bytes
abbrev pub AreItemsShort : (items : List (List ℕ)) → Type 0
AreItemsShort items = AllByRecursion (λ item. length item < 2 ^ 32) items
