-- The faults that a slice's checkpoints name.
use Rattle.std.specs.Prelude.{ℕ, suc, ◌≡◌, List, [], ◌∷◌, ◌++◌, Option, None, Some, option_map, map, flat_map}
use Rattle.jb_rules.specs.States.{is_failed}
use Rattle.jb_rules.specs.declared.row.Row.{Row}
use Rattle.jb_slice_file.specs.CheckpointBytes.{CheckpointBytes}
use Rattle.jb_slices.specs.Checkpoint.{Checkpoint}
use Rattle.jb_slices.specs.Failures.{PartitionFailure, failure_and, failures_in}
use Rattle.jb_slices.specs.Function.{Fault}
use Rattle.jb_slices.specs.Slice.{slice_state, skips_in}
use Rattle.jb_slice_run.specs.Held.{fault_in, faults_in}
use Rattle.jb_slice_run.specs.SliceBytes.{AreStoredAs}
use Rattle.jb_slice_run.specs.Strings.{NewOutput, all_new_output}
use Rattle.jb_slice_run.specs.declared.fault.PartitionFaults.{PartitionFaults}
use Rattle.jb_slice_run.specs.declared.named.PartitionFailure as held
use Rattle.jb_slice_run.specs.declared.named.SliceFaults.{SliceFaults}

abbrev pub failure_in : held.PartitionFailure → PartitionFailure
failure_in failure = record { partition = failure.partition; range = record { lo = failure.lo; hi = failure.hi }; fault = fault_in failure.fault }

-- THESE ARE NAMED by these checkpoints: the faults that were skipped, and the partitions that failed
pub record AreNamed (all : List Checkpoint) (faults : SliceFaults) : Type 0 where
  pub skips : faults_in faults.skips.items ≡ skips_in all
  pub failures : map failure_in faults.failures.items ≡ failures_in all

-- ---- BY WHAT PARTITIONS HAVE

-- the faults of a partition: those that it skipped, and the one by which it failed in the last interval
pub record Faults : Type 0 where
  pub skips : List Fault
  pub stop : Option Fault

abbrev pub faults_held : PartitionFaults → Faults
faults_held faults = record { skips = faults_in faults.skips.items; stop = option_map fault_in faults.stop }

abbrev pub faults_by : NewOutput → Faults
faults_by n = record { skips = n.skips; stop = n.stop }

abbrev pub skips_by : List Faults → List Fault
skips_by all = flat_map (λ (p : Faults). p.skips) all

-- the failed ones of these partitions; the first partition has this number
abbrev pub failures_by : (partition : ℕ) → List Row → List Faults → List PartitionFailure
failures_by partition [] all = []
failures_by partition (row ∷ rows) [] = []
failures_by partition (row ∷ rows) (p ∷ ps) = failure_and partition row (is_failed row.state) p.stop (failures_by (suc partition) rows ps)

-- THESE FAULTS ARE HELD by a run after the stored checkpoints: those of each partition; no partition is held before the first interval
abbrev pub HoldsFaults : List Faults → List CheckpointBytes → Type 0
HoldsFaults held all = (cs : List Checkpoint) → AreStoredAs cs all → held ≡ map faults_by (all_new_output (slice_state cs).partitions)

-- ---- from interval to interval

-- the faults of a partition after this new output; `before` has its faults until then, if it had started
abbrev pub one_after : (before : Option Faults) → NewOutput → Faults
one_after None new = faults_by new
one_after (Some before) new = record { skips = before.skips ++ new.skips; stop = new.stop }

abbrev pub faults_grown : (before : List Faults) → List NewOutput → List Faults
faults_grown [] new = map faults_by new
faults_grown (b ∷ bs) [] = []
faults_grown (b ∷ bs) (n ∷ ns) = one_after (Some b) n ∷ faults_grown bs ns
