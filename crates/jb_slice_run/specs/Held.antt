-- What the values of a slice's run are in the terms of its definitions.
use Rattle.std.specs.Prelude.{ℕ, ◌≡◌, ◌≢◌, List, [], ◌∷◌, ◌++◌, length, map, option_map, replicate, None}
use Rattle.std.specs.List.{AllByRecursion}
use Rattle.jb_slices.specs.Checkpoint.{Begins, Checkpoint, GoesOn, Header}
use Rattle.jb_slices.specs.Function.{Fault}
use Rattle.jb_slices.specs.Job.{Limits}
use Rattle.jb_slices.specs.Slice.{slice_state}
use Rattle.jb_slice_run.specs.Strings.{NewOutput, all_new_output}
use Rattle.jb_slice_run.specs.declared.fault.Fault.{Fault as HeldFault}
use Rattle.jb_slice_run.specs.declared.header.SliceHeader.{SliceHeader}
use Rattle.jb_slice_run.specs.declared.header.SliceLimits.{SliceLimits}
use Rattle.jb_slice_run.specs.declared.partition_output.HeldSlice.{HeldSlice}
use Rattle.jb_slice_run.specs.declared.partition_output.PartitionOutput.{PartitionOutput}

abbrev pub fault_in : HeldFault → Fault
fault_in fault = record { number = fault.number; class = fault.class }

abbrev pub faults_in : List HeldFault → List Fault
faults_in faults = map fault_in faults

abbrev pub limits_in : SliceLimits → Limits
limits_in limits = record { skips = limits.skips; job_skips = limits.job_skips; retries = limits.retries }

abbrev pub header_in : SliceHeader → Header
header_in h = record {
  job = record {
    name = h.name.now;
    slice_length = h.slice_length;
    partitions = h.partitions;
    item_count = h.item_count;
    classes = record {
      names = map (λ name. name.now) h.classes.now;
      skippable = h.skippable;
      retryable = h.retryable;
      no_rollback = h.no_rollback;
    };
  };
  limits = limits_in h.limits;
  stamp = h.stamp.now;
  number = h.number;
  items = h.items;
  digest = h.digest;
}

abbrev pub new_output_in : PartitionOutput → NewOutput
new_output_in new_output = record { results = new_output.results; skips = faults_in new_output.skips.items; stop = option_map fault_in new_output.stop }

-- ---- from interval to interval

abbrev pub no_new_output : NewOutput
no_new_output = record { results = []; skips = []; stop = None }

-- what there was, with what is new after it; the stop is the new one
abbrev pub one_grown : (before new : NewOutput) → NewOutput
one_grown before new = record { results = before.results ++ new.results; skips = before.skips ++ new.skips; stop = new.stop }

-- the partitions, each with what is new of it
abbrev pub new_output_grown : (before new : List NewOutput) → List NewOutput
new_output_grown [] new = []
new_output_grown (b ∷ bs) [] = b ∷ bs
new_output_grown (b ∷ bs) (n ∷ ns) = one_grown b n ∷ new_output_grown bs ns

abbrev pub new_output_next : List NewOutput → Checkpoint → List NewOutput
new_output_next before (Begins h) = before
new_output_next before (GoesOn i) = new_output_grown before (all_new_output i.partitions)

abbrev pub new_output_led : List NewOutput → List Checkpoint → List NewOutput
new_output_led before [] = before
new_output_led before (c ∷ cs) = new_output_led (new_output_next before c) cs

abbrev pub limits_next : Limits → Checkpoint → Limits
limits_next before (Begins h) = before
limits_next before (GoesOn i) = i.limits

abbrev pub limits_led : Limits → List Checkpoint → Limits
limits_led before [] = before
limits_led before (c ∷ cs) = limits_led (limits_next before c) cs

-- each of the checkpoints is an interval of `count` partitions
abbrev pub IsIntervalOf : (count : ℕ) → Checkpoint → Type 0
IsIntervalOf count (Begins h) = ⊥
IsIntervalOf count (GoesOn i) = length i.partitions ≡ count

abbrev pub AreIntervalsOf : (count : ℕ) → List Checkpoint → Type 0
AreIntervalsOf count cs = AllByRecursion (IsIntervalOf count) cs

-- WHAT INTERVALS HAVE, after these limits: the last limits, and what is new in all of them, put together
pub record HasRead (before : Limits) (count : ℕ) (cs : List Checkpoint) (held : HeldSlice) : Type 0 where
  pub limits : limits_in held.limits ≡ limits_led before cs
  pub new_output : map new_output_in held.partitions.items ≡ new_output_led (replicate count no_new_output) cs

-- THE LAW: the slice's state has the same
abbrev pub PlacesAreRead : Type 0
PlacesAreRead =
    (h : Header) (count : ℕ) (cs : List Checkpoint) → AreIntervalsOf count cs
    → (limits_led h.limits cs ≡ (slice_state (Begins h ∷ cs)).limits) × (cs ≢ [] → new_output_led (replicate count no_new_output) cs ≡ all_new_output (slice_state (Begins h ∷ cs)).partitions)
