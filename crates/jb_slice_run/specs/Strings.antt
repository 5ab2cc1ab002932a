-- The parts of checkpoints as strings of bytes (own choice).
use Rattle.std.specs.Prelude.{ℕ, ◌<◌, ◌^◌, List, [], ◌∷◌, ◌++◌, map, Option, None, Some}
use Rattle.std.specs.Int.{w64, to_le_bytes}
use Rattle.std.specs.List.{AllByRecursion}
use Rattle.std.specs.Option.{ForSome}
use Rattle.jb_slices.specs.Checkpoint.{Header, Progress}
use Rattle.jb_slices.specs.Function.{Fault}
use Rattle.jb_slices.specs.Job.{FaultClasses, Limits}

-- a number below 2^64: eight bytes, the lowest first
unfoldable pub number_string : ℕ → List ℕ
number_string n = to_le_bytes w64 n

-- a limit: none is an empty string
abbrev pub limit_string : Option ℕ → List ℕ
limit_string None = []
limit_string (Some limit) = number_string limit

abbrev pub limits_list : Limits → List (List ℕ)
limits_list limits = limit_string limits.skips ∷ limit_string limits.job_skips ∷ number_string limits.retries ∷ []

-- the three sets of classes, and the names of the classes
abbrev pub classes_list : FaultClasses → List (List ℕ)
classes_list classes = number_string classes.skippable ∷ number_string classes.retryable ∷ number_string classes.no_rollback ∷ classes.names

-- a fault: the number of its item, and one byte for its class
abbrev pub fault_string : Fault → List ℕ
fault_string fault = number_string fault.number ++ fault.class.number ∷ []

abbrev pub stop_list : Option Fault → List (List ℕ)
stop_list None = []
stop_list (Some fault) = fault_string fault ∷ []

-- ---- the lists of a checkpoint

-- THOSE OF A HEADER: ten
abbrev pub header_lists : Header → List (List (List ℕ))
header_lists h =
    (h.digest ∷ []) ∷ (h.job.name ∷ []) ∷ (number_string h.job.slice_length ∷ []) ∷ (number_string h.job.partitions ∷ [])
    ∷ (number_string h.job.item_count ∷ []) ∷ classes_list h.job.classes ∷ (h.stamp ∷ []) ∷ limits_list h.limits
    ∷ (number_string h.number ∷ []) ∷ (number_string h.items ∷ []) ∷ []

-- what is new of a partition
pub record NewOutput : Type 0 where
  pub results : List (List ℕ)
  pub skips : List Fault
  pub stop : Option Fault

abbrev pub new_output_of : Progress → NewOutput
new_output_of p = record { results = p.results; skips = p.skips; stop = p.stop }

abbrev pub all_new_output : List Progress → List NewOutput
all_new_output ps = map new_output_of ps

-- three for each
abbrev pub new_output_lists : List NewOutput → List (List (List ℕ))
new_output_lists [] = []
new_output_lists (n ∷ ns) = n.results ∷ map fault_string n.skips ∷ stop_list n.stop ∷ new_output_lists ns

-- THOSE OF AN INTERVAL: its limits, and three for each partition
abbrev pub interval_lists : Limits → List NewOutput → List (List (List ℕ))
interval_lists limits new_output = limits_list limits ∷ new_output_lists new_output

-- ---- the numbers fit in their bytes

abbrev pub IsSmall : ℕ → Type 0
IsSmall n = n < 2 ^ 64

pub record AreLimitsSmall (limits : Limits) : Type 0 where
  pub skips : ForSome limits.skips IsSmall
  pub job_skips : ForSome limits.job_skips IsSmall
  pub retries : IsSmall limits.retries

pub record AreSetsSmall (classes : FaultClasses) : Type 0 where
  pub skippable : IsSmall classes.skippable
  pub retryable : IsSmall classes.retryable
  pub no_rollback : IsSmall classes.no_rollback

pub record IsHeaderSmall (h : Header) : Type 0 where
  pub slice_length : IsSmall h.job.slice_length
  pub partitions : IsSmall h.job.partitions
  pub item_count : IsSmall h.job.item_count
  pub sets : AreSetsSmall h.job.classes
  pub limits : AreLimitsSmall h.limits
  pub number : IsSmall h.number
  pub items : IsSmall h.items

abbrev pub AreFaultsSmall : List Fault → Type 0
AreFaultsSmall faults = AllByRecursion (λ (fault : Fault). IsSmall fault.number) faults

pub record IsOutputSmall (n : NewOutput) : Type 0 where
  pub skips : AreFaultsSmall n.skips
  pub stop : ForSome n.stop (λ (fault : Fault). IsSmall fault.number)

abbrev pub AreOutputsSmall : List NewOutput → Type 0
AreOutputsSmall new_output = AllByRecursion IsOutputSmall new_output
