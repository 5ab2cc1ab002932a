-- The step over records that runs a slice.
use Rattle.std.specs.Prelude.{ℕ, ◌≡◌, ◌≤◌, List}
use Rattle.std.specs.List.{AllByRecursion}
use Rattle.jb_mapper.specs.EvenCover.{even_ranges}
use Rattle.jb_records.specs.declared.step.RecordsStep.{RecordsStep}
use Rattle.jb_records.specs.Made.{even_partitions}
use Rattle.jb_slices.specs.Function.{Function}
use Rattle.jb_slices.specs.Job.{Job, Limits, rules_of}
use Rattle.jb_slices.specs.Slice.{Functions}

-- THE STEP OF A SLICE: it has the job's name, partitions and item count, the job's rules by these limits, and this many threads
pub record IsStepOfSlice (job : Job) (limits : Limits) (threads : ℕ) (step : RecordsStep) : Type 0 where
  pub name_is : step.id ≡ job.name
  pub partitions_are : step.partitions ≡ job.partitions
  pub threads_are : step.threads ≡ threads
  pub item_count_is : step.item_count ≡ job.item_count
  pub rules_are : step.rules ≡ rules_of job limits

-- the function of each of these stamps is this one
abbrev pub AreStampsOf : Functions → Function → (stamps : List (List ℕ)) → Type 0
AreStampsOf functions f stamps = AllByRecursion (λ stamp. functions stamp ≡ f) stamps

-- THE LAW: the step has the same ranges as a slice's checkpoints
abbrev pub StepsDivideSlices : Type 0
StepsDivideSlices =
    (job : Job) (limits : Limits) (threads : ℕ) (step : RecordsStep) (items : ℕ)
    → IsStepOfSlice job limits threads step → ((even_partitions step items).ranges ≡ even_ranges items job.partitions) × (1 ≤ job.partitions)
