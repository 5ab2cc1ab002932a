-- What a task does: which slices are its own, what it writes, and which items its rules let pass.
use Rattle.std.specs.Prelude.{ℕ, zero, suc, ◌≡◌, ◌≤◌, ◌%◌, ◌/◌, ◌==◌, Bool, true, if◌then◌else◌, List, [], ◌++◌, length, MatchOption, ⊤}
use Rattle.jb_slices.specs.Function.{fault_classes}
use Rattle.jb_slices.specs.Job.{Job, slice_at}
use Rattle.jb_slices.specs.Passing.{AllPass, SlicePasses}
use Rattle.jb_csv_job.specs.Job.{JobRecord}
use Rattle.jb_csv_job.specs.declared.asked.Task.{Task}
use Rattle.jb_csv_job.specs.declared.asked.Task.TheVariants.{Collect, Part, Run}

-- ---- SLICES

-- a slice is the task's own: each one, but for a part, which has the slices part, part + of, part + 2 * of, ..
abbrev pub is_own : Task → (number : ℕ) → Bool
is_own Run number = true
is_own (Part part of) number = number % of == part
is_own Collect number = true

-- the items of those slices that are the task's own, of the first so many, one slice after the other
abbrev pub own_items : Job → Task → (items : List (List ℕ)) → (count : ℕ) → List (List ℕ)
own_items job task items zero = []
own_items job task items (suc k) = own_items job task items k ++ (if is_own task k then slice_at job items k else [])

-- of all slices
abbrev pub task_items : Job → Task → (items : List (List ℕ)) → List (List ℕ)
task_items job Run items = items
task_items job (Part part of) items = own_items job (Part part of) items (suc (length items / job.slice_length))
task_items job Collect items = items

-- ---- WHAT IS WRITTEN

-- all of it; a part writes nothing
abbrev pub given_by : {A : Type 0} → Task → List A → List A
given_by Run rows = rows
given_by (Part part of) rows = []
given_by Collect rows = rows

-- ---- THE RULES

-- the rules let each partition of the task's own slices pass, and all their faults together are no more than the job's limit
pub record OwnPass (job : JobRecord) (items : List (List ℕ)) : Type 0 where
  pub each : (k : ℕ) → is_own job.task k ≡ true → SlicePasses job.job job.limits job.function (slice_at job.job items k)
  pub few : MatchOption job.limits.job_skips ⊤ (λ limit. length (fault_classes job.function (task_items job.job job.task items)) ≤ limit)

abbrev pub passes_by : Task → JobRecord → (items : List (List ℕ)) → Type 0
passes_by Run job items = AllPass job.job job.limits job.function items
passes_by (Part part of) job items = OwnPass job items
passes_by Collect job items = AllPass job.job job.limits job.function items

-- THE RULES LET THE ITEMS OF THE TASK PASS: all items, or those of a part
abbrev pub TaskPasses : JobRecord → (items : List (List ℕ)) → Type 0
TaskPasses job items = passes_by job.task job items
