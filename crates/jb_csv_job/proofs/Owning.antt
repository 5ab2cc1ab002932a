-- What a task has of a job's items.
use Rattle.std.proofs.Common.{◌≡◌, ◌∙◌, ℕ, zero, suc, ◌+◌, ◌/◌, ◌<◌, ◌≤◌, ◌++◌, List, [], true, ap, arith, length, length-append, refl, take, inl, inr}
use Rattle.std.proofs.{Math.Nat.{le-suc_iff}, lemmas.List.Elements.{filter_map-append}, lemmas.Nat.{le-div}}
use Rattle.jb_slices.{specs.Function.{Function, all_results, fault_classes}, specs.Job.{HasSlice, IsLastSlice, Job, first_of}, proofs.Faults.{classes-append}}
use Rattle.jb_slices.proofs.{Jobs.{one-last}, Lasting.{last-is}, Seams.{all-of-them, one-slice-more}}
use Rattle.jb_csv_job.specs.{Job.{JobRecord}, Tasks.{OwnPass, TaskPasses, given_by, is_own, own_items, task_items}, declared.asked.Task.{Task}}
use Rattle.jb_csv_job.specs.declared.asked.Task.TheVariants.{Part}

-- ---- what is given

pub given-both : {A : Type 0} (task : Task) (xs ys : List A) → given_by task xs ++ given_by task ys ≡ given_by task (xs ++ ys)
given-both task xs ys = grind arith

pub given-none : (task : Task) → [] ≡ given_by {A = List ℕ} task []
given-none task = grind arith

-- the results of items and of more items
pub given-more : (task : Task) (f : Function) (xs ys : List (List ℕ)) → given_by task (all_results f (xs ++ ys)) ≡ given_by task (all_results f xs) ++ given_by task (all_results f ys)
given-more task f xs ys = grind (arith, filter_map-append)

-- ---- its own items

-- of a task that has each slice they are the first ones
own-all : (job : Job) (task : Task) (items : List (List ℕ)) → ((k : ℕ) → is_own task k ≡ true) → (count : ℕ) → own_items job task items count ≡ take (first_of job count) items
own-all job task items each zero = let e : first_of job 0 ≡ 0 = omega arith in rw e
own-all job task items each (suc k) = rw (each, own-all job task items each k, one-slice-more)

-- what is given of them is given of the first ones
pub given-own : (job : Job) (task : Task) (f : Function) (items : List (List ℕ)) (count : ℕ)
    → given_by task (all_results f (own_items job task items count)) ≡ given_by task (all_results f (take (first_of job count) items))
given-own job (Part part of) f items count = refl
given-own job task f items count = ap (all_results f) (own-all job task items (λ k. refl) count)

-- more slices have no fewer faults
own-fewer : (f : Function) (job : Job) (task : Task) (items : List (List ℕ)) (count all : ℕ) → count ≤ all
    → length (fault_classes f (own_items job task items count)) ≤ length (fault_classes f (own_items job task items all))
own-fewer f job task items count zero low = let e : count ≡ 0 = omega (arith, low) in rw e (omega arith)
own-fewer f job task items count (suc n) low = elim (le-suc_iff.0 low) [
  | inl less ↦ grind (arith, classes-append, length-append, own-fewer f job task items count n less)
  | inr same ↦ rw same (omega arith)
]

-- ---- all of them

module _ (job : Job) (some : 0 < job.slice_length) (items : List (List ℕ)) where
  pub the-last : (last : ℕ) → IsLastSlice job items last → last ≡ length items / job.slice_length
  the-last last is = one-last job items last (length items / job.slice_length) is (last-is (length items) job.slice_length some job items refl refl)

  -- after the last slice they are all of the task's
  pub task-own : (task : Task) (last : ℕ) → IsLastSlice job items last → own_items job task items (suc last) ≡ task_items job task items
  task-own (Part part of) last is = ap (λ n. own_items job (Part part of) items (suc n)) (the-last last is)
  task-own task last is = own-all job task items (λ k. refl) (suc last) ∙ all-of-them job items last is

  -- no more faults than the task's items have
  pub fewer : (f : Function) (task : Task) (k : ℕ) → HasSlice job items k → length (fault_classes f (own_items job task items (suc k))) ≤ length (fault_classes f (task_items job task items))
  fewer f task k has =
      let last = length items / job.slice_length in
      let low : k ≤ last = le-div k (length items) job.slice_length some has in
      rw (← task-own task last (last-is (length items) job.slice_length some job items refl refl)) (own-fewer f job task items (suc k) (suc last) (omega (arith, low)))

-- ---- the rules

module _ (job : JobRecord) (items : List (List ℕ)) where
  abbrev by : Task → JobRecord
  by task = record job { task = task }

  pub passes : (task : Task) → OwnPass (by task) items → TaskPasses (by task) items
  passes (Part part of) own = own
  passes _ own = record { each = λ k. own.each k refl; few = own.few }

  pub own-passes : (task : Task) → TaskPasses (by task) items → OwnPass (by task) items
  own-passes (Part part of) all = all
  own-passes _ all = record { each = λ k own. all.each k; few = all.few }
