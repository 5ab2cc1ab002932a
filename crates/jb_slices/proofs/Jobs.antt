-- What the slices of a job have.
use Rattle.std.proofs.Common.{◌≡◌, ℕ, suc, ◌<◌, List, length, take, refl, ap, ◌∙◌, arith, inl, inr}
use Rattle.std.proofs.lemmas.Bool.{cases_lt}
use Rattle.jb_slices.specs.{Folder.{AreWholeBefore, Folder, HaveStamp, results_before, skips_before}, Function.{Fault, all_results, faults_from}, Job.{IsLastSlice, Job, Limits, first_of, slice_at}, JobLaws.{FailedJobsDont, LastSlicesAreOne, WholeJobsHaveAll, WholeJobsHaveSkips, WholeJobsPass, WholeSlicesAreAFront}, Slice.{Functions, results_in, skips_in}}
use Rattle.jb_slices.proofs.{Faults.{faults-count, faults-split, fewer-classes, results-split}, Passing.{ranges-none, stands}, Seams.{all-of-them, empty-after, times-less, within-last}}
use Rattle.jb_slices.proofs.Having as slice
use Rattle.jb_slices.proofs.Passing as passing

-- ---- results and skips

pub front : WholeSlicesAreAFront
front job functions limits items folder stamp count whole stamps =
    slice.up-to (λ n. all_results (functions stamp)) (λ n. refl) (results-split (functions stamp)) job items (results_before folder) (λ k. results_in (folder k)) refl (λ k. refl) count (λ k low.
    slice.results job functions limits k (slice_at job items k) (folder k) (whole k low) ∙ ap (λ (s : List ℕ). all_results (functions s) (slice_at job items k)) (stamps k low (whole k low).begun))

pub front-skips : (job : Job) (functions : Functions) (limits : Limits) (items : List (List ℕ)) (folder : Folder) (stamp : List ℕ) (count : ℕ)
    → AreWholeBefore job functions limits items folder count → HaveStamp stamp folder count
    → skips_before folder count ≡ faults_from (functions stamp) 0 (take (first_of job count) items)
front-skips job functions limits items folder stamp count whole stamps =
    slice.up-to (faults_from (functions stamp)) (λ n. refl) (faults-split (functions stamp)) job items (skips_before folder) (λ k. skips_in (folder k)) refl (λ k. refl) count (λ k low.
    slice.skips job functions limits k (slice_at job items k) (folder k) (whole k low)
    ∙ ap (λ (s : List ℕ). faults_from (functions s) (first_of job k) (slice_at job items k)) (stamps k low (whole k low).begun))

pub all : WholeJobsHaveAll
all job functions limits items folder stamp w stamps =
    front job functions limits items folder stamp (suc w.last) w.whole stamps ∙ ap (all_results (functions stamp)) (all-of-them job items w.last w.is_last)

pub all_skips : WholeJobsHaveSkips
all_skips job functions limits items folder stamp w stamps =
    front-skips job functions limits items folder stamp (suc w.last) w.whole stamps ∙ ap (faults_from (functions stamp) 0) (all-of-them job items w.last w.is_last)

-- ---- the last one

pub not_before : (job : Job) (items : List (List ℕ)) (last other : ℕ) → IsLastSlice job items last → IsLastSlice job items other → last < other → ⊥
not_before job items last other is also less = grind (arith, within-last, times-less)

pub one-last : LastSlicesAreOne
one-last job items last other is also = grind (arith, not_before)

-- ---- the rules

pub completed : WholeJobsPass
completed job functions limits items folder stamp w stamps =
    let skips = ap (λ (s : List Fault). length s) (all_skips job functions limits items folder stamp w stamps) ∙ faults-count (functions stamp) 0 items in
    record {
      each = λ k. elim (cases_lt w.last k) [
        | inl later ↦ ranges-none (functions stamp) _ 0 _ _ (empty-after job items w.last k w.is_last later)
        | inr within ↦
            let low : k < suc w.last = omega (arith, within) in
            let whole = w.whole k low in
            rw (stamps k low whole.begun) at (passing.whole job functions limits k (slice_at job items k) (folder k) whole)
      ];
      few = rw skips at w.few;
    }

pub failed : FailedJobsDont
failed job functions limits items folder stamp (inl has) stamps pass =
    let k = has.number in
    let s = stands job functions k (slice_at job items k) (folder k) has.failed.so_far has.failed.failed in
    passing.failed job functions limits k (slice_at job items k) (folder k) has.failed (rw (stamps (suc k) k (omega arith) s.begun) (pass.each k))
failed job functions limits items folder stamp (inr has) stamps pass =
    let m = first_of job has.seam in
    let skips = ap (λ (s : List Fault). length s) (front-skips job functions limits items folder stamp has.seam has.whole (stamps has.seam)) ∙ faults-count (functions stamp) 0 (take m items) in
    let fewer = fewer-classes (functions stamp) m items in
    let many = has.many in
    let few = pass.few in grind arith
