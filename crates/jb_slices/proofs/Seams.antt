-- Slice after slice.
use Rattle.std.proofs.Common.{◌≡◌, ℕ, suc, ◌+◌, ◌*◌, ◌<◌, ◌≤◌, List, [], ◌++◌, length, take, ap, sym, ◌∙◌, arith, length-drop}
use Rattle.std.proofs.lemmas.{List.{drop_all, length-take, take_all}, Nat.mul-le}
use lib.Seq.{take-add}
use Rattle.jb_slices.specs.Job.{IsLastSlice, Job, first_of, slice_at}

-- ---- numbers

pub times-less : (a b n : ℕ) → a ≤ b → a * n ≤ b * n
times-less a b n less = mul-le a n b n less (omega arith)

pub next-first : (job : Job) (k : ℕ) → first_of job k + job.slice_length ≡ first_of job (suc k)
next-first job k = omega arith

-- ---- lists

-- the items of the first slices, and those of the next one
pub one-slice-more : (job : Job) (items : List (List ℕ)) (k : ℕ) → take (first_of job k) items ++ slice_at job items k ≡ take (first_of job (suc k)) items
one-slice-more job items k = sym (take-add (first_of job k) job.slice_length items) ∙ ap (λ (n : ℕ). take n items) (next-first job k)

-- ---- the last one

pub within-last : (job : Job) (items : List (List ℕ)) (last : ℕ) → IsLastSlice job items last → length items < first_of job (suc last)
within-last job items last is = grind (arith, length-take, length-drop)

pub all-of-them : (job : Job) (items : List (List ℕ)) (last : ℕ) → IsLastSlice job items last → take (first_of job (suc last)) items ≡ items
all-of-them job items last is = grind (arith, take_all, within-last)

pub empty-after : (job : Job) (items : List (List ℕ)) (last k : ℕ) → IsLastSlice job items last → last < k → slice_at job items k ≡ []
empty-after job items last k is later = grind (arith, drop_all, take_all, within-last, times-less)
