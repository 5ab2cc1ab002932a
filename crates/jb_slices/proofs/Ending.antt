-- An ended job is whole or has failed.
use Rattle.std.proofs.Common.{ℕ, zero, suc, ◌<◌, ◌≤◌, List, length, arith, inl, inr, ◌⊎◌, below_more}
use Rattle.std.specs.Prelude.{Option, MatchOption, ⊤}
use Rattle.jb_slices.specs.{Folder.{AreWholeBefore, Folder, HasFailedSlice, skips_before}, Job.{Job, Limits, slice_at}, JobLaws.EndedJobsAreEither, Slice.{Functions, IsSliceFailed, IsSliceWhole}}

module _ (job : Job) (functions : Functions) (limits : Limits) (items : List (List ℕ)) (folder : Folder) where
  abbrev IsWhole : ℕ → Type 0
  IsWhole k = IsSliceWhole job functions limits k (slice_at job items k) (folder k)

  -- of the slices before this one each is whole, or one failed
  up-to : (count : ℕ) → ((k : ℕ) → k < count → IsWhole k ⊎ IsSliceFailed job functions limits k (slice_at job items k) (folder k))
      → AreWholeBefore job functions limits items folder count ⊎ HasFailedSlice job functions limits items folder
  up-to zero ended = inl (λ k low. absurd (omega (arith, low)))
  up-to (suc k) ended = elim (ended k (omega arith)) [
    | inr failed ↦ inr (record { number = k; failed = failed })
    | inl here ↦ elim (up-to k (λ j low. ended j (omega (arith, low)))) [
      | inr failed ↦ inr failed
      | inl before ↦ inl (λ j low. below_more IsWhole k before here j (omega (arith, low)))
    ]
  ]

few-or-not : (limit : Option ℕ) (n : ℕ) → MatchOption limit ⊤ (λ l. n ≤ l) ⊎ (MatchOption limit ⊤ (λ l. n ≤ l) → ⊥)
few-or-not limit n = grind arith

pub either : EndedJobsAreEither
either job functions limits items folder e =
    elim (up-to job functions limits items folder (suc e.last) (λ k low. e.ended k (omega (arith, low)))) [
      | inl whole ↦ elim (few-or-not limits.job_skips (length (skips_before folder (suc e.last)))) [
        | inl few ↦ inl (record { last = e.last; is_last = e.is_last; whole = whole; few = few })
        | inr many ↦ inr (inr (record { seam = suc e.last; whole = whole; many = many }))
      ]
      | inr failed ↦ inr (inl failed)
    ]
