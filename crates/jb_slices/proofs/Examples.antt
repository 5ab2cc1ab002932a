-- A failed job and a whole one.
use Rattle.std.proofs.Common.{◌≡◌, ℕ, zero, suc, ◌<◌, [], ◌∷◌, refl, arith, inl, rules}
use Rattle.jb_mapper.specs.EvenCover.{even_ranges}
use Rattle.jb_base.specs.Classes.{class_of}
use Rattle.jb_rules.specs.declared.row.RowState.TheVariants.{Failed, Finished}
use Rattle.jb_rows.specs.Fields.{code_of, cut, field_from, fields_in, fields_up_to, packed, packed_field, size_code, size_from}
use Rattle.jb_slices.specs.{Example.{SomeAreSoFar, SomeAreWhole, SomeFail, class_five, example_job, failed_slice, fault_of_nine, folder_with, item_of, limits_of, one_function, raised_slice, second_slice, three}, Function.Pass, Job.{rules_of, slice_at}, Partitions.IsStop, Slice.{IsSliceSoFar, IsSliceWhole}}
use Rattle.jb_slices.proofs.Faults.{pass-none}

one-passes : Pass (rules_of example_job (limits_of 1)) (class_five ∷ [])
unfolding class_of
one-passes = record { skippable = (refl, tt); few = omega arith }

stops : IsStop (one_function []) (rules_of example_job (limits_of 0)) 0 (item_of 1 ∷ item_of 9 ∷ []) fault_of_nine
unfolding code_of cut field_from fields_in fields_up_to packed packed_field size_code size_from
stops = record { before = 1; within = omega arith; number = refl; class = refl; passed = pass-none _; fails = λ pass. grind arith }

unlike : Failed ≡ Finished → ⊥
unlike e = cc

failed-so-far : IsSliceSoFar example_job one_function 0 (slice_at example_job three 0) failed_slice
unfolding even_ranges code_of cut field_from fields_in fields_up_to packed packed_field size_code size_from
failed-so-far = search (rules, pass-none, stops, unlike)

pub some_fail : SomeFail
some_fail = inl (record { number = 0; failed = search (rules, failed-so-far) })

each-whole : (k : ℕ) → k < 2 → IsSliceWhole example_job one_function (limits_of 1) k (slice_at example_job three k) (folder_with raised_slice second_slice k)
unfolding even_ranges code_of cut field_from fields_in fields_up_to packed packed_field size_code size_from
each-whole zero low = search (rules, failed-so-far, one-passes)
each-whole (suc zero) low = search (rules, pass-none)
each-whole (suc (suc k)) low = absurd (omega (arith, low))

pub some_whole : SomeAreWhole
some_whole = record { last = 1; is_last = search rules; whole = each-whole; few = search rules }

-- the second slice is there, though the first one failed
each-so-far : (k : ℕ) → IsSliceSoFar example_job one_function k (slice_at example_job three k) (folder_with failed_slice second_slice k)
each-so-far zero = failed-so-far
each-so-far (suc zero) = (each-whole 1 (omega arith)).so_far
each-so-far (suc (suc k)) = tt

pub some_so_far : SomeAreSoFar
some_so_far = record { each = each-so-far; none = λ k hasnt. grind arith }
