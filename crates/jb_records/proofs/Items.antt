-- The faults of a range of records are those of its items.
use Rattle.std.proofs.Common.{◌≡◌, ℕ, zero, suc, ◌+◌, ◌-◌, ◌≤◌, ◌<◌, List, [], ◌∷◌, length, take, drop, map, Option, None, Some, refl, ap, sym, ◌∙◌, arith, drop-cons}
use Rattle.std.specs.Prelude.{slice_index_or}
use Rattle.std.specs.List.{cons_option, filter_map, range_with_len}
use Rattle.jb_base.specs.declared.class.ClassId.{ClassId}
use Rattle.jb_ready.specs.declared.notes.Note.{Note}
use Rattle.jb_slices.specs.Function.{fault_classes}
use Rattle.jb_records.specs.Artifacts.{record_of}
use Rattle.jb_records.specs.FollowingLaws.{FaultsAreOfItems}
use Rattle.jb_records.specs.Function.{Function, refusal_of}
use Rattle.jb_records.specs.Skips.{skip_by}

module _ (f : Function) (records : List (List ℕ)) where
  -- one record
  class-by : (k : ℕ) (o : Option ClassId) (notes : List Note) → map (λ (note : Note). note.class) (cons_option (skip_by k o) notes) ≡ cons_option o (map (λ (note : Note). note.class) notes)
  class-by k None notes = refl
  class-by k (Some class) notes = refl

  item-at : (lo n : ℕ) → lo < length records → take (suc n) (drop lo records) ≡ slice_index_or records (lo - 0) [] ∷ take n (drop (lo + 1) records)
  item-at lo n below =
      let here : lo ≡ lo - 0 = omega arith in
      let next : suc lo ≡ lo + 1 = omega arith in
      ap (take (suc n)) (drop-cons records lo [] below) ∙ (λ i. slice_index_or records (here i) [] ∷ take n (drop (next i) records))

  classes-of : (n lo : ℕ) → lo + n ≤ length records → map (λ (note : Note). note.class) (filter_map (λ k. skip_by k (refusal_of f (record_of 0 records k))) (range_with_len lo n)) ≡ fault_classes f.answer (take n (drop lo records))
  classes-of zero lo below = refl
  classes-of (suc n) lo below =
      class-by lo (refusal_of f (record_of 0 records lo)) (filter_map (λ k. skip_by k (refusal_of f (record_of 0 records k))) (range_with_len (lo + 1) n))
      ∙ ap (cons_option (refusal_of f (record_of 0 records lo))) (classes-of n (lo + 1) (omega (arith, below)))
      ∙ sym (ap (fault_classes f.answer) (item-at lo n (omega (arith, below))))

pub classes-items : FaultsAreOfItems
classes-items f records lo hi le below = classes-of f records (hi - lo) lo (omega (arith, le, below))
