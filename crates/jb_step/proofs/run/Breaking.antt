-- The attempts of a round that are gone through, up to one that is no commit; and the works that are taken one by one.
use Rattle.std.proofs.Common.{◌≡◌, ℕ, ◌+◌, ◌<◌, Bool, true, false, not, ◌||◌, List, [], ◌∷◌, ◌++◌, length, drop, get_or, map, Option, Some, None, slice_index_or, slice_set, refl, ap, sym, ◌∙◌, append_assoc, append-nil}
use Rattle.std.specs.List.{cons_option}
use Rattle.std.proofs.lemmas.List.{at_drop_more}
use Rattle.jb_cert.specs.Plans.{slot_pair}
use Rattle.jb_cert.specs.declared.plans.Slot.{Slot}
use Rattle.jb_step.specs.inside.table.Places.{emptied, picked}

pub is-passed : (b r : Bool) → b ≡ true → (not b || r) ≡ r
is-passed true r e = refl
is-passed false r e = absurd (cc e)

pub is-found : (b r : Bool) → b ≡ false → (not b || r) ≡ true
is-found true r e = absurd (cc e)
is-found false r e = refl

behind-one : {T : Type 0} (ts rest : List T) (o : Option T) → (ts ++ cons_option o []) ++ rest ≡ ts ++ cons_option o rest
behind-one ts rest None = ap (λ (xs : List _). xs ++ rest) (append-nil ts)
behind-one ts rest (Some t) = append_assoc ts (t ∷ []) rest

-- one slot's task more is taken
pub taken-more : {T : Type 0} (slots : List Slot) (i : ℕ) (d : Slot) (ts more all : List T) (places left : List (Option T)) → i < length slots → left ≡ slice_set places (get_or slots i d).partition None
    → more ≡ ts ++ cons_option (slice_index_or places (get_or slots i d).partition None) [] → ts ++ picked (map slot_pair (drop i slots)) places ≡ all → more ++ picked (map slot_pair (drop (i + 1) slots)) left ≡ all
taken-more slots i d ts more all places left lt left_is more_is so_far =
    let rest = drop (i + 1) slots in
    let one = slice_index_or places (get_or slots i d).partition None in
    ap (λ (ps : List (Option _)). more ++ picked (map slot_pair rest) ps) left_is
    ∙ ap (λ (xs : List _). xs ++ picked (map slot_pair rest) (slice_set places (get_or slots i d).partition None)) more_is
    ∙ behind-one ts (picked (map slot_pair rest) (slice_set places (get_or slots i d).partition None)) one
    ∙ sym (at_drop_more (λ (ss : List Slot). ts ++ picked (map slot_pair ss) places) slots i d lt) ∙ so_far

pub emptied-more : {T : Type 0} (slots : List Slot) (i : ℕ) (d : Slot) (all places left : List (Option T)) → i < length slots → left ≡ slice_set places (get_or slots i d).partition None
    → emptied (map slot_pair (drop i slots)) places ≡ all → emptied (map slot_pair (drop (i + 1) slots)) left ≡ all
emptied-more slots i d all places left lt left_is so_far =
    ap (emptied (map slot_pair (drop (i + 1) slots))) left_is ∙ sym (at_drop_more (λ (ss : List Slot). emptied (map slot_pair ss) places) slots i d lt) ∙ so_far
