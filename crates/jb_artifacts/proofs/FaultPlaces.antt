-- Where a record's plan stands in a list of plans that is in the order of the records' numbers, and what the list then tells of each record.
use Rattle.std.proofs.Common.{◌≡◌, ℕ, zero, suc, ◌+◌, ◌-◌, ◌<◌, ◌≤◌, [], ◌∷◌, Bool, true, false, cond, length, get_or, set, refl, ap, sym, subst, ◌∙◌, Option, Some, None, ⊎_elim, arith, Less, Greater}
use Rattle.std.specs.Prelude.{slice_get, unwrap_or, ◌==◌, if◌then◌else◌}
use Rattle.std.specs.List.{insert}
use Rattle.std.specs.List.Sorted.{IsStrictlySortedBy, IsNonDecreasingBy}
use Rattle.std.specs.Cmp.{nat_cmp_is}
use Rattle.std.specs.Map.{keys_of, lookup}
use Rattle.std.specs.BTreeMap.{is_at}
use Rattle.std.specs.Ordering.{nat_cmp}
use Rattle.std.proofs.lemmas.Cmp.{nat_cmp_total, eq_by_cmp_equiv}
use Rattle.std.proofs.lemmas.Bool.{cases_lt, eqb-true}
use Rattle.std.proofs.lemmas.Bool.Decides.{nat_tests}
use Rattle.std.proofs.lemmas.List.{get_or-map, get_or_default, get_or-set_same, length-set}
use Rattle.std.proofs.lemmas.List.Edits.{length-insert, get_or-insert_at, get_or-insert_below, get_or-insert_above}
use Rattle.std.proofs.lemmas.Option.{get_or_from_slice_get, slice_get_read, slice_get_within}
use Rattle.std.proofs.lemmas.Map.Keys.{below_from_sorted, non_decreasing_from_sorted, sorted_from_all_adjacent, IsDistinct-from_sorted}
use Rattle.std.proofs.lemmas.Map.Entries.{length-keys_of, lookup_at_gap, lookup_from_place, lookup_tail}
use Rattle.jb_artifacts.specs.declared.faults.FaultPlan.{FaultPlan}
use Rattle.jb_artifacts.specs.declared.faults.FaultPlan.TheVariants.{Sound}
use Rattle.jb_artifacts.specs.Faults.{live, plans_of}
use Rattle.jb_artifacts.specs.inside.FaultPlaces.{Entries, DoNumbersRise, IsPlaceOf, IsGapFor}
use Rattle.jb_artifacts.proofs.FaultTables.{found_by}

-- ---- where it stands

-- the number at a place is the same, whatever stands for one past the end
pub number-at : (entries : Entries) (i : ℕ) (d e : ℕ × FaultPlan) → i < length entries → (get_or entries i d).0 ≡ (get_or entries i e).0
number-at entries i d e below = ap (λ (entry : ℕ × FaultPlan). entry.0) (get_or_default entries i d e below)

pub rising : (entries : Entries) → DoNumbersRise entries → IsNonDecreasingBy (λ entry. entry.0) entries
rising entries order i j d le below =
    let keys : length (keys_of entries) ≡ length entries = length-keys_of entries in
    let first = get_or-map (λ (entry : ℕ × FaultPlan). entry.0) entries i d d.0 (omega arith) in
    let second = get_or-map (λ (entry : ℕ × FaultPlan). entry.0) entries j d d.0 below in
    let up : get_or (keys_of entries) i d.0 ≤ get_or (keys_of entries) j d.0 = non_decreasing_from_sorted (keys_of entries) order i j d.0 le (omega arith) in
    omega arith

-- a place with a smaller number before it, and none at it
pub place-between : (number : ℕ) (entries : Entries) (place : ℕ) → DoNumbersRise entries → place ≤ length entries
    → ((d : ℕ × FaultPlan) → 0 < place → (get_or entries (place - 1) d).0 < number)
    → ((d : ℕ × FaultPlan) → place < length entries → number ≤ (get_or entries place d).0)
    → IsPlaceOf number entries place
place-between number entries place order bound before after = record {
  bound = bound;
  parts = (
    (λ k d from below. let up = rising entries order k (place - 1) d (omega arith) (omega arith) in let low = before d (omega arith) in omega arith),
    (λ k d from below. let up = rising entries order place k d from below in let high = after d (omega arith) in omega arith),
  );
}

-- where the record has no plan
pub gap-at : (number : ℕ) (entries : Entries) (place : ℕ) → DoNumbersRise entries → IsPlaceOf number entries place
    → ((d : ℕ × FaultPlan) → place < length entries → (get_or entries place d).0 ≡ number → ⊥) → IsGapFor number entries place
gap-at number entries place order is other = record {
  bound = is.bound;
  parts = (
    is.parts.0,
    (λ k d from below.
        let up = rising entries order place k d from below in
        let here = is.parts.1 place d (omega arith) (omega arith) in
        let apart = other d (omega arith) in
        omega arith),
  );
}

pub none-yet : DoNumbersRise []
unfolding IsStrictlySortedBy
none-yet = tt

-- ---- what the list tells

pub none-at : (number : ℕ) (entries : Entries) (place : ℕ) → DoNumbersRise entries → IsGapFor number entries place → lookup (is_at (nat_cmp number)) entries ≡ None
none-at number entries place order gap = lookup_at_gap nat_cmp_total number entries place order
    (λ j entry below is. sym (nat_cmp_is number entry.0 Greater (let low = gap.parts.0 j entry (omega arith) below in let same = ap (λ (e : ℕ × FaultPlan). e.0) (get_or_from_slice_get entries j entry entry is) in omega arith)))
    (λ entry is. sym (nat_cmp_is number entry.0 Less (let within = slice_get_within entries place entry is in let high = gap.parts.1 place entry (omega arith) within in let same = ap (λ (e : ℕ × FaultPlan). e.0) (get_or_from_slice_get entries place entry entry is) in omega arith)))

pub found-at : (number : ℕ) (entries : Entries) (place : ℕ) (plan : FaultPlan) → DoNumbersRise entries → slice_get entries place ≡ Some (number, plan)
    → lookup (is_at (nat_cmp number)) entries ≡ Some plan
found-at number entries place plan order is = lookup_from_place (eq_by_cmp_equiv nat_cmp_total) entries place number plan (IsDistinct-from_sorted nat_cmp (keys_of entries) order) is

-- the class with which a call for the record fails, by what is told of it
pub live-where : (number : ℕ) (inside entries : Entries) (found : Option FaultPlan) → inside ≡ entries → lookup (is_at (nat_cmp number)) inside ≡ found
    → live (unwrap_or found Sound) ≡ live (plans_of entries number)
live-where number inside entries found same is =
    sym (ap (λ (plan : Option FaultPlan). live (unwrap_or plan Sound)) is) ∙ ap (λ (es : Entries). live (plans_of es number)) same

-- an entry that was read is the one that was found
pub read-is : (number : ℕ) (entries : Entries) (place : ℕ) (plan : FaultPlan) (entry : ℕ × FaultPlan) → slice_get entries place ≡ Some (number, plan)
    → entry ≡ get_or entries place entry → entry ≡ (number, plan)
read-is number entries place plan entry is read = read ∙ get_or_from_slice_get entries place (number, plan) entry is

-- ---- another plan in place of one

-- the numbers stay
pub numbers-kept : (entries : Entries) (place : ℕ) (entry : ℕ × FaultPlan) (number : ℕ) (plan : FaultPlan) → slice_get entries place ≡ Some (number, plan)
    → entry.0 ≡ number → keys_of (set entries place entry) ≡ keys_of entries
numbers-kept [] place entry number plan is same = refl
numbers-kept (first ∷ entries) zero entry number plan is same =
    ap (λ n. n ∷ keys_of entries) (same ∙ sym (ap (λ (e : ℕ × FaultPlan). e.0) (get_or_from_slice_get (first ∷ entries) 0 (number, plan) first is)))
numbers-kept (first ∷ entries) (suc place) entry number plan is same = ap (λ ns. first.0 ∷ ns) (numbers-kept entries place entry number plan is same)

passed-over : (test : ℕ → Bool) (entries : Entries) (place : ℕ) (entry before : ℕ × FaultPlan) → slice_get entries place ≡ Some before
    → test before.0 ≡ false → test entry.0 ≡ false → lookup test (set entries place entry) ≡ lookup test entries
passed-over test [] place entry before is old new = refl
passed-over test (first ∷ entries) zero entry before is old new =
    let fails : test first.0 ≡ false = ap (λ (e : ℕ × FaultPlan). test e.0) (get_or_from_slice_get (first ∷ entries) 0 before first is) ∙ old in
    lookup_tail test entry entries new ∙ sym (lookup_tail test first entries fails)
passed-over test (first ∷ entries) (suc place) entry before is old new =
    ap (λ later. cond (test first.0) (Some first.1) later) (passed-over test entries place entry before is old new)

-- what the list tells afterwards: of the record this plan, and of each other what it told before
told : (number : ℕ) (before after : Entries) (plan : FaultPlan) → lookup (is_at (nat_cmp number)) after ≡ Some plan
    → ((q : ℕ) → (q == number) ≡ false → lookup (is_at (nat_cmp q)) after ≡ lookup (is_at (nat_cmp q)) before)
    → (q : ℕ) (b : Bool) → (q == number) ≡ b
    → lookup (is_at (nat_cmp q)) after ≡ (if is_at (nat_cmp number) q then Some plan else lookup (is_at (nat_cmp q)) before)
told number before after plan own others q true is =
    ap (λ n. lookup (is_at (nat_cmp n)) after) (eqb-true q number is) ∙ own ∙ sym (ap (λ b. if b then Some plan else lookup (is_at (nat_cmp q)) before) (found_by number q ∙ is))
told number before after plan own others q false is =
    others q is ∙ sym (ap (λ b. if b then Some plan else lookup (is_at (nat_cmp q)) before) (found_by number q ∙ is))

fails-at : (q number : ℕ) → (q == number) ≡ false → is_at (nat_cmp q) number ≡ false
fails-at q number apart = found_by q number ∙ grind (arith, nat_tests, apart)

pub changed-order : (number : ℕ) (entries : Entries) (place : ℕ) (plan next : FaultPlan) → DoNumbersRise entries → slice_get entries place ≡ Some (number, plan)
    → DoNumbersRise (set entries place (number, next))
changed-order number entries place plan next order is = subst (IsStrictlySortedBy nat_cmp) (sym (numbers-kept entries place (number, next) number plan is refl)) order

pub changed-at : (number : ℕ) (entries : Entries) (place : ℕ) (plan next : FaultPlan) → DoNumbersRise entries → slice_get entries place ≡ Some (number, plan)
    → (q : ℕ) → lookup (is_at (nat_cmp q)) (set entries place (number, next)) ≡ (if is_at (nat_cmp number) q then Some next else lookup (is_at (nat_cmp q)) entries)
changed-at number entries place plan next order is q =
    let changed = set entries place (number, next) in
    let within = slice_get_within entries place (number, plan) is in
    let here : slice_get changed place ≡ Some (number, next) =
    slice_get_read changed (length changed) place (number, next) refl (omega (arith, length-set entries place (number, next))) (sym (get_or-set_same entries place (number, next) (number, next) within)) in
    told number entries changed next (found-at number changed place next (changed-order number entries place plan next order is) here)
    (λ q apart. passed-over (is_at (nat_cmp q)) entries place (number, next) (number, plan) is (fails-at q number apart) (fails-at q number apart)) q (q == number) refl

-- ---- one plan more

steeply : (entries : Entries) → DoNumbersRise entries → (i j : ℕ) (d : ℕ × FaultPlan) → i < j → j < length entries → (get_or entries i d).0 < (get_or entries j d).0
steeply entries order i j d less below =
    let keys : length (keys_of entries) ≡ length entries = length-keys_of entries in
    let first = get_or-map (λ (entry : ℕ × FaultPlan). entry.0) entries i d d.0 (omega arith) in
    let second = get_or-map (λ (entry : ℕ × FaultPlan). entry.0) entries j d d.0 below in
    let up : get_or (keys_of entries) i d.0 < get_or (keys_of entries) j d.0 = below_from_sorted (keys_of entries) i j d.0 order less (omega arith) in
    omega arith

inserted-rises : (number : ℕ) (entries : Entries) (place : ℕ) (plan : FaultPlan) → DoNumbersRise entries → IsGapFor number entries place
    → (k : ℕ) (d : ℕ × FaultPlan) → k < length entries → (get_or (insert entries place (number, plan)) k d).0 < (get_or (insert entries place (number, plan)) (k + 1) d).0
inserted-rises number entries place plan order gap k d below =
    let entry : ℕ × FaultPlan = (number, plan) in
    let more = insert entries place entry in
    let n = λ (i : ℕ). (get_or more i d).0 in
    let under = λ (i : ℕ) (low : i < place). ap (λ (e : ℕ × FaultPlan). e.0) (get_or-insert_below entries place entry d i low gap.bound) in
    let at : n place ≡ number = ap (λ (e : ℕ × FaultPlan). e.0) (get_or-insert_at entries place entry d gap.bound) in
    let over = λ (i : ℕ) (high : place ≤ i). ap (λ (e : ℕ × FaultPlan). e.0) (get_or-insert_above entries place entry d i high gap.bound) in
    ⊎_elim
    (λ (low : k + 1 < place).
    let up = steeply entries order k (k + 1) d (omega arith) (omega (arith, gap.bound)) in
    let first = under k (omega arith) in
    let second = under (k + 1) low in
    omega (arith, first, second, up))
    (λ (not_low : place ≤ k + 1). ⊎_elim
    (λ (low : k < place).
    let up = gap.parts.0 k d (omega arith) low in
    let first = under k low in
    let second : n (k + 1) ≡ n place = ap n (omega arith) in
    omega (arith, first, second, at, up))
    (λ (high : place ≤ k). ⊎_elim
    (λ (past : place < k).
    let up = steeply entries order (k - 1) k d (omega arith) below in
    let same : n k ≡ n (k - 1 + 1) = ap n (omega arith) in
    let first = over (k - 1) (omega arith) in
    let second = over k high in
    omega (arith, same, first, second, up))
    (λ (not_past : k ≤ place).
    let up = gap.parts.1 k d high below in
    let same : n k ≡ n place = ap n (omega arith) in
    let second = over k high in
    omega (arith, same, at, second, up))
    (cases_lt place k))
    (cases_lt k place))
    (cases_lt (k + 1) place)

pub inserted-order : (number : ℕ) (entries : Entries) (place : ℕ) (plan : FaultPlan) → DoNumbersRise entries → IsGapFor number entries place → DoNumbersRise (insert entries place (number, plan))
inserted-order number entries place plan order gap =
    let more = insert entries place (number, plan) in
    let long : length more ≡ length entries + 1 = length-insert entries place (number, plan) gap.bound in
    sorted_from_all_adjacent nat_cmp_total (keys_of more) number (λ k below.
    let keys : length (keys_of more) ≡ length more = length-keys_of more in
    let first = get_or-map (λ (entry : ℕ × FaultPlan). entry.0) more k (number, plan) number (omega arith) in
    let second = get_or-map (λ (entry : ℕ × FaultPlan). entry.0) more (k + 1) (number, plan) number (omega arith) in
    let up = inserted-rises number entries place plan order gap k (number, plan) (omega arith) in
    let rises : get_or (keys_of more) k number < get_or (keys_of more) (k + 1) number = omega (arith, first, second, up) in
    sym (nat_cmp_is (get_or (keys_of more) k number) (get_or (keys_of more) (k + 1) number) Less rises))

behind-others : (test : ℕ → Bool) (entries : Entries) (place : ℕ) (entry : ℕ × FaultPlan) → test entry.0 ≡ false → lookup test (insert entries place entry) ≡ lookup test entries
behind-others test entries zero entry fails = lookup_tail test entry entries fails
behind-others test [] (suc place) entry fails = lookup_tail test entry [] fails
behind-others test (first ∷ entries) (suc place) entry fails = ap (λ later. cond (test first.0) (Some first.1) later) (behind-others test entries place entry fails)

pub inserted-at : (number : ℕ) (entries : Entries) (place : ℕ) (plan : FaultPlan) → DoNumbersRise entries → IsGapFor number entries place
    → (q : ℕ) → lookup (is_at (nat_cmp q)) (insert entries place (number, plan)) ≡ (if is_at (nat_cmp number) q then Some plan else lookup (is_at (nat_cmp q)) entries)
inserted-at number entries place plan order gap q =
    let more = insert entries place (number, plan) in
    let here : slice_get more place ≡ Some (number, plan) =
    slice_get_read more (length more) place (number, plan) refl (let bound = gap.bound in omega (arith, length-insert entries place (number, plan) gap.bound)) (sym (get_or-insert_at entries place (number, plan) (number, plan) gap.bound)) in
    told number entries more plan (found-at number more place plan (inserted-order number entries place plan order gap) here)
    (λ q apart. behind-others (is_at (nat_cmp q)) entries place (number, plan) (fails-at q number apart)) q (q == number) refl
