-- In a round of the wrap-around the partitions rise with the lanes.
use Rattle.std.proofs.Common.{◌≡◌, ℕ, suc, zero, ◌+◌, ◌*◌, ◌-◌, ◌≤◌, ◌<◌, Bool, true, false, ◌&&◌, cond, List, [], ◌∷◌, map, filter_map, Option, Some, None, refl, ap, sym, arith, ltb-true, ltb-false, le-ltb}
use Rattle.std.specs.Prelude.{nat_lt, max, sum, option_map}
use Rattle.std.specs.List.{range_with_len, cons_option}
use Rattle.std.proofs.lemmas.List.Sums.{sum_by-cons}
use Rattle.jb_cert.specs.declared.plans.Slot.{Slot}
use Rattle.jb_cert.specs.Load.{longest_count, mcnaughton}
use Rattle.jb_cert.specs.Rising.{RiseFrom, Rise}
use Rattle.jb_cert.specs.WrapAround.{partition_at_place, pair_at_place, lane_slot, in_lane, slots_of_round}

-- THE ROW OF ALL CHUNKS

-- either only the first place lies in the first partition (a and b say so of both), or neither does and the rest decides
later_by : (a b : Bool) (p q : ℕ) → (a ≡ true → b ≡ false) → (a ≡ false → (b ≡ false) × (p < q)) → cond a 0 (suc p) < cond b 0 (suc q)
later_by true true p q one two = let never : ⊥ = (let e = one refl in cc) in absurd never
later_by true false p q one two = omega arith
later_by false true p q one two = let never : ⊥ = (let e = (two refl).0 in cc) in absurd never
later_by false false p q one two = let lt = (two refl).1 in omega (arith, lt)

-- two places as far apart as the longest partition is long lie in two partitions
later : (counts : List ℕ) (x y : ℕ) → x + longest_count counts ≤ y → y < sum counts → partition_at_place counts x < partition_at_place counts y
later [] x y far in_row = absurd (omega (arith, in_row))
later (n ∷ ns) x y far in_row =
    let long : n ≤ max n (longest_count ns) = omega arith in
    let rest : longest_count ns ≤ max n (longest_count ns) = omega arith in
    let row : sum (n ∷ ns) ≡ n + sum ns = sum_by-cons (λ (k : ℕ). k) n ns in
    later_by (nat_lt x n) (nat_lt y n) (partition_at_place ns (x - n)) (partition_at_place ns (y - n))
    (λ e. let lt = ltb-true x n e in le-ltb y n (omega (arith, long, far)))
    (λ e. let le = ltb-false x n e in
    (le-ltb y n (omega (arith, le, long, far)), later ns (x - n) (y - n) (omega (arith, le, long, rest, far)) (omega (arith, le, long, far, in_row, row))))

-- A ROUND

-- the partition of a lane's slot lies round the slot's place, which is one of the row's
record IsSlot (counts : List ℕ) (threads r l : ℕ) (slot : Slot) : Type 0 where
  partition : slot.partition ≡ partition_at_place counts (l * mcnaughton counts threads + r)
  in_row : l * mcnaughton counts threads + r < sum counts

slot_by : (b : Bool) (counts : List ℕ) (threads r l : ℕ) (slot : Slot) → (b ≡ true → l * mcnaughton counts threads + r < sum counts)
    → option_map (in_lane l) (cond b (Some (pair_at_place counts (mcnaughton counts threads) (l * mcnaughton counts threads + r))) None) ≡ Some slot
    → IsSlot counts threads r l slot
slot_by false counts threads r l slot within e = let never : ⊥ = cc in absurd never
slot_by true counts threads r l slot within e =
    let is : in_lane l (pair_at_place counts (mcnaughton counts threads) (l * mcnaughton counts threads + r)) ≡ slot = cc in
    record { partition = sym (ap (λ (s : Slot). s.partition) is); in_row = within refl }

last_of : (a b c : Bool) → (a && b && c) ≡ true → c ≡ true
last_of true true c e = e
last_of true false c e = let never : ⊥ = cc in absurd never
last_of false b c e = let never : ⊥ = cc in absurd never

slot_is : (counts : List ℕ) (threads r l : ℕ) (slot : Slot) → lane_slot counts threads r l ≡ Some slot → IsSlot counts threads r l slot
slot_is counts threads r l slot e =
    let rounds = mcnaughton counts threads in
    let x = l * rounds + r in
    slot_by (nat_lt r rounds && nat_lt l threads && nat_lt x (sum counts)) counts threads r l slot
    (λ t. ltb-true x (sum counts) (last_of (nat_lt r rounds) (nat_lt l threads) (nat_lt x (sum counts)) t)) e

-- the places of a later lane lie a whole lane or more le-ltb
lane_behind : (l m rounds r : ℕ) → l < m → (l * rounds + r) + rounds ≤ m * rounds + r
lane_behind l zero rounds r lt = absurd (omega (arith, lt))
lane_behind l (suc m) rounds r lt =
    let more : l * rounds ≤ m * rounds = times l m rounds (omega (arith, lt)) in
    let is : suc m * rounds ≡ m * rounds + rounds = grind arith in
    omega (arith, more, is)
  where
    times : (a b n : ℕ) → a ≤ b → a * n ≤ b * n
    times a b n le = grind arith

lanes_rise : (counts : List ℕ) (threads r l m : ℕ) (slot next : Slot) → lane_slot counts threads r l ≡ Some slot → lane_slot counts threads r m ≡ Some next
    → l < m → slot.partition < next.partition
lanes_rise counts threads r l m slot next e f lt =
    let one = slot_is counts threads r l slot e in
    let two = slot_is counts threads r m next f in
    let rounds = mcnaughton counts threads in
    let long : longest_count counts ≤ rounds = omega arith in
    let far = lane_behind l m rounds r lt in
    let lower = later counts (l * rounds + r) (m * rounds + r) (omega (arith, long, far)) two.in_row in
    let p = one.partition in
    let q = two.partition in
    omega (arith, lower, p, q)

-- ITS SLOTS

abbrev partitions : List Slot → List ℕ
partitions slots = map (λ (slot : Slot). slot.partition) slots

rise_by : (o : Option Slot) (k : ℕ) (slots : List Slot) → ((slot : Slot) → o ≡ Some slot → k ≤ slot.partition)
    → (o ≡ None → RiseFrom k (partitions slots)) → ((slot : Slot) → o ≡ Some slot → RiseFrom (slot.partition + 1) (partitions slots))
    → RiseFrom k (partitions (cons_option o slots))
rise_by None k slots from none some = none refl
rise_by (Some slot) k slots from none some = (from slot refl, some slot refl)

-- what is found at rising numbers rises, where it does so from each number to each later one
found_rise : (f : ℕ → Option Slot) → ((l m : ℕ) (slot next : Slot) → f l ≡ Some slot → f m ≡ Some next → l < m → slot.partition < next.partition)
    → (k l n : ℕ) → ((m : ℕ) (slot : Slot) → l ≤ m → f m ≡ Some slot → k ≤ slot.partition) → RiseFrom k (partitions (filter_map f (range_with_len l n)))
found_rise f law k l zero from = tt
found_rise f law k l (suc n) from =
    rise_by (f l) k (filter_map f (range_with_len (l + 1) n)) (λ slot e. from l slot (omega arith) e)
    (λ none. found_rise f law k (l + 1) n (λ m slot le e. from m slot (omega (arith, le)) e))
    (λ slot e. found_rise f law (slot.partition + 1) (l + 1) n
    (λ m next le g. (let lt = law l m slot next e g (omega (arith, le)) in omega (arith, lt))))

pub slots_rise : (counts : List ℕ) (threads r : ℕ) → Rise (partitions (slots_of_round counts threads r))
slots_rise counts threads r =
    found_rise (lane_slot counts threads r) (λ l m slot next e f lt. lanes_rise counts threads r l m slot next e f lt) 0 0 threads (λ m slot le e. omega arith)
