-- Even ranges cover the records.
use Rattle.std.proofs.Common.{◌≡◌, ℕ, zero, suc, ◌+◌, ◌-◌, ◌*◌, ◌/◌, ◌%◌, ◌<◌, ◌≤◌, Bool, true, false, length, get_or, refl, sym, arith, subst}
use Rattle.std.proofs.Math.Nat.{mul-le-mul_right, div-add-mod, mod-lt, suc-mul, zero-mul}
use Rattle.std.specs.Prelude.{min, nat_lt, if◌then◌else◌, All}
use Rattle.std.proofs.lemmas.List.FromFn.{get_or-map-range_with_len, length-map-range_with_len}
use Rattle.std.proofs.lemmas.Bool.{ltb-true, ltb-false}
use Rattle.jb_base.specs.declared.range.Range.{Range}
use Rattle.jb_plan.specs.Plans.{IsWithin}
use Rattle.jb_plan.specs.Ranges.{HaveNoneInCommon, AreDisjoint}
use Rattle.jb_mapper.specs.EvenCover.{bound, even_range, even_ranges, ith_range, HasRecord, IsEvenCover}

-- no range goes past the records
pub bound_below : (records parts i : ℕ) → 1 ≤ parts → i ≤ parts → i * (records / parts) + min i (records % parts) ≤ records
bound_below records parts i some within =
    let whole : parts * (records / parts) + records % parts ≡ records = div-add-mod records parts in
    let most : i * (records / parts) ≤ parts * (records / parts) = mul-le-mul_right (records / parts) within in
    omega (arith, whole, most)

-- the ranges end where the records do
bound-all : (records parts : ℕ) → 1 ≤ parts → bound records parts parts ≡ records
bound-all records parts some =
    let whole : parts * (records / parts) + records % parts ≡ records = div-add-mod records parts in
    let rest : records % parts < parts = mod-lt records some in
    omega (arith, whole, rest)

bound-none : (records parts : ℕ) → bound records parts 0 ≡ 0
bound-none records parts = let nothing : 0 * (records / parts) ≡ 0 = zero-mul (records / parts) in omega (arith, nothing)

bound-rises : (records parts i j : ℕ) → i ≤ j → bound records parts i ≤ bound records parts j
bound-rises records parts i j le =
    let more : i * (records / parts) ≤ j * (records / parts) = mul-le-mul_right (records / parts) le in
    omega (arith, more, le)

-- a range has as many records as divide evenly, and one of the rest while there are some
size_by : (here : Bool) (records parts i : ℕ) → nat_lt i (records % parts) ≡ here → bound records parts (i + 1) ≡ bound records parts i + (records / parts + (if here then 1 else 0))
size_by true records parts i e =
    let lt = ltb-true i (records % parts) e in
    let product : suc i * (records / parts) ≡ i * (records / parts) + records / parts = suc-mul i (records / parts) in
    omega (arith, product, lt)
size_by false records parts i e =
    let le = ltb-false i (records % parts) e in
    let product : suc i * (records / parts) ≡ i * (records / parts) + records / parts = suc-mul i (records / parts) in
    omega (arith, product, le)

-- the range whose end is the first past a record
record IsBetween (records parts n x : ℕ) : Type 0 where
  pub place : ℕ
  pub within : place < n
  pub from : bound records parts place ≤ x
  pub to : x < bound records parts (place + 1)

between_by : (here : Bool) (records parts n x : ℕ) → nat_lt x (bound records parts n) ≡ here → x < bound records parts (suc n) → (x < bound records parts n → IsBetween records parts n x) → IsBetween records parts (suc n) x
between_by true records parts n x e below before =
    let found = before (ltb-true x (bound records parts n) e) in
    record { place = found.place; within = (let lt = found.within in omega (arith, lt)); from = found.from; to = found.to }
between_by false records parts n x e below before =
    record { place = n; within = omega arith; from = ltb-false x (bound records parts n) e; to = (let next : suc n ≡ n + 1 = omega arith in subst (λ (m : ℕ). x < bound records parts m) next below) }

between : (records parts n x : ℕ) → x < bound records parts n → IsBetween records parts n x
between records parts zero x below = let none = bound-none records parts in absurd (omega (arith, none, below))
between records parts (suc n) x below = between_by (nat_lt x (bound records parts n)) records parts n x refl below (λ lt. between records parts n x lt)

-- the i-th of the even ranges
place : (records parts i : ℕ) → i < parts → ith_range (even_ranges records parts) i ≡ even_range records parts i
unfolding even_ranges
place records parts i lt = get_or-map-range_with_len (even_range records parts) 0 parts i i _ lt (omega arith)

pub number : (records parts : ℕ) → length (even_ranges records parts) ≡ parts
unfolding even_ranges
number records parts = length-map-range_with_len (even_range records parts) 0 parts

stands : (records parts x : ℕ) → IsBetween records parts parts x → (i : ℕ) × HasRecord (even_ranges records parts) i x
stands records parts x b =
    let e = place records parts b.place b.within in
    (b.place, ((let n = number records parts in let lt = b.within in omega (arith, n, lt)), rw e b.from, rw e b.to))

-- a record stands in no earlier range than another one of its ranges
not_before : (records parts i j x : ℕ) → x < bound records parts (i + 1) → bound records parts j ≤ x → i < j → ⊥
not_before records parts i j x below from lt =
    let rises = bound-rises records parts (i + 1) j (omega (arith, lt)) in omega (arith, below, from, rises)

same_by : (before after : Bool) (records parts i j x : ℕ) → nat_lt i j ≡ before → nat_lt j i ≡ after
    → bound records parts i ≤ x → x < bound records parts (i + 1) → bound records parts j ≤ x → x < bound records parts (j + 1) → i ≡ j
same_by true after records parts i j x e f from to from' to' = absurd (not_before records parts i j x to from' (ltb-true i j e))
same_by false true records parts i j x e f from to from' to' = absurd (not_before records parts j i x to' from (ltb-true j i f))
same_by false false records parts i j x e f from to from' to' = let le = ltb-false i j e in let ge = ltb-false j i f in omega (arith, le, ge)

once_at : (records parts i j x : ℕ) → i < parts → j < parts → HasRecord (even_ranges records parts) i x → HasRecord (even_ranges records parts) j x → i ≡ j
once_at records parts i j x lt lt' a b =
    let from : bound records parts i ≤ x = subst (λ (r : Range). r.lo ≤ x) (place records parts i lt) a.1 in
    let to : x < bound records parts (i + 1) = subst (λ (r : Range). x < r.hi) (place records parts i lt) a.2 in
    let from' : bound records parts j ≤ x = subst (λ (r : Range). r.lo ≤ x) (place records parts j lt') b.1 in
    let to' : x < bound records parts (j + 1) = subst (λ (r : Range). x < r.hi) (place records parts j lt') b.2 in
    same_by (nat_lt i j) (nat_lt j i) records parts i j x refl refl from to from' to'

once : (records parts i j x : ℕ) → HasRecord (even_ranges records parts) i x → HasRecord (even_ranges records parts) j x → i ≡ j
once records parts i j x a b =
    let n = number records parts in
    let lt : i < parts = subst (λ (m : ℕ). i < m) n a.0 in
    let lt' : j < parts = subst (λ (m : ℕ). j < m) n b.0 in
    once_at records parts i j x lt lt' a b

-- the even ranges cover the records evenly
pub is_even_cover : (records parts : ℕ) → 1 ≤ parts → IsEvenCover records parts (even_ranges records parts)
is_even_cover records parts some = record {
  number = number records parts;
  first = rw (place records parts 0 some) (bound-none records parts);
  next = λ i lt. rw (place records parts (i + 1) lt, place records parts i (omega (arith, lt))) refl;
  last = rw (place records parts (parts - 1) (omega (arith, some))) (let e : parts - 1 + 1 ≡ parts = omega (arith, some) in rw e (bound-all records parts some));
  size = λ i lt. rw (place records parts i lt) (size_by (nat_lt i (records % parts)) records parts i refl);
  somewhere = λ x lt. stands records parts x (between records parts parts x (rw (bound-all records parts some) lt));
  once = λ i j x a b. once records parts i j x a b;
}

within_at : (records parts i : ℕ) → 1 ≤ parts → i < parts → IsWithin records (even_range records parts i)
within_at records parts i some lt =
    (bound-rises records parts i (i + 1) (omega arith), bound_below records parts (i + 1) some (omega (arith, lt)))

apart_at : (records parts i j : ℕ) → i < j → HaveNoneInCommon (even_range records parts i) (even_range records parts j)
apart_at records parts i j lt x from to from' to' = not_before records parts i j x to from' lt

-- the k-th of the list of even ranges, whatever stands past its end
listed : (records parts k : ℕ) (d : Range) → k < parts → get_or (even_ranges records parts) k d ≡ even_range records parts k
unfolding even_ranges
listed records parts k d lt = get_or-map-range_with_len (even_range records parts) 0 parts k k d lt (omega arith)

-- even ranges lie within the records, and no record stands in two of them
pub even_within : (records parts : ℕ) → 1 ≤ parts → All (IsWithin records) (even_ranges records parts)
even_within records parts some k d below =
    let count = number records parts in
    let lt : k < parts = omega (arith, count, below) in
    subst (IsWithin records) (sym (listed records parts k d lt)) (within_at records parts k some lt)

pub even_apart : (records parts : ℕ) → AreDisjoint (even_ranges records parts)
even_apart records parts i j d before below =
    let count = number records parts in
    let lt : j < parts = omega (arith, count, below) in
    let first : i < parts = omega (arith, before, lt) in
    subst (λ r. HaveNoneInCommon r (get_or (even_ranges records parts) j d)) (sym (listed records parts i d first))
    (subst (HaveNoneInCommon (even_range records parts i)) (sym (listed records parts j d lt)) (apart_at records parts i j before))
