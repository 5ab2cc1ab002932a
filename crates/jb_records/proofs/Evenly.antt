-- Even ranges follow one another.
use Rattle.std.proofs.Common.{◌≡◌, ℕ, zero, suc, ◌+◌, ◌*◌, ◌/◌, ◌%◌, ◌<◌, ◌≤◌, refl, ap, sym, subst, ◌∙◌, arith}
use Rattle.std.proofs.Math.Nat.{div-add-mod, mod-lt, mul-le-mul_right, zero-mul}
use Rattle.std.specs.Prelude.{Bool, Err, List, [], Ok, Result, false, map}
use Rattle.std.specs.List.{range_with_len}
use Rattle.jb_base.specs.declared.class.ClassId.{ClassId}
use Rattle.jb_base.specs.declared.range.Range.{Range}
use Rattle.jb_plan.specs.declared.plan.PartitionPlan.{PartitionPlan}
use Rattle.jb_mapper.specs.Mapping.{even}
use Rattle.jb_mapper.specs.EvenCover.{bound, even_range, even_ranges}
use Rattle.jb_records.specs.PartitionResults.{AreRangesOf}

rises : (records parts i : ℕ) → bound records parts i ≤ bound records parts (i + 1)
rises records parts i =
    let le : i ≤ i + 1 = omega arith in
    let more : i * (records / parts) ≤ (i + 1) * (records / parts) = mul-le-mul_right (records / parts) le in
    omega (arith, more)

follow : (records parts n i to : ℕ) → to ≡ bound records parts (i + n) → AreRangesOf (bound records parts i) to (map (even_range records parts) (range_with_len i n))
follow records parts zero i to is = let none : i + 0 ≡ i = omega arith in sym (is ∙ ap (bound records parts) none)
follow records parts (suc n) i to is =
    let next : i + suc n ≡ (i + 1) + n = omega arith in
    (refl, rises records parts i, follow records parts n (i + 1) to (is ∙ ap (bound records parts) next))

abbrev ranges-or : List Range → Result PartitionPlan ClassId → List Range
ranges-or ranges (Ok plan) = plan.ranges
ranges-or ranges (Err class) = ranges

abbrev replace-or : Bool → Result PartitionPlan ClassId → Bool
replace-or replace (Ok plan) = plan.replace
replace-or replace (Err class) = replace

-- from 0 to the number of records
pub evenly : (records parts : ℕ) → 1 ≤ parts → AreRangesOf 0 records (even_ranges records parts)
unfolding even_ranges
evenly records parts some =
    let none : 0 * (records / parts) ≡ 0 = zero-mul (records / parts) in
    let start : bound records parts 0 ≡ 0 = omega (arith, none) in
    let whole : parts * (records / parts) + records % parts ≡ records = div-add-mod records parts in
    let rest : records % parts < parts = mod-lt records some in
    let end : records ≡ bound records parts (0 + parts) = omega (arith, whole, rest) in
    subst (λ from. AreRangesOf from records (map (even_range records parts) (range_with_len 0 parts))) start (follow records parts parts 0 records end)

-- the ranges of the even mapper's plan
pub ranges-in-order : (mapped : Result PartitionPlan ClassId) (records parts threads : ℕ) (plan : PartitionPlan) → 1 ≤ parts → mapped ≡ even parts threads false records → mapped ≡ Ok plan → AreRangesOf 0 records plan.ranges
ranges-in-order mapped records parts threads plan some even-is is =
    let same : even_ranges records parts ≡ plan.ranges = ap (ranges-or []) (sym even-is ∙ is) in
    subst (AreRangesOf 0 records) same (evenly records parts some)

-- it has no override
pub none-replaced : (mapped : Result PartitionPlan ClassId) (records parts threads : ℕ) (plan : PartitionPlan) → mapped ≡ even parts threads false records → mapped ≡ Ok plan → plan.replace ≡ false
none-replaced mapped records parts threads plan even-is is = sym (ap (replace-or false) (sym even-is ∙ is))
