-- The fault plans of a range's records: its faults stand together, and each is one plan more.
use Rattle.std.proofs.Common.{◌≡◌, ℕ, suc, ◌+◌, ◌<◌, ◌≤◌, ◌++◌, ◌∷◌, [], ◌==◌, List, Bool, true, false, cond, filter, find, get_or, length, take, drop, reverse, Option, Some, refl, ap, sym, ◌∙◌, arith}
use Rattle.std.specs.Prelude.{◌&&◌, nat_le, nat_lt}
use Rattle.std.proofs.Math.Path.{fun_ext}
use Rattle.std.proofs.lemmas.Bool.Decides.{nat_tests}
use Rattle.std.proofs.lemmas.List.{reverse-append, append-nil, take-append-drop, get_or-take, get_or-drop, length-take-le, length-drop}
use Rattle.std.proofs.lemmas.List.Elements.{filter-append}
use Rattle.jb_base.specs.declared.range.Range.{Range}
use Rattle.jb_artifacts.specs.Faults.{with_plan}
use Rattle.jb_documents.specs.declared.run.faults.PlannedFault.{PlannedFault}
use Rattle.jb_program.specs.PartitionRun.{is_of_range, fault_plan_by, fault_plan_of, fault_plans}

-- ---- one plan more

either : (b : Bool) (fault : PlannedFault) (later : Option PlannedFault) → fault_plan_by (cond b (Some fault) later) ≡ cond b (fault_plan_of fault.kind) (fault_plan_by later)
either true fault later = refl
either false fault later = refl

plans-by : (faults : List PlannedFault) (fault : PlannedFault) (k : ℕ)
    → fault_plans (faults ++ fault ∷ []) k ≡ with_plan (fault_plans faults) fault.number (fault_plan_of fault.kind) k
plans-by faults fault k = rw (reverse-append faults (fault ∷ [])) (either (k == fault.number) fault (find (λ earlier. k == earlier.number) (reverse faults)))

pub plans-more : (faults : List PlannedFault) (fault : PlannedFault)
    → fault_plans (faults ++ fault ∷ []) ≡ with_plan (fault_plans faults) fault.number (fault_plan_of fault.kind)
plans-more faults fault = fun_ext (λ k. plans-by faults fault k)

-- ---- where the faults of a range stand

module _ {X : Type 0} (p : X → Bool) where
  kept : (x : X) (xs : List X) (b : Bool) → p x ≡ b → filter p (x ∷ xs) ≡ cond b (x ∷ filter p xs) (filter p xs)
  kept x xs b is = ap (λ t. cond t (x ∷ filter p xs) (filter p xs)) is

  none-pass : (xs : List X) → ((k : ℕ) (d : X) → k < length xs → p (get_or xs k d) ≡ false) → filter p xs ≡ []
  none-pass [] fail = refl
  none-pass (x ∷ xs) fail = kept x xs false (fail 0 x (omega arith)) ∙ none-pass xs (λ k d below. fail (suc k) d (omega (arith, below)))

  all-pass : (xs : List X) → ((k : ℕ) (d : X) → k < length xs → p (get_or xs k d) ≡ true) → filter p xs ≡ xs
  all-pass [] pass = refl
  all-pass (x ∷ xs) pass = kept x xs true (pass 0 x (omega arith)) ∙ ap (λ ys. x ∷ ys) (all-pass xs (λ k d below. pass (suc k) d (omega (arith, below))))

  -- those that pass stand together, before others and behind others
  together : (before own behind xs : List X) → before ++ (own ++ behind) ≡ xs → filter p before ≡ [] → filter p own ≡ own → filter p behind ≡ [] → own ≡ filter p xs
  together before own behind xs is none all no_more =
      sym (ap (filter p) (sym is) ∙ filter-append p before (own ++ behind) ∙ ap (λ ys. ys ++ filter p (own ++ behind)) none
      ∙ filter-append p own behind ∙ ap (λ ys. ys ++ filter p behind) all ∙ ap (λ ys. own ++ ys) no_more ∙ append-nil own)

too-low : (range : Range) (fault : PlannedFault) → nat_lt fault.number range.lo ≡ true → is_of_range range fault ≡ false
too-low range fault low = let not : nat_le range.lo fault.number ≡ false = grind (arith, nat_tests, low) in ap (λ b. b && nat_lt fault.number range.hi) not

too-high : (range : Range) (fault : PlannedFault) (b : Bool) → nat_le range.lo fault.number ≡ b → nat_lt fault.number range.hi ≡ false → is_of_range range fault ≡ false
too-high range fault true is high = ap (λ b. b && nat_lt fault.number range.hi) is ∙ high
too-high range fault false is high = ap (λ b. b && nat_lt fault.number range.hi) is

inside : (range : Range) (fault : PlannedFault) → nat_lt fault.number range.lo ≡ false → nat_lt fault.number range.hi ≡ true → is_of_range range fault ≡ true
inside range fault high low = let is : nat_le range.lo fault.number ≡ true = grind (arith, nat_tests, high) in ap (λ b. b && nat_lt fault.number range.hi) is ∙ low

-- from the first that isn't below the range on, as many as are below its end
pub in-range : (faults : List PlannedFault) (range : Range) (first count : ℕ) → first ≤ length faults → count ≤ length (drop first faults)
    → ((k : ℕ) (d : PlannedFault) → k < first → nat_lt (get_or faults k d).number range.lo ≡ true)
    → ((k : ℕ) (d : PlannedFault) → first ≤ k → k < length faults → nat_lt (get_or faults k d).number range.lo ≡ false)
    → ((k : ℕ) (d : PlannedFault) → k < count → nat_lt (get_or (drop first faults) k d).number range.hi ≡ true)
    → ((k : ℕ) (d : PlannedFault) → count ≤ k → k < length (drop first faults) → nat_lt (get_or (drop first faults) k d).number range.hi ≡ false)
    → take count (drop first faults) ≡ filter (is_of_range range) faults
in-range faults range first count some few low not_low not_high high =
    let later = drop first faults in
    let p = is_of_range range in
    let none : filter p (take first faults) ≡ [] = none-pass p (take first faults) (λ k d below.
    let in_front : k < first = omega (arith, below, length-take-le first faults some) in
    ap p (get_or-take first faults k d in_front) ∙ too-low range (get_or faults k d) (low k d in_front)) in
    let all : filter p (take count later) ≡ take count later = all-pass p (take count later) (λ k d below.
    let in_front : k < count = omega (arith, below, length-take-le count later few) in
    let past : nat_lt (get_or later k d).number range.lo ≡ false = ap (λ (fault : PlannedFault). nat_lt fault.number range.lo) (get_or-drop first faults k d) ∙ not_low (first + k) d (omega arith) (omega (arith, in_front, few, length-drop first faults)) in
    ap p (get_or-take count later k d in_front) ∙ inside range (get_or later k d) past (not_high k d in_front)) in
    let no_more : filter p (drop count later) ≡ [] = none-pass p (drop count later) (λ k d below.
    let past : nat_lt (get_or later (count + k) d).number range.hi ≡ false = high (count + k) d (omega arith) (omega (arith, below, few, length-drop count later)) in
    ap p (get_or-drop count later k d) ∙ too-high range (get_or later (count + k) d) (nat_le range.lo (get_or later (count + k) d).number) refl past) in
    together p (take first faults) (take count later) (drop count later) faults
    (ap (λ ys. take first faults ++ ys) (take-append-drop count later) ∙ take-append-drop first faults) none all no_more
