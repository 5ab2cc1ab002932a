-- Faults of items, one after the other.
use Rattle.std.proofs.Common.{◌≡◌, ℕ, zero, suc, ◌+◌, ◌≤◌, List, [], ◌∷◌, ◌++◌, length, take, drop, refl, ap, sym, ◌∙◌, arith, length-append, subst}
use Rattle.std.{specs.Prelude.true, specs.List.AllByRecursion, proofs.lemmas.List.take-append-drop, proofs.lemmas.List.Elements.filter_map-append}
use Rattle.jb_base.{specs.Rules.RulesRecord, specs.declared.class.ClassId.ClassId}
use Rattle.jb_rules.specs.Decide.{has_class}
use Rattle.jb_slices.specs.Function.{Function, ItemsPass, Pass, all_results, fault_classes, faults_from, refusal_of, result_of}

pub results-split : (f : Function) (first k second : ℕ) (items : List (List ℕ)) → first + k ≡ second → all_results f (take k items) ++ all_results f (drop k items) ≡ all_results f items
results-split f first k second items e = sym (filter_map-append (result_of f) (take k items) (drop k items)) ∙ ap (all_results f) (take-append-drop k items)

pub classes-append : (f : Function) (xs ys : List (List ℕ)) → fault_classes f (xs ++ ys) ≡ fault_classes f xs ++ fault_classes f ys
classes-append f xs ys = filter_map-append (refusal_of f) xs ys

-- ---- with their numbers

pub faults-split : (f : Function) (first k second : ℕ) (items : List (List ℕ)) → first + k ≡ second
    → faults_from f first (take k items) ++ faults_from f second (drop k items) ≡ faults_from f first items
faults-split f first zero second items e = let same : second ≡ first = omega (arith, e) in ap (λ (n : ℕ). faults_from f n items) same
faults-split f first (suc k) second [] e = refl
faults-split f first (suc k) second (item ∷ items) e = grind (arith, faults-split f (suc first) k second items (omega (arith, e)))

pub faults-count : (f : Function) (first : ℕ) (items : List (List ℕ)) → length (faults_from f first items) ≡ length (fault_classes f items)
faults-count f first [] = refl
faults-count f first (item ∷ items) = grind (arith, faults-count f (suc first) items)

-- ---- limits

pub pass-none : (rules : RulesRecord) → Pass rules []
pass-none rules = record { skippable = tt; few = grind arith }

-- ---- fronts

pub all-parts : {A : Type 0} (P : A → Type 0) (xs ys : List A) → AllByRecursion P (xs ++ ys) → AllByRecursion P xs × AllByRecursion P ys
all-parts P [] ys all = (tt, all)
all-parts P (x ∷ xs) ys all = let rest = all-parts P xs ys all.1 in ((all.0, rest.0), rest.1)

pub pass-front : (rules : RulesRecord) (xs ys : List ClassId) → Pass rules (xs ++ ys) → Pass rules xs
pass-front rules xs ys pass = record { skippable = (all-parts (λ (class : ClassId). has_class rules.skippable class ≡ true) xs ys pass.skippable).0; few = grind (arith, length-append) }

classes-split : (f : Function) (n : ℕ) (items : List (List ℕ)) → fault_classes f items ≡ fault_classes f (take n items) ++ fault_classes f (drop n items)
classes-split f n items = ap (fault_classes f) (sym (take-append-drop n items)) ∙ classes-append f (take n items) (drop n items)

pub items-pass-front : (f : Function) (rules : RulesRecord) (n : ℕ) (items : List (List ℕ)) → ItemsPass f rules items → ItemsPass f rules (take n items)
items-pass-front f rules n items pass =
    pass-front rules (fault_classes f (take n items)) (fault_classes f (drop n items)) (subst (λ (classes : List ClassId). Pass rules classes) (classes-split f n items) pass)

pub fewer-classes : (f : Function) (n : ℕ) (items : List (List ℕ)) → length (fault_classes f (take n items)) ≤ length (fault_classes f items)
fewer-classes f n items = let e = ap length (classes-split f n items) in grind (arith, length-append)
