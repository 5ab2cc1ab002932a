-- Sets of fault classes as numbers.
use Rattle.std.proofs.Common.{◌≡◌, ℕ, zero, suc, ◌+◌, ◌<◌, ◌^◌, ◌%◌, max, Bool, true, false, true≢false, cond, ◌==◌, ◌||◌, List, [], length, take, get_or, ap, sym, ◌∙◌, refl, eqb-true, eq-eqb, arith}
use Rattle.std.specs.Prelude.{bit_or}
use Rattle.std.specs.Int.{bit_at}
use Rattle.std.specs.Cmp.{IsEquivalence}
use Rattle.std.specs.List.{list_any}
use Rattle.std.proofs.Math.Nat.{zero-div}
use Rattle.std.proofs.lemmas.Cmp.{nat_eq_equiv}
use Rattle.std.proofs.lemmas.List.Folds.{list_any_more}
use Rattle.std.proofs.lemmas.Map.Views.{Contains-from_any, list_any-from_Contains}
use Rattle.std.proofs.lemmas.Nat.Bits.{bit_at-lt, bit_at_or, bit_at-pow_same, bit_at-pow_other}
use Rattle.jb_base.specs.Classes.{class_of}
use Rattle.jb_base.specs.declared.class.ClassId.{ClassId}
use Rattle.jb_base.proofs.Classes.{class_of-number}
use Rattle.jb_rules.specs.Decide.{has_class}
use Rattle.jb_ready.specs.Classes.{IsSetOf}

-- the classes have one number
abbrev pub same_number : ClassId → ClassId → Bool
same_number a b = a.number == b.number

-- the same by a test: each class is in the set if the test finds it in the list
abbrev pub IsListed : (set : ℕ) → List ClassId → Type 0
IsListed set classes = (class : ClassId) → has_class set class ≡ list_any (same_number class) classes

-- ---- one class more

bit-by : (n k : ℕ) (same : Bool) → (n == k) ≡ same → bit_at (2 ^ k) n ≡ cond same 1 0
bit-by n k true e = ap (bit_at (2 ^ k)) (eqb-true n k e) ∙ bit_at-pow_same k
bit-by n k false e = bit_at-pow_other k n (λ is. true≢false (sym (eq-eqb n k is) ∙ e))

larger-by : (a b : ℕ) (same : Bool) → a < 2 → b ≡ cond same 1 0 → (max a b == 1) ≡ ((a == 1) || same)
larger-by zero b true small e = ap (λ n. max 0 n == 1) e
larger-by zero b false small e = ap (λ n. max 0 n == 1) e
larger-by (suc zero) b true small e = ap (λ n. max 1 n == 1) e
larger-by (suc zero) b false small e = ap (λ n. max 1 n == 1) e
larger-by (suc (suc a)) b same small e = absurd (omega arith)

with-class : (set bit : ℕ) (class one : ClassId) → bit ≡ 2 ^ one.number → has_class (bit_or set bit) class ≡ (has_class set class || same_number class one)
with-class set bit class one is =
    ap (λ b. has_class (bit_or set b) class) is ∙ ap (λ n. n == 1) (bit_at_or set (2 ^ one.number) class.number)
    ∙ larger-by (bit_at set class.number) (bit_at (2 ^ one.number) class.number) (same_number class one) (bit_at-lt set class.number) (bit-by class.number one.number (same_number class one) refl)

pub more-listed : (classes : List ClassId) (place : ℕ) (one : ClassId) (set bit : ℕ) → place < length classes → one ≡ get_or classes place one → bit ≡ 2 ^ one.number
    → IsListed set (take place classes) → IsListed (bit_or set bit) (take (place + 1) classes)
more-listed classes place one set bit inside is bit-is listed class =
    with-class set bit class one bit-is ∙ ap (λ b. b || same_number class one) (listed class)
    ∙ ap (λ other. list_any (same_number class) (take place classes) || same_number class other) is
    ∙ sym (list_any_more (same_number class) classes place one inside)

-- ---- the whole list

pub none-listed : (set : ℕ) → set ≡ 0 → IsListed set []
none-listed set none class = ap (λ n. has_class n class) none ∙ ap (λ n. n % 2 == 1) (zero-div (2 ^ class.number))

same-class : (a b : ClassId) → same_number a b ≡ true → a ≡ b
same-class a b e = sym (class_of-number a) ∙ ap class_of (eqb-true a.number b.number e) ∙ class_of-number b

number_equiv : IsEquivalence same_number
number_equiv = let e = nat_eq_equiv in record { refl = λ a. e.refl a.number; symm = λ a b. e.symm a.number b.number; congr = λ a b c. e.congr a.number b.number c.number }

pub set-listed : (set : ℕ) (classes : List ClassId) → IsListed set classes → IsSetOf set classes
set-listed set classes listed class = (
  λ is. Contains-from_any {eq = same_number} same-class class classes (sym (listed class) ∙ is),
  λ is. listed class ∙ list_any-from_Contains {eq = same_number} number_equiv class classes is,
)
