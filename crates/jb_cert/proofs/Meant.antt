-- What the tests of certificates and of least plans say.
use Rattle.std.proofs.Common.{◌≡◌, ◌↔◌, ℕ, ◌-◌, ◌*◌, ◌<◌, ◌≤◌, Bool, true, false, nat_eq, nat_lt, nat_le, List, length, sum, slice_get, slice_index, get_or, Option, Some, None, eq-eqb, refl, sym, ◌∙◌, subst, arith, le_antisymm, eqb-true, ltb-true, leb-true}
use Rattle.std.proofs.lemmas.Bool.{and_parts}
use Rattle.std.specs.Prelude.{IsTrue}
use Rattle.std.proofs.lemmas.Bool.Decides.{nat_tests}
use Rattle.std.proofs.lemmas.Option.{slice_get-get_or, get_or_from_slice_get, slice_get_within}
use Rattle.jb_cert.specs.declared.certificates.Certificate.{Certificate}
use Rattle.jb_cert.specs.declared.certificates.Certificate.TheVariants.{Nothing, Longest, FullLoad}
use Rattle.jb_cert.specs.Load.{mcnaughton}
use Rattle.jb_cert.specs.Lawful.{IsLeastNumber}
use Rattle.jb_cert.specs.Certificates.{Holds, is_count, certifies, is_least_plan}
use Rattle.jb_cert.proofs.LowerBound.{none_shorter_bound}
use Rattle.jb_cert.proofs.Planned.{bound_is_least_number}

longest_by : (o : Option ℕ) (counts : List ℕ) (p n : ℕ) → slice_get counts p ≡ o → is_count o n ≡ true → (p < length counts) × (slice_index counts p ≡ n)
longest_by None counts p n is h = absurd cc
longest_by (Some m) counts p n is h = (slice_get_within counts p m is, get_or_from_slice_get counts p m 0 is ∙ eqb-true m n h)

pub holds_from_test : (counts : List ℕ) (threads rounds : ℕ) (certificate : Certificate) → certifies counts threads rounds certificate ≡ true → Holds counts threads rounds certificate
holds_from_test counts threads rounds Nothing h = let t = and_parts _ _ h in (eqb-true _ _ t.0, eqb-true _ _ t.1)
holds_from_test counts threads rounds (Longest p) h = longest_by (slice_get counts p) counts p rounds refl h
holds_from_test counts threads rounds FullLoad h = let t = and_parts _ _ h in (leb-true _ _ t.0, ltb-true _ _ t.1)

pub test_from_holds : (counts : List ℕ) (threads rounds : ℕ) (certificate : Certificate) → Holds counts threads rounds certificate → certifies counts threads rounds certificate ≡ true
test_from_holds counts threads rounds Nothing h =
    let none : nat_eq (sum counts) 0 ≡ true = grind (arith, nat_tests) in
    let zero : nat_eq rounds 0 ≡ true = grind (arith, nat_tests) in
    rw (none, zero) refl
test_from_holds counts threads rounds (Longest p) h =
    let is : slice_get counts p ≡ Some (get_or counts p 0) = slice_get-get_or counts p 0 h.0 in
    rw is (eq-eqb (get_or counts p 0) rounds h.1)
test_from_holds counts threads rounds FullLoad h =
    let some : nat_le 1 rounds ≡ true = grind (arith, nat_tests) in
    let full : nat_lt ((rounds - 1) * threads) (sum counts) ≡ true = grind (arith, nat_tests) in
    rw (some, full) refl

same_test : (a b : Bool) → (a ≡ true → b ≡ true) → (b ≡ true → a ≡ true) → a ≡ b
same_test true b to back = sym (to refl)
same_test false true to back = back refl
same_test false false to back = refl

-- whatever says the same is the test
pub certifies-is : (b : Bool) (counts : List ℕ) (threads rounds : ℕ) (certificate : Certificate) → IsTrue b ↔ Holds counts threads rounds certificate → b ≡ certifies counts threads rounds certificate
certifies-is b counts threads rounds certificate means =
    same_test b (certifies counts threads rounds certificate)
    (λ h. test_from_holds counts threads rounds certificate (means.0 h)) (λ h. means.1 (holds_from_test counts threads rounds certificate h))

-- the least number is the bound
least_is_bound : (counts : List ℕ) (threads n : ℕ) → 1 ≤ threads → IsLeastNumber counts threads n → n ≡ mcnaughton counts threads
least_is_bound counts threads n some least =
    let bound = bound_is_least_number counts threads some in
    let above : mcnaughton counts threads ≤ n = omega (arith, none_shorter_bound counts threads some least.0 least.1.lawful, least.2) in
    let under : n ≤ mcnaughton counts threads = omega (arith, least.1.least bound.0 bound.1.lawful, least.2, bound.2) in
    le_antisymm under above

pub least_from_test : (counts : List ℕ) (threads rounds : ℕ) (certificate : Certificate) → 1 ≤ threads → is_least_plan counts threads rounds certificate ≡ true → IsLeastNumber counts threads rounds × Holds counts threads rounds certificate
least_from_test counts threads rounds certificate some h =
    let t = and_parts _ _ h in (
      subst (λ (n : ℕ). IsLeastNumber counts threads n) (sym (eqb-true _ _ t.0)) (bound_is_least_number counts threads some),
      holds_from_test counts threads rounds certificate t.1,
    )

pub test_from_least : (counts : List ℕ) (threads rounds : ℕ) (certificate : Certificate) → 1 ≤ threads → IsLeastNumber counts threads rounds → Holds counts threads rounds certificate → is_least_plan counts threads rounds certificate ≡ true
test_from_least counts threads rounds certificate some least holds =
    let at : nat_eq rounds (mcnaughton counts threads) ≡ true = eq-eqb rounds _ (least_is_bound counts threads rounds some least) in
    let certified : certifies counts threads rounds certificate ≡ true = test_from_holds counts threads rounds certificate holds in
    rw (at, certified) refl

-- the number of rounds is the least one, and a test of what the certificate says
pub least_plan_is : (counts : List ℕ) (threads rounds least : ℕ) (certificate : Certificate) (b : Bool) → rounds ≡ least → least ≡ mcnaughton counts threads → IsTrue b ↔ Holds counts threads rounds certificate → b ≡ is_least_plan counts threads rounds certificate
least_plan_is counts threads rounds least certificate b at bound means =
    let same = certifies-is b counts threads rounds certificate means in
    let first : nat_eq rounds (mcnaughton counts threads) ≡ true = eq-eqb rounds _ (at ∙ bound) in
    rw first same
