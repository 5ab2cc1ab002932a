-- Which tries fail, record by record.
use Rattle.std.proofs.Common.{◌≡◌, ℕ, ◌+◌, ◌-◌, Bool, true, false, cond, List, [], ◌∷◌, length, refl, ap, sym, subst, ◌∙◌, arith}
use Rattle.std.specs.Prelude.{◌==◌, slice_index_or}
use Rattle.std.proofs.lemmas.Bool.Decides.{nat_tests}
use Rattle.jb_base.specs.Rules.{RulesRecord}
use Rattle.jb_base.specs.declared.class.ClassId.{ClassId}
use Rattle.jb_artifacts.specs.declared.faults.FaultPlan.{FaultPlan}
use Rattle.jb_artifacts.specs.declared.faults.FaultPlan.TheVariants.{Shaky, Sound}
use Rattle.jb_artifacts.specs.Faults.{FaultTable, with_plan}
use Rattle.jb_records.specs.Function.{Function, tries_of}
use Rattle.jb_records.specs.Artifacts.{AreNeverSkipped, IsNeverSkipped, is_among, plan_of, record_of, tries_plan}

-- the tries at the first `count` records
abbrev pub tries-of : Function → (first : ℕ) → (records : List (List ℕ)) → (count : ℕ) → FaultTable
tries-of f first records count k = cond (is_among first count k) (plan_of (tries_of f (record_of first records k))) Sound

none-among : (first k : ℕ) → is_among first 0 k ≡ false
none-among first k = grind (arith, nat_tests)

among-last : (first i k : ℕ) → (k == first + i) ≡ true → is_among first (i + 1) k ≡ true
among-last first i k e = grind (arith, nat_tests)

among-past : (first i : ℕ) → is_among first i (first + i) ≡ false
among-past first i = grind (arith, nat_tests)

among-before : (first i k : ℕ) → (k == first + i) ≡ false → is_among first (i + 1) k ≡ is_among first i k
among-before first i k e = grind (arith, nat_tests)

is-number : (number k : ℕ) → (k == number) ≡ true → k ≡ number
is-number number k e = grind (arith, nat_tests)

-- at first none fails
pub no-tries : (f : Function) (first : ℕ) (records : List (List ℕ)) (k : ℕ) → Sound ≡ tries-of f first records 0 k
no-tries f first records k = ap (λ b. cond b (plan_of (tries_of f (record_of first records k))) Sound) (sym (none-among first k))

-- nor any at the next record
pub next-sound : (f : Function) (first : ℕ) (records : List (List ℕ)) (i : ℕ) → tries-of f first records i (first + i) ≡ Sound
next-sound f first records i = ap (λ b. cond b (plan_of (tries_of f (record_of first records (first + i)))) Sound) (among-past first i)

more-by : (first i k : ℕ) (plan here : FaultPlan) (same : Bool) → (k == first + i) ≡ same → ((k == first + i) ≡ true → plan ≡ here)
    → cond same plan (cond (is_among first i k) here Sound) ≡ cond (is_among first (i + 1) k) here Sound
more-by first i k plan here true e is = is e ∙ ap (λ b. cond b here Sound) (sym (among-last first i k e))
more-by first i k plan here false e is = ap (λ b. cond b here Sound) (sym (among-before first i k e))

its-plan : (f : Function) (first : ℕ) (records : List (List ℕ)) (i k : ℕ) (bytes : List ℕ) → bytes ≡ slice_index_or records i [] → (k == first + i) ≡ true
    → tries_of f bytes ≡ tries_of f (record_of first records k)
its-plan f first records i k bytes is e =
    let at = is-number (first + i) k e in
    let place : i ≡ k - first = omega (arith, at) in
    ap (tries_of f) (is ∙ ap (λ n. slice_index_or records n []) place)

-- one record more
pub one-more : (f : Function) (first : ℕ) (records : List (List ℕ)) (i : ℕ) (bytes : List ℕ) (classes : List ClassId) (plans now : FaultTable) → bytes ≡ slice_index_or records i []
    → classes ≡ tries_of f bytes → ((k : ℕ) → now k ≡ with_plan plans (first + i) (plan_of classes) k) → ((k : ℕ) → plans k ≡ tries-of f first records i k)
    → (k : ℕ) → now k ≡ tries-of f first records (i + 1) k
one-more f first records i bytes classes plans now is written_before put before k =
    put k ∙ ap (cond (k == first + i) (plan_of classes)) (before k)
    ∙ more-by first i k (plan_of classes) (plan_of (tries_of f (record_of first records k))) (k == first + i) refl
    (λ e. ap plan_of (written_before ∙ its-plan f first records i k bytes is e))

-- all of them
pub all-tries : (f : Function) (first : ℕ) (records : List (List ℕ)) (count : ℕ) (plans : FaultTable) → count ≡ length records → ((k : ℕ) → plans k ≡ tries-of f first records count k)
    → (k : ℕ) → plans k ≡ tries_plan f first records k
unfolding tries_plan
all-tries f first records count plans all are k = are k ∙ ap (λ n. tries-of f first records n k) all

-- ---- NONE IS SKIPPED

plan-never : (rules : RulesRecord) (classes : List ClassId) → AreNeverSkipped rules classes → IsNeverSkipped rules (plan_of classes)
plan-never rules [] are = tt
plan-never rules (class ∷ later) are = are

never-by : (rules : RulesRecord) (b : Bool) (plan other : FaultPlan) → IsNeverSkipped rules plan → IsNeverSkipped rules other → IsNeverSkipped rules (cond b plan other)
never-by rules true plan other is was = is
never-by rules false plan other is was = was

pub never-more : (rules : RulesRecord) (plans now : FaultTable) (number : ℕ) (classes : List ClassId) → AreNeverSkipped rules classes → ((k : ℕ) → now k ≡ with_plan plans number (plan_of classes) k)
    → ((k : ℕ) → IsNeverSkipped rules (plans k)) → (k : ℕ) → IsNeverSkipped rules (now k)
never-more rules plans now number classes are put were k =
    subst (IsNeverSkipped rules) (sym (put k)) (never-by rules (k == number) (plan_of classes) (plans k) (plan-never rules classes are) (were k))

-- ---- A PLAN IS PUT IN

none-by : (plans : FaultTable) (number k : ℕ) (same : Bool) → (k == number) ≡ same → plans number ≡ Sound → plans k ≡ cond same Sound (plans k)
none-by plans number k true e sound = ap plans (is-number number k e) ∙ sound
none-by plans number k false e sound = refl

-- of a record that stays sound
pub none-put : (plans : FaultTable) (number : ℕ) (classes : List ClassId) → classes ≡ [] → plans number ≡ Sound → (k : ℕ) → plans k ≡ with_plan plans number (plan_of classes) k
none-put plans number classes none sound k = none-by plans number k (k == number) refl sound ∙ ap (λ c. cond (k == number) (plan_of c) (plans k)) (sym none)

-- of one whose first tries fail
pub some-put : (plans now : FaultTable) (number : ℕ) (classes : List ClassId) → false ≡ (length classes == 0) → now ≡ with_plan plans number (Shaky classes) → (k : ℕ) → now k ≡ with_plan plans number (plan_of classes) k
some-put plans now number [] some put k = absurd cc
some-put plans now number (class ∷ later) some put k = ap (λ (p : FaultTable). p k) put
