-- FaultTable of a table after a call.
use Rattle.std.proofs.Common.{◌≡◌, ℕ, List, [], ◌∷◌, Bool, true, false, length, refl, ap, sym, ◌∙◌, Option, Some, None, arith}
use Rattle.std.proofs.Math.Path.{fun_ext}
use Rattle.std.specs.Prelude.{unwrap_or, ◌==◌, if◌then◌else◌}
use Rattle.std.proofs.lemmas.Bool.{eqb-true}
use Rattle.std.specs.Ordering.{nat_cmp}
use Rattle.std.specs.BTreeMap.{is_at}
use Rattle.std.specs.Map.{lookup}
use Rattle.jb_artifacts.specs.declared.faults.FaultPlan.{FaultPlan}
use Rattle.jb_artifacts.specs.declared.faults.FaultPlan.TheVariants.{Sound, Bad, Shaky}
use Rattle.jb_artifacts.specs.Faults.{FaultTable, live, used, used_at, with_plan, plans_of}
use Rattle.std.proofs.lemmas.Bool.Decides.{nat_tests}

pub found_by : (k j : ℕ) → is_at (nat_cmp k) j ≡ (j == k)
found_by k j = grind (arith, nat_tests)

idle-at : (plan : Option FaultPlan) (b : Bool) → (b ≡ true → plan ≡ None) → unwrap_or plan Sound ≡ (if b then used (unwrap_or plan Sound) else unwrap_or plan Sound)
idle-at plan false none = refl
idle-at plan true none = ap (λ p. unwrap_or p Sound) (none refl) ∙ ap (λ p. used (unwrap_or p Sound)) (sym (none refl))

-- a record without a plan of its own is sound, and stays so
pub idle : (m : List (ℕ × FaultPlan)) (k : ℕ) → lookup (is_at (nat_cmp k)) m ≡ None → plans_of m ≡ used_at (plans_of m) k
unfolding used_at
idle m k none = fun_ext (λ j. idle-at (lookup (is_at (nat_cmp j)) m) (j == k) (λ same. ap (λ n. lookup (is_at (nat_cmp n)) m) (eqb-true j k same) ∙ none))

struck-at : (before after : Option FaultPlan) (plan next : FaultPlan) (b : Bool) → (b ≡ true → before ≡ Some plan) → next ≡ used plan
    → after ≡ (if b then Some next else before)
    → unwrap_or after Sound ≡ (if b then used (unwrap_or before Sound) else unwrap_or before Sound)
struck-at before after plan next false some one is = ap (λ p. unwrap_or p Sound) is
struck-at before after plan next true some one is = ap (λ p. unwrap_or p Sound) is ∙ one ∙ ap (λ p. used (unwrap_or p Sound)) (sym (some refl))

-- a record with a plan of its own uses it
pub struck : (m n : List (ℕ × FaultPlan)) (k : ℕ) (plan next : FaultPlan) → lookup (is_at (nat_cmp k)) m ≡ Some plan → next ≡ used plan
    → ((q : ℕ) → lookup (is_at (nat_cmp q)) n ≡ (if is_at (nat_cmp k) q then Some next else lookup (is_at (nat_cmp q)) m))
    → plans_of n ≡ used_at (plans_of m) k
unfolding used_at
struck m n k plan next some one is = fun_ext (λ j. struck-at (lookup (is_at (nat_cmp j)) m) (lookup (is_at (nat_cmp j)) n) plan next (j == k)
    (λ same. ap (λ n. lookup (is_at (nat_cmp n)) m) (eqb-true j k same) ∙ some)
    one
    (is j ∙ ap (λ b. if b then Some next else lookup (is_at (nat_cmp j)) m) (found_by k j)))

planned-at : (before : Option FaultPlan) (plan : FaultPlan) (b : Bool)
    → unwrap_or (if b then Some plan else before) Sound ≡ (if b then plan else unwrap_or before Sound)
planned-at before plan true = refl
planned-at before plan false = refl

-- the plans with one more
pub planned : (m n : List (ℕ × FaultPlan)) (k : ℕ) (plan : FaultPlan)
    → ((q : ℕ) → lookup (is_at (nat_cmp q)) n ≡ (if is_at (nat_cmp k) q then Some plan else lookup (is_at (nat_cmp q)) m))
    → plans_of n ≡ with_plan (plans_of m) k plan
planned m n k plan is = fun_ext (λ j. ap (λ p. unwrap_or p Sound) (is j ∙ ap (λ b. if b then Some plan else lookup (is_at (nat_cmp j)) m) (found_by k j))
    ∙ planned-at (lookup (is_at (nat_cmp j)) m) plan (j == k))

sound_used : (plan : FaultPlan) → live plan ≡ None → used plan ≡ plan
sound_used Sound none = refl
sound_used (Bad class) none = grind (arith, none)
sound_used (Shaky []) none = refl
sound_used (Shaky (class ∷ later)) none = grind (arith, none)

-- a call that does not fail changes no plan
pub used_at-sound : (plans : FaultTable) (k : ℕ) → live (plans k) ≡ None → used_at plans k ≡ plans
unfolding used_at
used_at-sound plans k none = fun_ext (λ j. at (j == k) j refl)
  where
    at : (b : Bool) (j : ℕ) → (j == k) ≡ b → (if b then used (plans j) else plans j) ≡ plans j
    at false j is = refl
    at true j is = sound_used (plans j) (ap (λ n. live (plans n)) (eqb-true j k is) ∙ none)

-- where no plan was put in, no call fails
pub none-planned : (entries : List (ℕ × FaultPlan)) (number : ℕ) → length entries ≡ 0 → live (plans_of entries number) ≡ None
none-planned [] number none = refl
none-planned (entry ∷ entries) number none = absurd (omega (arith, none))
