-- Items that a check refuses.
use Rattle.std.proofs.Common.{◌≡◌, ◌≤◌, ◌<◌, ◌+◌, ◌-◌, ℕ, List, [], Bool, true, false, length, Option, Some, None, refl, ap, sym, ◌∙◌, arith}
use Rattle.std.proofs.Math.Path.{fun_ext}
use Rattle.std.specs.Prelude.{cond, ◌==◌, ◌&&◌, nat_le, nat_lt, slice_index_or}
use Rattle.std.proofs.lemmas.Bool.Decides.{nat_tests}
use Rattle.jb_base.specs.declared.class.ClassId.{ClassId}
use Rattle.jb_artifacts.specs.declared.faults.FaultPlan.TheVariants.{Sound}
use Rattle.jb_artifacts.specs.Faults.{FaultTable, live, used, used_at}
use Rattle.jb_artifacts.specs.Reader.{Reader, read_fault, after_read}
use Rattle.bills.specs.Checks.{plan_by, checked_plans}

live-by : (refusal : Option ClassId) → live (plan_by refusal) ≡ refusal
live-by None = refl
live-by (Some class) = refl

stays : (refusal : Option ClassId) (inside here : Bool) → cond inside (plan_by refusal) Sound ≡ cond here (used (cond inside (plan_by refusal) Sound)) (cond inside (plan_by refusal) Sound)
stays refusal false true = refl
stays refusal false false = refl
stays None true true = refl
stays None true false = refl
stays (Some class) true true = refl
stays (Some class) true false = refl

module _ (check : List ℕ → Option ClassId) (first : ℕ) (items : List (List ℕ)) where
  -- a call changes no plan: an item stays as it is
  pub check-stays : (k : ℕ) → checked_plans check first items ≡ used_at (checked_plans check first items) k
  unfolding used_at checked_plans
  check-stays k = fun_ext (λ j. stays (check (slice_index_or items (j - first) [])) (nat_le first j && nat_lt j (first + length items)) (j == k))

  -- the read of an item fails as the check says
  pub check-decides : (k : ℕ) (item : List ℕ) → first ≤ k → k < first + length items → item ≡ slice_index_or items (k - first) []
      → live (checked_plans check first items k) ≡ check item
  unfolding checked_plans
  check-decides k item from to is =
      let inside : (nat_le first k && nat_lt k (first + length items)) ≡ true = grind (arith, nat_tests) in
      ap (λ b. live (cond b (plan_by (check (slice_index_or items (k - first) []))) Sound)) inside ∙ live-by (check (slice_index_or items (k - first) [])) ∙ ap check (sym is)

  -- so the read of an item answers as the check says, and the reader goes past it
  pub check-reads : (k : ℕ) (item : List ℕ) (refusal : Option ClassId) → first ≤ k → k < first + length items → item ≡ slice_index_or items (k - first) [] → check item ≡ refusal
      → let r : Reader = record { first = first; records = items; place = k; faults = checked_plans check first items } in
      (read_fault r ≡ refusal) × (record r { place = k + 1 } ≡ after_read r)
  check-reads k item refusal from to is told =
      let past : FaultTable → Reader = λ plans. record { first = first; records = items; place = k + 1; faults = plans } in
      (check-decides k item from to is ∙ told, ap past (check-stays k))
