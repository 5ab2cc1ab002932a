-- The fault by which each failed partition failed.
use Rattle.std.proofs.Common.{◌≡◌, ℕ, suc, ◌+◌, ◌-◌, List, [], ◌∷◌, length, take, drop, true, refl, ap, sym, ◌∙◌, arith, subst, inl, inr}
use Rattle.std.specs.List.{AllByRecursion}
use Rattle.jb_base.specs.Rules.{RulesRecord}
use Rattle.jb_rules.{specs.States.is_failed, specs.declared.row.RowState.RowState, specs.declared.row.RowState.TheVariants.{Failed}}
use Rattle.jb_slices.specs.{Checkpoint.{Checkpoint, Progress}, Failures.{IsFailureOf, count_failed, failures_from, failures_in}, Function.Function, Job.{Job, first_of, rules_of}, Partitions.{ArePartitionsSoFar, IsPartitionSoFar}, Slice.{Functions, IsSliceSoFar, slice_state}}
use Rattle.jb_slices.proofs.{Lists.drop-drop, Passing.stood}

failed-is : (state : RowState) → is_failed state ≡ true → state ≡ Failed
failed-is state e = grind arith

-- ---- all of them

named : (f : Function) (rules : RulesRecord) (first from : ℕ) (all items : List (List ℕ)) (ps : List Progress) (partition : ℕ) → items ≡ drop from all
    → ArePartitionsSoFar f rules first from items ps → AllByRecursion (IsFailureOf f rules first all) (failures_from partition ps) × (length (failures_from partition ps) ≡ count_failed ps)
named f rules first from all items [] partition rest parts = (tt, refl)
named f rules first from all items (p ∷ ps) partition rest parts =
    let n = p.row.hi - from in
    let within = parts.1 in
    let e : from + n ≡ p.row.hi = omega (arith, within) in
    let later : drop n items ≡ drop p.row.hi all = ap (drop n) rest ∙ drop-drop from n p.row.hi all e in
    let here = subst (λ (xs : List (List ℕ)). IsPartitionSoFar f rules (first + from) (take n xs) p) rest parts.2 in
    let lo = parts.0 in
    let others = named f rules first p.row.hi all (drop n items) ps (suc partition) later parts.3 in
    grind (arith, failed-is)

pub both : (job : Job) (functions : Functions) (number : ℕ) (items : List (List ℕ)) (all : List Checkpoint)
    → IsSliceSoFar job functions number items all
    → AllByRecursion (IsFailureOf (functions (slice_state all).stamp) (rules_of job (slice_state all).limits) (first_of job number) items) (failures_in all) × (length (failures_in all) ≡ count_failed (slice_state all).partitions)
both job functions number items all so-far =
    let at = slice_state all in
    let f = functions at.stamp in
    let rules = rules_of job at.limits in
    elim (stood job functions number items all so-far) [
      | inl none ↦ subst (λ (ps : List Progress). AllByRecursion (IsFailureOf f rules (first_of job number) items) (failures_from 0 ps) × (length (failures_from 0 ps) ≡ count_failed ps)) (sym none) (tt, refl)
      | inr standing ↦ named f rules (first_of job number) 0 items items at.partitions 0 refl standing.so_far
    ]
