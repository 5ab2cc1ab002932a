-- A plan has no error exactly where it can be run.
use Rattle.std.proofs.Common.{◌≡◌, ℕ, zero, suc, ◌+◌, ◌≤◌, ◌<◌, Bool, true, false, List, [], ◌∷◌, ◌++◌, length, get_or, drop, drop-cons, add-one, refl, arith}
use Rattle.std.specs.Prelude.{max, min, nat_lt, ◌==◌, All, Result, Ok, Err, is_ok, IsTrue, ◌↔◌}
use Rattle.std.proofs.lemmas.List.Kept.{AllPairs-cons}
use Rattle.std.proofs.lemmas.Bool.Decides.{nat_tests}
use Rattle.jb_base.specs.declared.range.Range.{Range}
use Rattle.jb_plan.specs.declared.fault.PlanError.{PlanError}
use Rattle.jb_plan.specs.declared.fault.PlanError.TheVariants.{NoPartition, Reversed, PastEnd, Overlap, Threads}
use Rattle.jb_plan.specs.declared.plan.PartitionPlan.{PartitionPlan}
use Rattle.jb_base.specs.Limits.{max_partitions, max_threads_asked}
use Rattle.jb_plan.specs.Plans.{IsWithin, IsRunnable}
use Rattle.jb_plan.specs.Ranges.{HaveNoneInCommon, AreDisjoint, do_overlap}
use Rattle.jb_plan.specs.Faults.{error_if, bound_errors, overlaps_with, overlap_errors, range_errors, plan_errors, IsFirst}
use Rattle.jb_plan.specs.inside.Found.{FindsFirst}

-- where there is no error, its condition doesn't hold
no_error : (holds : Bool) (error : PlanError) → error_if holds error ≡ [] → holds ≡ false
no_error true error e = cc
no_error false error e = refl

no_errors : (some rest : List PlanError) → some ++ rest ≡ [] → (some ≡ []) × (rest ≡ [])
no_errors [] rest e = (refl, e)
no_errors (error ∷ some) rest e = cc

within-none : (records i : ℕ) (ranges : List Range) → bound_errors records i ranges ≡ [] → All (IsWithin records) ranges
within-none records i [] e k d lt = absurd (omega arith)
within-none records i (r ∷ ranges) e zero d lt =
    let parts = no_errors (error_if (nat_lt r.hi r.lo) (Reversed i)) (error_if (nat_lt records r.hi) (PastEnd i)) (no_errors _ (bound_errors records (i + 1) ranges) e).0 in
    let forward = no_error (nat_lt r.hi r.lo) (Reversed i) parts.0 in
    let inside = no_error (nat_lt records r.hi) (PastEnd i) parts.1 in
    (grind (arith, nat_tests), grind (arith, nat_tests))
within-none records i (r ∷ ranges) e (suc k) d lt =
    within-none records (i + 1) ranges (no_errors _ (bound_errors records (i + 1) ranges) e).1 k d (omega arith)

none-within : (records i : ℕ) (ranges : List Range) → All (IsWithin records) ranges → bound_errors records i ranges ≡ []
none-within records i [] all = refl
none-within records i (r ∷ ranges) all =
    let here = all 0 r (omega arith) in
    let forward : nat_lt r.hi r.lo ≡ false = grind (arith, nat_tests) in
    let inside : nat_lt records r.hi ≡ false = grind (arith, nat_tests) in
    let rest = none-within records (i + 1) ranges (λ k d lt. all (suc k) d (omega arith)) in
    rw (forward, inside) rest

pub apart : (r s : Range) → do_overlap r s ≡ false → HaveNoneInCommon r s
apart r s none x a b c d = let le : min r.hi s.hi ≤ max r.lo s.lo = grind (arith, nat_tests) in omega (arith, le, a, b, c, d)

no_overlap : (here : Bool) (r s : Range) → do_overlap r s ≡ here → HaveNoneInCommon r s → here ≡ false
no_overlap false r s e disjoint = refl
no_overlap true r s e disjoint =
    let lt : max r.lo s.lo < min r.hi s.hi = grind (arith, nat_tests) in
    absurd (disjoint (max r.lo s.lo) (omega arith) (omega (arith, lt)) (omega arith) (omega (arith, lt)))

apart-none : (i : ℕ) (r : Range) (j : ℕ) (ranges : List Range) → overlaps_with i r j ranges ≡ [] → All (HaveNoneInCommon r) ranges
apart-none i r j [] e k d lt = absurd (omega arith)
apart-none i r j (s ∷ ranges) e zero d lt =
    apart r s (no_error (do_overlap r s) (Overlap i j) (no_errors (error_if (do_overlap r s) (Overlap i j)) (overlaps_with i r (j + 1) ranges) e).0)
apart-none i r j (s ∷ ranges) e (suc k) d lt =
    apart-none i r (j + 1) ranges (no_errors (error_if (do_overlap r s) (Overlap i j)) (overlaps_with i r (j + 1) ranges) e).1 k d (omega arith)

none-apart : (i : ℕ) (r : Range) (j : ℕ) (ranges : List Range) → All (HaveNoneInCommon r) ranges → overlaps_with i r j ranges ≡ []
none-apart i r j [] all = refl
none-apart i r j (s ∷ ranges) all = rw (no_overlap (do_overlap r s) r s refl (all 0 s (omega arith))) (none-apart i r (j + 1) ranges (λ k d lt. all (suc k) d (omega arith)))

pub all_apart-none : (i : ℕ) (ranges : List Range) → overlap_errors i ranges ≡ [] → AreDisjoint ranges
all_apart-none i [] e = λ a b d below within. absurd (omega arith)
all_apart-none i (r ∷ ranges) e =
    let parts = no_errors (overlaps_with i r (i + 1) ranges) (overlap_errors (i + 1) ranges) e in
    AllPairs-cons HaveNoneInCommon r ranges (apart-none i r (i + 1) ranges parts.0) (all_apart-none (i + 1) ranges parts.1)

pub none-all_apart : (i : ℕ) (ranges : List Range) → AreDisjoint ranges → overlap_errors i ranges ≡ []
none-all_apart i [] all = refl
none-all_apart i (r ∷ ranges) all =
    rw (none-apart i r (i + 1) ranges (λ k d lt. all 0 (suc k) d (omega arith) (omega arith)))
    (none-all_apart (i + 1) ranges (λ a b d below within. all (suc a) (suc b) d (omega arith) (omega arith)))

-- the first error of a list is the first of a longer one
pub first_more : (errors later : List PlanError) (error : PlanError) → IsFirst error errors → IsFirst error (errors ++ later)
first_more [] later error e = cc
first_more (f ∷ errors) later error e = e

first-none : (errors : List PlanError) (error : PlanError) → IsFirst error errors → errors ≡ [] → ⊥
first-none [] error e none = cc
first-none (f ∷ errors) error e none = cc

-- of a plan that can be run no error of the list of ranges is the first
pub ranges-runnable : (records : ℕ) (plan : PartitionPlan) (error : PlanError) (ranges : List Range) → ranges ≡ plan.ranges → IsRunnable records plan → IsFirst error (range_errors records ranges) → ⊥
ranges-runnable records plan error ranges same runnable e =
    let empty : (length plan.ranges == 0) ≡ false = grind (arith, nat_tests) in
    first-none (range_errors records ranges) error e (rw (same, empty, none-within records 0 plan.ranges runnable.within) refl)

-- of a plan that can be run no overlap is the first
pub overlap-runnable : (records : ℕ) (plan : PartitionPlan) (error : PlanError) (ranges : List Range) → ranges ≡ plan.ranges → IsRunnable records plan → IsFirst error (overlap_errors 0 ranges) → ⊥
overlap-runnable records plan error ranges same runnable e = first-none (overlap_errors 0 ranges) error e (rw same (none-all_apart 0 plan.ranges runnable.disjoint))

-- a plan whose list of ranges, pairs and threads have no error can be run
pub runnable-parts : (records : ℕ) (plan : PartitionPlan) (listed : List Range) → listed ≡ plan.ranges → range_errors records listed ≡ [] → length listed ≤ max_partitions → overlap_errors 0 listed ≡ [] → plan.threads ≤ max_threads_asked → IsRunnable records plan
runnable-parts records plan listed same ranges few pairs threads =
    let parts = no_errors (error_if (length plan.ranges == 0) NoPartition) (bound_errors records 0 plan.ranges) (rw (← same) ranges) in
    let some = no_error (length plan.ranges == 0) NoPartition parts.0 in
    record {
      some = grind (arith, nat_tests);
      few = rw (← same) few;
      within = within-none records 0 plan.ranges parts.1;
      disjoint = all_apart-none 0 plan.ranges (rw (← same) pairs);
      threads = threads;
    }

-- the pairs of ranges have no error exactly where the ranges are disjoint
pub found-disjoint : (ranges : List Range) (result : Result (Unit {0}) PlanError) → FindsFirst (overlap_errors 0 ranges) result → IsTrue (is_ok result) ↔ AreDisjoint ranges
found-disjoint ranges (Ok done) none = (λ _. all_apart-none 0 ranges none, λ _. refl)
found-disjoint ranges (Err error) found =
    (λ h. absurd cc, λ disjoint. absurd (first-none (overlap_errors 0 ranges) error found (none-all_apart 0 ranges disjoint)))

-- the first overlap of a range with later ones is the first of those from it on
pub overlap-first : (i : ℕ) (ranges : List Range) (d : Range) (error : PlanError) → i < length ranges → IsFirst error (overlaps_with i (get_or ranges i d) (i + 1) (drop (i + 1) ranges)) → IsFirst error (overlap_errors i (drop i ranges))
overlap-first i ranges d error lt found =
    let cons : drop i ranges ≡ get_or ranges i d ∷ drop (i + 1) ranges = rw add-one (drop-cons ranges i d lt) in
    rw cons (first_more (overlaps_with i (get_or ranges i d) (i + 1) (drop (i + 1) ranges)) (overlap_errors (i + 1) (drop (i + 1) ranges)) error found)

-- where there are not too many ranges, their first error is the plan's
pub ranges-first : (records : ℕ) (plan : PartitionPlan) (listed : List Range) (error : PlanError) → listed ≡ plan.ranges → length listed ≤ max_partitions → IsFirst error (range_errors records listed) → IsFirst error (plan_errors records plan)
ranges-first records plan listed error same few found =
    let few' : length plan.ranges ≤ max_partitions = rw (← same) few in
    let enough : nat_lt max_partitions (length plan.ranges) ≡ false = grind (arith, nat_tests) in
    let found' : IsFirst error (range_errors records plan.ranges) = rw (← same) found in
    rw enough
    (first_more (range_errors records plan.ranges ++ overlap_errors 0 plan.ranges) (error_if (nat_lt max_threads_asked plan.threads) Threads) error
    (first_more (range_errors records plan.ranges) (overlap_errors 0 plan.ranges) error found'))

-- and where no range has an error, that of their pairs
pub pairs-first : (records : ℕ) (plan : PartitionPlan) (listed : List Range) (error : PlanError) → listed ≡ plan.ranges → length listed ≤ max_partitions → range_errors records listed ≡ [] → IsFirst error (overlap_errors 0 listed) → IsFirst error (plan_errors records plan)
pairs-first records plan listed error same few none found =
    let few' : length plan.ranges ≤ max_partitions = rw (← same) few in
    let enough : nat_lt max_partitions (length plan.ranges) ≡ false = grind (arith, nat_tests) in
    let none' : range_errors records plan.ranges ≡ [] = rw (← same) none in
    let found' : IsFirst error (overlap_errors 0 plan.ranges) = rw (← same) found in
    rw (enough, none') (first_more (overlap_errors 0 plan.ranges) (error_if (nat_lt max_threads_asked plan.threads) Threads) error found')
