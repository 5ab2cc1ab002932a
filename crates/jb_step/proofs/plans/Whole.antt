-- A least plan that goes quietly is run whole before its tasks have ended.
use Rattle.std.proofs.Common.{◌≡◌, ℕ, ◌+◌, ◌-◌, ◌≤◌, ◌<◌, List, [], ◌∷◌, ◌++◌, length, get_or, refl, sym, subst, arith, inl, inr, length-append}
use Rattle.std.specs.Prelude.{Contains}
use Rattle.std.proofs.lemmas.Bool.{cases_lt}
use Rattle.std.proofs.Math.Seq.{get_or-append_right}
use Rattle.std.proofs.lemmas.List.{get_or_append_left}
use Rattle.jb_cert.specs.Lawful.{Pair, IsLawful, StandsIn, HasOnePerPartition}
use Rattle.jb_step.specs.rounds.PlanLaws.{EndsWhole}
use Rattle.jb_step.specs.preparing.Setup.{counts_now}
use Rattle.jb_step.specs.inside.LowerLaws.{ChunkLaws}
use Rattle.jb_step.proofs.plans.ChunkNumbers.{has-left}
use Rattle.jb_step.proofs.plans.ChunksInOrder.{runs-from-ended, number-of-counts}
use Rattle.jb_step.proofs.plans.Staying.{steady-held}

-- the first sets of a lawful list of sets are lawful, if each chunk stands in one of them
module _ (counts : List ℕ) (threads : ℕ) (one more : List (List Pair)) (lawful : IsLawful counts threads (one ++ more)) where
  same-set : (r : ℕ) → r < length one → get_or (one ++ more) r [] ≡ get_or one r []
  same-set r lt = get_or_append_left one more [] r lt

  up : (r : ℕ) (x : Pair) → StandsIn one r x → StandsIn (one ++ more) r x
  up r x at =
      let lt = at.0 in
      (omega (arith, lt, length-append one more), subst (λ (xs : List Pair). Contains xs x) (sym (same-set r lt)) at.1)

  down : (r : ℕ) (x : Pair) → r < length one → StandsIn (one ++ more) r x → StandsIn one r x
  down r x lt at = (lt, subst (λ (xs : List Pair). Contains xs x) (same-set r lt) at.1)

  front-lawful : ((p j r : ℕ) → StandsIn (one ++ more) r (p, j) → r < length one) → IsLawful counts threads one
  front-lawful here = record {
    known = λ r p j at. lawful.known r p j (up r (p, j) at);
    small = λ k d lt. subst (λ (xs : List Pair). length xs ≤ threads) (get_or_append_left one more d k lt) (lawful.small k d (omega (arith, lt, length-append one more)));
    apart = λ k d lt. subst (λ (xs : List Pair). HasOnePerPartition xs) (get_or_append_left one more d k lt) (lawful.apart k d (omega (arith, lt, length-append one more)));
    somewhere = λ p j within few. let there = lawful.somewhere p j within few in (there.0, down there.0 (p, j) (here p j there.0 there.1) there.1);
    once = λ r q p j a b. lawful.once r q p j (up r (p, j) a) (up q (p, j) b);
    in_order = λ r q p j a b. lawful.in_order r q p j (up r (p, j) a) (up q (p, j + 1) b);
  }

behind : (one more : List (List Pair)) (r : ℕ) (x : Pair) → length one ≤ r → StandsIn (one ++ more) r x → StandsIn more (r - length one) x
behind one more r x ge at =
    let lt = at.0 in
    (omega (arith, lt, ge, length-append one more), subst (λ (xs : List Pair). Contains xs x) (get_or-append_right one more r [] ge) at.1)

none-left : (left : List (List Pair)) → length left ≤ 0 → left ≡ []
none-left [] le = refl
none-left (set ∷ left) le = absurd (omega arith)

pub ends_whole : ChunkLaws → EndsWhole
ends_whole law s before rounds left h least ended =
    let counts = counts_now s before in
    let here : (p j r : ℕ) → StandsIn (rounds ++ left) r (p, j) → r < length rounds = λ p j r at.
    let known = h.lawful.known r p j at in
    let within = known.0 in
    let few = known.1 in
    let most = runs-from-ended law s before rounds (steady-held law s before h.held) h.run h.quiet ended p (omega (arith, within, number-of-counts s before)) in
    elim (cases_lt r (length rounds)) [
      | inl lt ↦ lt
      | inr ge ↦ (
          let low = ((has-left counts s.threads rounds left h.lawful p within).known (r - length rounds) j (behind rounds left r (p, j) ge at)).0 in
          absurd (omega (arith, few, most, low))
          )
    ]
    in
    let short = least rounds (front-lawful counts s.threads rounds left h.lawful here) in
    none-left left (omega (arith, short, length-append rounds left))
