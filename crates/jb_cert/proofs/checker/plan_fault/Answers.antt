use Rattle.std.proofs.Common.{◌≡◌, ◌<◌, ◌≤◌, List, [], length, sym, ◌∙◌, ap, arith, slice_index, get_or, Vec, Global}
use Rattle.std.proofs.lemmas.List.{length-map}
use Rattle.jb_cert.specs.declared.plans.Slot.{Slot}
use Rattle.jb_cert.specs.Plans.{plan_rounds}
use Rattle.jb_cert.specs.Faults.{slots_of}
use Rattle.jb_cert.specs.inside.Walk.{fault_in_round}
use Rattle.jb_cert.proofs.Judged.{plan_fault, plan_more, plan_end, slots_in_all-more, round_read}
use Rattle.jb_cert.proofs.checker.plan_fault.Goals as goal
use Rattle.jb_cert.proofs.checker.plan_fault.Goals.{After-deref}

round_is : (c : After-deref) → (c.loop-round.round-index < length (plan_rounds c.args.plan.now)) × (c.deref.result.now ≡ get_or (plan_rounds c.args.plan.now) c.loop-round.round-index [])
round_is c =
    round_read c.args.plan.now.rounds.items c.deref-round-items.result.now c.loop-round.round-index c.round-item.result c.deref.result.now
    c.deref-round-items.ensures.value (omega arith) c.round-item.is c.deref.ensures.value

pub returns-in-Some : goal.returns-in-Some
returns-in-Some c =
    let at = round_is (goal.at.returns-in-Some c).After-deref in
    let judged = c.in-Some.ensures.fault ∙ ap (λ (round : List Slot). fault_in_round c.args.counts.now c.args.threads (λ p. slice_index c.loop-round.ran p) [] round) at.1 in
    sym (plan_fault c.args.counts.now c.args.threads (λ p. slice_index c.loop-round.ran p) (plan_rounds c.args.plan.now) c.loop-round.round-index c.loop-round.invariant.ran c.in-Some.fault at.0 judged c.loop-round.invariant.fault)

pub loop-round-preserved : goal.loop-round-preserved
loop-round-preserved c =
    let at = round_is (goal.at.loop-round-preserved c).After-deref in
    let judged = c.in_default.ensures.fault ∙ ap (λ (round : List Slot). fault_in_round c.args.counts.now c.args.threads (λ p. slice_index c.loop-round.ran p) [] round) at.1 in
    record {
      fault = plan_more c.args.counts.now c.args.threads (λ p. slice_index c.loop-round.ran p) (plan_rounds c.args.plan.now) c.loop-round.round-index c.loop-round.invariant.ran at.0 judged c.loop-round.invariant.fault;
      ran = λ p within.
          let more = slots_in_all-more p (plan_rounds c.args.plan.now) c.loop-round.round-index at.0 in
          let here : slots_of p c.deref.result.now ≡ slots_of p (get_or (plan_rounds c.args.plan.now) c.loop-round.round-index []) = ap (slots_of p) at.1 in
          let so_far = c.loop-round.invariant.ran p within in
          let now = c.in_default.ensures.ran p within in
          omega (arith, more, here, so_far, now);
    }

pub returns : goal.returns
returns c =
    let past : length (plan_rounds c.args.plan.now) ≤ c.loop-round.round-index =
    omega (arith, length-map c.args.plan.now.rounds.items (λ (round : Vec Slot Global). round.items), ap length c.deref-round-items.ensures.value) in
    c.end_fault.ensures ∙ plan_end c.args.counts.now c.args.threads (λ p. slice_index c.loop-round.ran p) (plan_rounds c.args.plan.now) c.loop-round.round-index c.loop-round.invariant.ran past c.loop-round.invariant.fault
