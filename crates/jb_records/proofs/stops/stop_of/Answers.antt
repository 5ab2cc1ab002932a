use Rattle.std.proofs.Common.{rules, ◌≡◌, ◌∙◌, ◌+◌, ◌≤◌, ◌<◌, Some, ap, arith, refl, subst, suc, sym}
use Rattle.jb_records.specs.Artifacts.{record_of}
use Rattle.jb_records.specs.Function.{refusal_of}
use Rattle.jb_records.proofs.Stopping.{HavePassed, all-passed, have-begun, none-more, skip-more, stops-at}
use Rattle.jb_records.proofs.stops.stop_of.Goals.{in-Some+else-not-passes, in_default}
use Rattle.jb_records.proofs.stops.stop_of.Goals as goal

pub loop-index-init : goal.loop-index-init
loop-index-init g c follows =
    let none : c.max-from.result ≡ c.max-from.result + 0 = omega arith in
    subst (λ n. HavePassed (g.F.StepFunction.function c.args.function.now) c.args.rules.now c.args.records.now c.args.row.now n c.args.row.now.counts.process_skip) none
    (have-begun (g.F.StepFunction.function c.args.function.now) c.args.rules.now c.args.records.now c.args.row.now c.max-from.result _ c.max-from.ensures refl follows)

pub returns-then-not-passes : goal.returns-then-not-passes
returns-then-not-passes g c follows =
    let f = g.F.StepFunction.function c.args.function.now in
    let is = c.max-from.ensures in
    let count = c.saturating_sub-count.ensures in
    let below = c.loop-index-test.true in
    let number = c.max-from.result + c.loop-index.index in
    let refused : refusal_of f (record_of 0 c.args.records.now number) ≡ Some c.in-Some.class = ap (refusal_of f) (sym c.record_of.ensures) ∙ sym c.in_ok-class.ensures ∙ c.in-Some.is in
    stops-at f c.args.rules.now c.args.records.now c.args.row.now c.choices_are_the_rules.ensures.fail number c.loop-index.skips c.in-Some.class
    (omega (arith, is)) (omega (arith, is)) (omega (arith, count, below)) refused (c.passes.ensures.fail c.if-not-passes.true) (c.loop-index.invariant follows)

pub loop-index-preserved : goal.loop-index-preserved
loop-index-preserved g c follows =
    let f = g.F.StepFunction.function c.args.function.now in
    let is = c.max-from.ensures in
    let count = c.saturating_sub-count.ensures in
    let below = c.loop-index-test.true in
    let number = c.max-from.result + c.loop-index.index in
    let next : suc number ≡ c.max-from.result + (c.loop-index.index + 1) = omega arith in
    let from : c.args.row.now.lo ≤ number = omega (arith, is) in
    let fits : c.args.row.now.hi < 18446744073709551616 = search rules in
    let answer = ap (refusal_of f) (sym c.record_of.ensures) ∙ sym c.in_ok-class.ensures in
    subst (λ n. HavePassed f c.args.rules.now c.args.records.now c.args.row.now n c.match-branch-2.skips) next
    (elim c.match-branch-2.branch [
      | in-Some+else-not-passes w ↦ skip-more f c.args.rules.now c.args.records.now c.args.row.now c.choices_are_the_rules.ensures.skip number c.loop-index.skips 18446744073709551615 c.match-branch-2.skips w.in-Some.class
          from (omega (arith, count, below, fits)) (answer ∙ w.in-Some.is) (w.passes.ensures.skip w.if-not-passes.false) (w.skips-is ∙ w.saturating_add-skips.ensures) (c.loop-index.invariant follows)
      | in_default w ↦ subst (HavePassed f c.args.rules.now c.args.records.now c.args.row.now (suc number)) (sym w.skips-is)
          (none-more f c.args.rules.now c.args.records.now c.args.row.now number c.loop-index.skips from (answer ∙ w.in_default.is) (c.loop-index.invariant follows))
    ])

pub returns : goal.returns
returns g c follows =
    let f = g.F.StepFunction.function c.args.function.now in
    let count = c.saturating_sub-count.ensures in
    let past = c.loop-index-test.false in
    all-passed f c.args.rules.now c.args.records.now c.args.row.now (c.max-from.result + c.loop-index.index) c.loop-index.skips (omega (arith, count, past)) (c.loop-index.invariant follows)
