use Rattle.std.proofs.Common.{◌∙◌, ap, arith, rules, subst, sym}
use Rattle.jb_artifacts.specs.Faults.{FaultTable, plans_of}
use Rattle.jb_records.specs.Artifacts.{AreNeverSkipped, IsNeverSkipped}
use Rattle.jb_records.proofs.Causes.{skipped-here}
use Rattle.jb_records.proofs.Going.{never}
use Rattle.jb_records.proofs.Trying.{all-tries, never-more, no-tries, one-more}
use Rattle.jb_records.proofs.artifacts.tries_of.Goals as goal

pub loop-index-init : goal.loop-index-init
loop-index-init g c = (
  λ k. subst (λ (plans : FaultTable). IsNeverSkipped c.args.rules.now (plans k)) (sym c.new-tries.ensures) tt,
  λ k. ap (λ (plans : FaultTable). plans k) c.new-tries.ensures ∙ no-tries (g.F.StepFunction.function c.args.function.now) c.args.first c.args.records.now k,
)

pub loop-index-preserved : goal.loop-index-preserved
loop-index-preserved g c =
    let f = g.F.StepFunction.function c.args.function.now in
    let put = c.in_ok-put_tries.ensures in
    let written_before = c.in_ok-classes.ensures in
    let never : AreNeverSkipped c.args.rules.now c.in_ok-classes.classes.items = search rules in (
      never-more c.args.rules.now (plans_of c.loop-index.tries) (plans_of c.put_tries.new.tries) _ _ never put c.loop-index.invariant.0,
      one-more f c.args.first c.args.records.now c.loop-index.index c.at.result.now c.in_ok-classes.classes.items _ _ c.at.ensures (written_before ∙ ap f.tries c.of.ensures) put c.loop-index.invariant.1,
    )

pub returns-clause-tries : goal.returns-clause-tries
returns-clause-tries g c =
    let f = g.F.StepFunction.function c.args.function.now in
    let end = c.loop-index.auto.index-end in
    let past = c.loop-index-test.false in
    all-tries f c.args.first c.args.records.now c.loop-index.index _ (omega (arith, end, past)) c.loop-index.invariant.1

pub returns-then-not-are_never_skipped-clause-why : goal.returns-then-not-are_never_skipped-clause-why
returns-then-not-are_never_skipped-clause-why g c =
    let f = g.F.StepFunction.function c.args.function.now in
    skipped-here f c.args.rules.now c.args.first c.args.records.now c.loop-index.index c.at.result.now c.in_ok-classes.classes.items (let end = c.loop-index.auto.index-end in let below = c.loop-index-test.true in omega (arith, end, below)) c.at.ensures (c.in_ok-classes.ensures ∙ ap f.tries c.of.ensures)
    (λ are. never (sym (c.are_never_skipped.ensures.skipped (subst (AreNeverSkipped c.args.rules.now) (sym c.deref.ensures.value) are)) ∙ c.if-not-are_never_skipped.true))
