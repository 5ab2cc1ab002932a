use Rattle.std.proofs.Common.{sym, ◌∙◌, arith}
use Rattle.jb_saved.proofs.Unfit.{found-at, none-found, fit_more}
use Rattle.jb_saved.proofs.rows.first_unfit.Goals as goal

pub returns-then-is_unfit : goal.returns-then-is_unfit
returns-then-is_unfit c = sym (found-at c.args.rows.now c.loop-i.i _ c.loop-i-test.true c.loop-i.invariant (sym c.is_unfit.ensures ∙ c.if-is_unfit.true))

pub loop-i-preserved : goal.loop-i-preserved
loop-i-preserved c = fit_more c.args.rows.now c.loop-i.i _ c.loop-i.invariant (sym c.is_unfit.ensures ∙ c.if-is_unfit.false) c.loop-i-test.true

pub returns : goal.returns
returns c = sym (none-found c.args.rows.now (λ k d lt. c.loop-i.invariant k d (omega (arith, lt, c.loop-i-test.false))))
