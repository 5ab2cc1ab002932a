use Rattle.std.proofs.Common.{sym, ap, subst, ◌∙◌}
use Rattle.std.proofs.lemmas.List.{drop_more}
use Rattle.jb_step.specs.inside.rounds.Round.{AreWhole, had_memory}
use Rattle.jb_step.proofs.rounds.runner.are_whole.Goals as goal

pub loop-done-preserved : goal.loop-done-preserved
loop-done-preserved g c rest =
    let here = ap (λ done. had_memory done.outcome) (sym c.done-item.is) ∙ sym c.is_whole.ensures ∙ c.if-not-is_whole.false in
    c.loop-done.invariant (subst AreWhole (sym (drop_more c.args.dones.now c.loop-done.done-index c.done-item.result c.loop-done-test.true)) (here, rest))
