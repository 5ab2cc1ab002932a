use Rattle.std.proofs.Common.{rules, ◌≡◌, false, refl, arith}
use Rattle.std.proofs.lemmas.Option.{slice_get-get_or, slice_get_within}
use Rattle.jb_rules.specs.declared.row.Row.{Row}
use Rattle.jb_rules.specs.Sound.{IsSoundRow}
use Rattle.jb_rules.specs.States.{is_running}
use Rattle.jb_repo.proofs.Openings.{each_more}
use Rattle.jb_repo.proofs.opening.are_idle.Goals as goal

pub returns-then-not-is_idle : goal.returns-then-not-is_idle
returns-then-not-is_idle c = (
  λ h. absurd cc,
  λ all.
      let yes = c.is_idle.ensures.1 (all c.loop-i.i _ (slice_get-get_or c.args.rows.now c.loop-i.i _ (omega arith))) in
      absurd cc,
)

pub loop-i-preserved : goal.loop-i-preserved
loop-i-preserved c =
    each_more (λ (r : Row). IsSoundRow r × (is_running r.state ≡ false)) c.args.rows.now c.loop-i.i _ c.loop-i.invariant (c.is_idle.ensures.0 (search rules))

pub returns : goal.returns
returns c = (λ h i r is. c.loop-i.invariant i r (let lt = slice_get_within c.args.rows.now i r is in omega arith) is, λ all. refl)
