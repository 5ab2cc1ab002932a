use Rattle.std.proofs.Common.{◌≤◌, length, inl, refl, sym, ◌∙◌, true≢false, le_trans}
use Rattle.sqlite.specs.Held.{state}
use Rattle.std.specs.Arc.{arc_value}
use Rattle.jb_slice_file.proofs.Handed.{handed_on}
use Rattle.jb_slice_run.specs.durable.Work.{IfResumed, IsWhole}
use Rattle.jb_slice_run.proofs.durable.Causing.{breaks_since, resumed_before, shown_before}
use Rattle.jb_slice_run.proofs.durable.resume_and_run.resume_and_run.Goals.{After-run}
use Rattle.jb_slice_run.proofs.durable.resume_and_run.resume_and_run.Goals as goal

-- ---- the slice isn't resumed

pub returns-in_err-place-clause-untouched : goal.returns-in_err-place-clause-untouched
returns-in_err-place-clause-untouched g c functions all at whole long = c.resumed.ensures.left all at.shown

pub returns-in_err-place-clause-crash : goal.returns-in_err-place-clause-crash
returns-in_err-place-clause-crash g c functions all at db may = (all, c.resumed.ensures.left all at.shown db may, at.so_far)

pub returns-in_err-place-clause-cause : goal.returns-in_err-place-clause-cause
returns-in_err-place-clause-cause g c functions all at = handed_on _ _ _ c.from_residual.ensures.1 (c.in_err-place.ensures.cause functions all at)

-- ---- it is whole

pub returns-then-is_whole : goal.returns-then-is_whole
returns-then-is_whole g c = record {
  shown = c.resumed.ensures.shown;
  kept = λ functions all at. record { all = all; end = _; rests = c.in_ok-place.ensures.rests functions all at; cut = λ is. absurd cc };
  agrees = record { agrees = c.in_ok-place.ensures.agrees; ends = c.is_whole.ensures.0 c.if-is_whole.true };
  again = λ functions all at whole long. (refl, (c.in_ok-place.ensures.rests functions all at).keeps);
  untouched = λ functions all at whole long. c.resumed.ensures.left all at.shown;
  own = c.in_ok-place.ensures.own;
  refused = λ all at. tt;
  cause = λ functions all at. tt;
  clean = c.resumed.ensures.later.clean;
  crash = λ functions all at db may. (all, c.resumed.ensures.left all at.shown db may, at.so_far);
}

-- ---- it breaks off

not-whole : (g : _) (c : After-run g) → IfResumed c.args.job.now (g.F.RowFunction.answer (arc_value c.args.function.now)) c.args.number c.args.items.now (state g.S.Store c.args.conn.now) (state g.S.Store c.run.new.conn) (λ w all. IsWhole w all → 2 ≤ length all → ⊥)
not-whole g c functions all at whole long = true≢false (sym (c.is_whole.ensures.1 (c.in_ok-place.ensures.done functions all (resumed_before c.run.ensures.later at) whole long)) ∙ c.if-is_whole.false)

pub returns-in_err-place-2-clause-untouched : goal.returns-in_err-place-2-clause-untouched
returns-in_err-place-2-clause-untouched g c functions all at whole long = absurd (not-whole g (goal.at.returns-in_err-place-2-clause-untouched g c).After-run functions all at whole long)

pub returns-in_err-place-2-clause-cause : goal.returns-in_err-place-2-clause-cause
returns-in_err-place-2-clause-cause g c functions all at =
    let broken = (rw c.deref-2.ensures at c.in_err-place-2.ensures.broken) at.shown.clean functions all (c.in_ok-place.ensures.rests functions all (resumed_before c.run.ensures.later at)) in
    handed_on _ _ _ c.from_residual-in_err-place-2.ensures.1 ((breaks_since c.resumed.ensures.later c.run.ensures.later at.shown.clean broken).cause all)

pub returns-in_err-place-2-clause-clean : goal.returns-in_err-place-2-clause-clean
returns-in_err-place-2-clause-clean g c = le_trans c.resumed.ensures.later.clean c.run.ensures.later.clean

pub returns-in_err-place-2-clause-crash : goal.returns-in_err-place-2-clause-crash
returns-in_err-place-2-clause-crash g c functions all at =
    ((rw c.deref-2.ensures at c.in_err-place-2.ensures.broken) at.shown.clean functions all (c.in_ok-place.ensures.rests functions all (resumed_before c.run.ensures.later at))).crash

-- ---- intervals are added

pub returns : goal.returns
returns g c = record {
  shown = c.resumed.ensures.shown;
  kept = λ functions all at.
      let now = (rw c.deref-2.ensures at c.in_ok-place-2.ensures.kept) at.shown.clean functions all (c.in_ok-place.ensures.rests functions all (resumed_before c.run.ensures.later at)) in
      record { all = now.0; end = _; rests = now.1; cut = λ is. (rw now.1.ends.count at (c.in_ok-place-2.ensures.cut is)) };
  agrees = c.in_ok-place-2.ensures.agrees;
  again = λ functions all at whole long. absurd (not-whole g (goal.at.returns g c).After-run functions all at whole long);
  untouched = λ functions all at whole long. absurd (not-whole g (goal.at.returns g c).After-run functions all at whole long);
  own = λ all at. c.in_ok-place.ensures.own all (shown_before c.run.ensures.later at);
  refused = λ all at. tt;
  cause = λ functions all at. tt;
  clean = le_trans c.resumed.ensures.later.clean c.run.ensures.later.clean;
  crash = λ functions all at db may.
      let now = (rw c.deref-2.ensures at c.in_ok-place-2.ensures.kept) at.shown.clean functions all (c.in_ok-place.ensures.rests functions all (resumed_before c.run.ensures.later at)) in
      (now.0, inl (now.1.keeps.leaves db may), now.1.so_far);
}
