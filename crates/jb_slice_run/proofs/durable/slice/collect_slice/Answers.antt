use Rattle.std.proofs.Common.{refl, sym, ◌∙◌, true≢false, rules}
use Rattle.std.proofs.lemmas.Option.{none-some}
use Rattle.std.specs.Arc.{arc_value}
use Rattle.sqlite.specs.Held.{state}
use Rattle.jb_slice_file.proofs.Handed.{handed_on}
use Rattle.jb_slice_run.specs.durable.Ends.{Tells}
use Rattle.jb_slice_run.specs.durable.Work.{IfResumed}
use Rattle.jb_slice_run.proofs.durable.Causing.{unended}
use Rattle.jb_slice_run.proofs.durable.slice.collect_slice.Goals.{In_ok-end}
use Rattle.jb_slice_run.proofs.durable.slice.collect_slice.Goals as goal

pub returns-in_err-place-clause-cause : goal.returns-in_err-place-clause-cause
returns-in_err-place-clause-cause g c functions all at = handed_on _ _ _ c.from_residual.ensures.1 (c.in_err-place.ensures.cause functions all at)

-- ---- it isn't whole

pub returns-then-not-is_whole-clause-none : goal.returns-then-not-is_whole-clause-none
returns-then-not-is_whole-clause-none g c functions all at whole long none =
    true≢false (sym (c.is_whole.ensures.1 (c.in_ok-place.ensures.done functions all at whole long)) ∙ c.if-not-is_whole.true)

-- ---- it is

pub ended-requires : goal.ended-requires
ended-requires g c = let agrees = c.in_ok-place.ensures.agrees in let ends = c.is_whole.ensures.0 c.if-not-is_whole.false in search rules

pub returns-in_err-end-clause-cause : goal.returns-in_err-end-clause-cause
returns-in_err-end-clause-cause g c functions all at =
    handed_on _ _ _ c.from_residual-in_err-end.ensures.1 (unended _ _ (state g.S.Store c.args.conn.now) (state g.S.Store c.resumed.new.conn) all _ (λ is. absurd cc) _ c.in_err-end.ensures.why)

pub returns-in_err-end-clause-crash : goal.returns-in_err-end-clause-crash
returns-in_err-end-clause-crash g c = c.resumed.ensures.left

-- ---- it is collected

told : (g : _) (c : In_ok-end g) → IfResumed c.args.job.now (g.F.RowFunction.answer (arc_value c.args.function.now)) c.args.number c.args.items.now (state g.S.Store c.args.conn.now) (state g.S.Store c.resumed.new.conn) (λ w all. Tells w c.in_ok-end.end all)
told g c functions all at = c.in_ok-end.ensures.told functions _ _ _ all (c.in_ok-place.ensures.rests functions all at).stands

pub returns : goal.returns
returns g c = record {
  ends = λ functions all at. ((c.in_ok-place.ensures.rests functions all at).keeps, (told g (goal.at.returns g c).In_ok-end functions all at).ended);
  all = λ functions all at. (told g (goal.at.returns g c).In_ok-end functions all at).results (c.in_ok-end.ensures.whole refl);
  skips = λ functions all at. (told g (goal.at.returns g c).In_ok-end functions all at).skips (c.in_ok-end.ensures.whole refl);
  status = c.in_ok-end.ensures.whole refl;
  passes = λ functions all at. (told g (goal.at.returns g c).In_ok-end functions all at).passes (c.in_ok-end.ensures.whole refl);
  none = λ functions all at whole long none. none-some c.in_ok-end.end (sym none);
  own = c.in_ok-place.ensures.own;
  refused = λ all at. tt;
  cause = λ functions all at. tt;
  clean = c.resumed.ensures.later.clean;
  crash = c.resumed.ensures.left;
}
