use Rattle.std.proofs.Common.{IfOk, List, arith}
use Rattle.std.specs.Arc.{arc_value}
use Rattle.std.proofs.lemmas.Result.{IfErr-weaker, IfOk-at_ok, IfOk-weaker}
use Rattle.sqlite.specs.Held.{state}
use Rattle.jb_slice_file.specs.CheckpointBytes.{CheckpointBytes}
use Rattle.jb_slice_file.specs.Connections.{Keeps}
use Rattle.jb_slice_file.proofs.Handed.{each_ok, handed_on, on_ok}
use Rattle.jb_slice_run.specs.durable.Ends.{Tells}
use Rattle.jb_slice_run.specs.durable.Work.{IfResumed}
use Rattle.jb_slice_run.proofs.durable.Causing.{unended}
use Rattle.jb_slice_run.proofs.durable.slice.run_slice.Goals.{After-ended}
use Rattle.jb_slice_run.proofs.durable.slice.run_slice.Goals as goal

pub returns-in_err-place-clause-cause : goal.returns-in_err-place-clause-cause
returns-in_err-place-clause-cause g c functions all at = handed_on _ _ _ c.from_residual.ensures.1 (c.in_err-place.ensures.cause functions all at)

told : (g : _) (c : After-ended g) → IfResumed c.args.job.now (g.F.RowFunction.answer (arc_value c.args.function.now)) c.args.number c.args.items.now (state g.S.Store c.args.conn.now) (state g.S.Store c.resume_and_run.new.conn)
    (λ w all. IfOk c.ended.result (λ end. (now : List CheckpointBytes) × Keeps (state g.S.Store c.resume_and_run.new.conn) now × Tells w end now))
told g c functions all at =
    let run = c.in_ok-place.ensures.kept functions all at in
    IfOk-weaker c.ended.result _ _ (λ end tells. (run.all, run.rests.keeps, tells)) (c.ended.ensures.told functions _ _ _ run.all run.rests.stands)

pub returns : goal.returns
returns g c = record {
  ends = λ functions all at. IfOk-weaker c.ended.result _ _ (λ end t. (t.0, t.1, t.2.ended)) (told g (goal.at.returns g c).After-ended functions all at);
  all = λ functions all at. IfOk-weaker c.ended.result _ _ (λ end t. t.2.results) (told g (goal.at.returns g c).After-ended functions all at);
  skips = λ functions all at. IfOk-weaker c.ended.result _ _ (λ end t. t.2.skips) (told g (goal.at.returns g c).After-ended functions all at);
  failures = λ functions all at. IfOk-weaker c.ended.result _ _ (λ end t. t.2.failures) (told g (goal.at.returns g c).After-ended functions all at);
  status = c.ended.ensures.status;
  agrees = IfOk-weaker c.ended.result _ _ (λ end both. both.0) c.ended.ensures.agrees;
  ended = IfOk-weaker c.ended.result _ _ (λ end both. both.1) c.ended.ensures.agrees;
  passes = λ functions all at. IfOk-weaker c.ended.result _ _ (λ end t. t.2.passes) (told g (goal.at.returns g c).After-ended functions all at);
  fails = λ functions all at. IfOk-weaker c.ended.result _ _ (λ end t. t.2.fails) (told g (goal.at.returns g c).After-ended functions all at);
  again = λ functions all at whole long.
      let was = c.in_ok-place.ensures.again functions all at whole long in
      let completed = c.ended.ensures.whole was.0 in
      each_ok c.ended.result _ (λ end is.
      let done = IfOk-at_ok _ is completed in
      (done, (IfOk-at_ok _ is (told g (goal.at.returns g c).After-ended functions all at)).2.results done, was.1));
  untouched = c.resume_and_run.ensures.untouched;
  own = λ all at. on_ok c.ended.result _ (c.in_ok-place.ensures.own all at);
  refused = λ all at. IfErr-weaker c.ended.result _ _ (λ e own is. absurd (own is)) c.ended.ensures.own;
  cause = λ functions all at.
      let run = c.in_ok-place.ensures.kept functions all at in
      IfErr-weaker c.ended.result _ _ (unended _ _ (state g.S.Store c.args.conn.now) (state g.S.Store c.resume_and_run.new.conn) all _ (λ is. let cut = run.cut is in record { all = run.all; so_far = run.rests.so_far; full = omega (arith, cut) })) c.ended.ensures.why;
  clean = c.resume_and_run.ensures.clean;
  crash = c.resume_and_run.ensures.crash;
}
