use Rattle.jb_slice_run.proofs.durable.Telling.{keeps_all}
use Rattle.jb_slice_run.proofs.durable.process_runs.run_over_files.Goals as goal

pub returns : goal.returns
returns g c = record {
  shown = c.resume_and_run.ensures.shown;
  done = λ functions all at done.
      let run = c.in_ok-loop_end.ensures.kept functions all at in
      (run.all, keeps_all c.rows_are_progress.ensures.ends c.slices_have_results.ensures.all run.rests (rw (c.is_whole.ensures done) at c.in_ok-loop_end.ensures.agrees));
  clean = c.resume_and_run.ensures.clean;
  crash = c.resume_and_run.ensures.crash;
}

pub returns-in_err-loop_end-clause-shown : goal.returns-in_err-loop_end-clause-shown
returns-in_err-loop_end-clause-shown g c = c.resume_and_run.ensures.shown

pub returns-in_err-loop_end-clause-clean : goal.returns-in_err-loop_end-clause-clean
returns-in_err-loop_end-clause-clean g c = c.resume_and_run.ensures.clean

pub returns-in_err-loop_end-clause-crash : goal.returns-in_err-loop_end-clause-crash
returns-in_err-loop_end-clause-crash g c = c.resume_and_run.ensures.crash
