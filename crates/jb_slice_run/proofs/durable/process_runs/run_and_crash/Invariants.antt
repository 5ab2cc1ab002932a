use Rattle.std.specs.Arc.{arc_value}
use Rattle.jb_slice_file.specs.DiskHistory.{clean_now, left_now}
use Rattle.jb_slice_run.specs.durable.Work.{SoFar, slice_input_of}
use Rattle.jb_slice_run.proofs.durable.process_runs.run_and_crash.Given as goal

-- what the life has in mind
abbrev pub ghosts-recorded_run : goal.ghosts-recorded_run
ghosts-recorded_run g a = record {
  was_clean = clean_now g.D.Disk a.files;
  could_leave = left_now g.D.Disk a.files;
  is_so_far = SoFar (slice_input_of a.job.now g.N.Meaning.functions (g.F.RowFunction.answer (arc_value a.function.now)) a.number a.items.now);
}
