use Rattle.std.{proofs.Common.{List, [], ℕ, Some}, specs.Prelude.{IsTrue}, specs.Arc.{arc_value}}
use Rattle.jb_rows.specs.Streams.{HasGivenRows}
use Rattle.jb_slices.specs.Slice.{Functions}
use Rattle.jb_csv_job.specs.{SliceFiles.{CanResumeJob, LeavesJob}, Loop.{LeavesAny, job_of}, Skipped.{IfTook}, Standing.{Stands}}
use Rattle.jb_csv_job.proofs.run.all_slices.Given as goal

-- the job stands before the slice of this number; and what a crash leaves of the slices before it
abbrev pub invariant-loop-number : goal.invariant-loop-number
invariant-loop-number g l = record {
  clean : IsTrue (g.K.Keeper.are_clean l.keeper) → IsTrue (g.K.Keeper.are_clean l.initial.keeper);
  crash : IsTrue (g.K.Keeper.are_clean l.keeper)
      → LeavesAny (job_of l.work (g.F.RowFunction.answer (arc_value l.function))) g.H.Stored.log g.H.Stored.db (g.K.Keeper.may_leave l.initial.keeper) (g.K.Keeper.may_leave l.keeper);
  stands : IsTrue (g.K.Keeper.are_clean l.keeper) → (text : List ℕ) → HasGivenRows l.work.job.now.options g.R.Read.remaining l.initial.reader text [] → (functions : Functions)
      → (up : CanResumeJob (job_of l.work (g.F.RowFunction.answer (arc_value l.function))) functions (Some text) g.H.Stored.log g.H.Stored.db)
      → Stands (job_of l.work (g.F.RowFunction.answer (arc_value l.function))) g.R.Read.remaining text up.records l.number l.reader l.tally.skips l.tally.is_failed
      (g.N.Sink.took l.initial.sink l.sink) (IfTook g.L.Sink.took l.initial.list l.list)
      × LeavesJob (job_of l.work (g.F.RowFunction.answer (arc_value l.function))) functions (Some text) (g.K.Keeper.may_leave l.initial.keeper) (g.K.Keeper.may_leave l.keeper);
}
