use Rattle.std.proofs.Common.{◌≡◌, IsTrue}
use Rattle.std.specs.Arc.{arc_value}
use Rattle.sqlite_wal.specs.Reads.{AreClean}
use Rattle.jb_slice_file.specs.Files.{HoldsRunOrNone, Leaves}
use Rattle.jb_slice_file.proofs.Stages.{StandAfter}
use Rattle.jb_slice_run.specs.durable.Work.{SoFar, slice_input_of}
use Rattle.jb_slice_run.proofs.durable.process_runs.through_crashes.Given as goal

abbrev pub invariant-process_runs : goal.invariant-process_runs
invariant-process_runs g l =
    let so_far = SoFar (slice_input_of l.job g.N.Meaning.functions (g.F.RowFunction.answer (arc_value l.function)) l.fn.number l.items) in
    record {
      log : IsTrue (g.D.Disk.is_usable l.left.log);
      db : IsTrue (g.D.Disk.is_usable l.left.db);
      stands : AreClean g.D.Disk l.left.log l.left.db → Leaves g.D.Disk (HoldsRunOrNone so_far) l.fn.files → StandAfter g.D.Disk so_far l.is_sure l.left;
      counted : l.crashes ≡ l.count-index;
    }
