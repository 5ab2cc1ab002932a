-- From one life to the next.
use Rattle.std.proofs.Common.{◌≡◌, ◌&&◌, ◌||◌, Bool, true, false, not, List, IsTrue, rules}
use Rattle.sqlite_disk.{specs.declared.Disk.Ghosts, specs.declared.Files.Files}
use Rattle.sqlite_wal.specs.Reads.{AreClean}
use Rattle.jb_slice_file.specs.{CheckpointBytes.CheckpointBytes, Files.{CanGoOn, HoldsRunOrNone, Leaves, MayGoOn}, declared.stop.ProcessRun.ProcessRun, ProcessRuns.IsProcessRunOver}
use Rattle.jb_slice_file.proofs.Opens.{may_go_on, none_goes_on, run_goes_on}

-- WHAT LIVES LEAVE: files from which a run may go on and, unless an open was cut of which the kit doesn't say it, whose tables have their numbers
pub record StandAfter {D : Type 0} (g : Ghosts D) (so_far : List CheckpointBytes → Type 0) (is_sure : Bool) (files : Files D) : Type 0 where
  pub sure : IsTrue is_sure → Leaves g (CanGoOn so_far) files
  pub all : Leaves g (MayGoOn so_far) files

module _ {D : Type 0} {g : Ghosts D} (so_far : List CheckpointBytes → Type 0) where
  pub begins : (files : Files D) → Leaves g (HoldsRunOrNone so_far) files → StandAfter g so_far true files
  begins files leaves = search (rules, may_go_on, none_goes_on)

  pub one_process_run : (before : Files D) (process_run : ProcessRun D) (sure : Bool) → (process_run.is_loose && not sure) ≡ false → AreClean g process_run.files.log process_run.files.db → IsProcessRunOver g so_far before process_run
      → StandAfter g so_far sure before → StandAfter g so_far (process_run.has_run || (sure && not process_run.is_loose)) process_run.files
  one_process_run before process_run sure once honest over at = search (rules, may_go_on, run_goes_on, over.ran, over.first, over.again, over.loose)
