-- What a process run leaves.
use Rattle.std.specs.Prelude.{◌≡◌, false, List, IsTrue}
use Rattle.sqlite_disk.specs.declared.Disk.{Ghosts}
use Rattle.sqlite_disk.specs.declared.Files.{Files}
use Rattle.sqlite_wal.specs.Reads.{AreClean}
use Rattle.sqlite_wal.specs.Recovery.{Image}
use Rattle.jb_slice_file.specs.CheckpointBytes.{CheckpointBytes}
use Rattle.jb_slice_file.specs.declared.stop.ProcessRun.{ProcessRun}
use Rattle.jb_slice_file.specs.Files.{CanGoOn, HoldsRun, Leaves, MayGoOn}

-- If the files are clean in the end: `From` of all that a crash could leave before gives `To` of all that it leaves now.
abbrev pub Leads : {D : Type 0} (g : Ghosts D) (before : Files D) (process_run : ProcessRun D) (From To : Image → Type 0) → Type 0
Leads g before process_run From To = AreClean g process_run.files.log process_run.files.db → Leaves g From before → Leaves g To process_run.files

-- A PROCESS RUN that began with the files `before` IS OVER. `so_far` says which checkpoints are those of a run so far.
pub record IsProcessRunOver {D : Type 0} (g : Ghosts D) (so_far : List CheckpointBytes → Type 0) (before : Files D) (process_run : ProcessRun D) : Type 0 where
  -- The files that it leaves may be used.
  pub usable : IsTrue (g.is_usable process_run.files.log) × IsTrue (g.is_usable process_run.files.db)
  -- They are clean only if the files were clean as it began.
  pub clean : AreClean g process_run.files.log process_run.files.db → AreClean g before.log before.db
  -- If it had the files open, then files from which a run may resume lead to files that hold a run.
  pub ran : IsTrue process_run.has_run → Leads g before process_run (MayGoOn so_far) (HoldsRun so_far)
  -- If it isn't loose, files that held a run still do.
  pub cut : process_run.is_loose ≡ false → Leads g before process_run (HoldsRun so_far) (HoldsRun so_far)
  -- If it isn't loose, files from which a run can resume stay so.
  pub first : process_run.is_loose ≡ false → Leads g before process_run (CanGoOn so_far) (CanGoOn so_far)
  -- The same holds for files whose tables may lack their numbers.
  pub again : process_run.is_loose ≡ false → Leads g before process_run (MayGoOn so_far) (MayGoOn so_far)
  -- Loose or not, a run may still resume from the files; their tables may lack their numbers.
  pub loose : Leads g before process_run (CanGoOn so_far) (MayGoOn so_far)
