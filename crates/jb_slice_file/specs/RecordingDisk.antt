-- What a `RecordingDisk` shows.
use Rattle.std.specs.Prelude.{Bool}
use Rattle.sqlite_disk.specs.declared.Disk as disk
use Rattle.jb_slice_file.specs.declared.recording_disk.DiskHistory as given
use Rattle.jb_slice_file.specs.declared.recording_disk.RecordingDisk.{RecordingDisk}

module _ {D G : Type 0} {d : disk.Ghosts D} {g : given.Ghosts G} where
  -- the disk that it passes calls on to
  abbrev pub disk_of : RecordingDisk D G d g → D
  disk_of it = it.disk

  abbrev pub is_log_of : RecordingDisk D G d g → Bool
  is_log_of it = it.is_log

  abbrev pub has_written : RecordingDisk D G d g → Bool
  has_written it = it.has_written
