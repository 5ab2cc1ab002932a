-- How the errors of calls on the checkpoints are printed; nothing is said here of the texts of faults that come from SQLite.
use Rattle.std.specs.Prelude.{ℕ, List, ◌++◌, Option, Some, None, codes, decimal}
use Rattle.jb_slice_file.specs.declared.error.StoreError.{StoreError}
use Rattle.jb_slice_file.specs.declared.error.StoreError.TheVariants.{Foreign, Version, Gap, Altered, Damaged, Busy, CannotOpen, Full, Disk, Shut, TooLong, Taken, TooMany, Memory, Sql}

abbrev pub store_error_text : StoreError → Option (List ℕ)
store_error_text Foreign = Some (codes "the database is another program's: it has no table of checkpoints")
store_error_text Version = Some (codes "the database has a table of checkpoints in another form: finish it by the program that made it, or delete it and begin anew")
store_error_text Gap = Some (codes "a checkpoint is missing: their numbers have a gap")
store_error_text (Altered number) = Some (codes "checkpoint " ++ (decimal number ++ codes " was changed: its digest is another one"))
store_error_text Damaged = Some (codes "the file is no database, or a damaged one")
store_error_text Busy = Some (codes "another process has the file open")
store_error_text CannotOpen = Some (codes "the file can't be opened to be read and written")
store_error_text Full = Some (codes "the disk is full")
store_error_text Disk = Some (codes "the disk failed")
store_error_text Shut = Some (codes "an earlier failure of the disk has shut the file")
store_error_text TooLong = Some (codes "the checkpoint is longer than a row may be")
store_error_text Taken = Some (codes "there is a checkpoint with this number already")
store_error_text TooMany = Some (codes "there are 4,294,967,295 checkpoints")
store_error_text Memory = Some (codes "out of memory")
store_error_text (Sql error) = None
