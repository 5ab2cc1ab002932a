-- FAILURES THAT LAST: the same call fails again, however long one waits, until somebody changes what it meets.
use Rattle.std.specs.Prelude.{ℤ, pos, Bool, true, false, ◌||◌, Option, Some, None}
use Rattle.std.specs.Ordering.{int_eq}
use Rattle.std.specs.IoError.{error_kind, raw_os_error}
use Rattle.std.specs.declared.io.Error.{Error}
use Rattle.std.specs.declared.io.ErrorKind.{ErrorKind}
use Rattle.std.specs.declared.io.ErrorKind.TheVariants.{PermissionDenied, ReadOnlyFilesystem, Unsupported, InvalidInput, NotADirectory, IsADirectory, FilesystemLoop, InvalidFilename}

-- there is no leave; the file system can't be written, or doesn't know the call; or the path can't be that of such a file
abbrev pub is_lasting_kind : ErrorKind → Bool
is_lasting_kind PermissionDenied = true
is_lasting_kind ReadOnlyFilesystem = true
is_lasting_kind Unsupported = true
is_lasting_kind InvalidInput = true
is_lasting_kind NotADirectory = true
is_lasting_kind IsADirectory = true
is_lasting_kind FilesystemLoop = true
is_lasting_kind InvalidFilename = true
is_lasting_kind _ = false

-- ENOLCK of Linux: the file system has no locks
abbrev pub is_without_locks : Option ℤ → Bool
is_without_locks (Some code) = int_eq code (pos 37)
is_without_locks None = false

abbrev pub lasts : Error → Bool
lasts error = is_lasting_kind (error_kind error) || is_without_locks (raw_os_error error)
