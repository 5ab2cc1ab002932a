-- The names of refusals.
use Rattle.std.specs.Prelude.{ℕ, ◌≡◌, ◌⊎◌, false, ⊤}
use Rattle.sqlite_disk.specs.Disk.{MoreFaults}
use Rattle.sqlite.specs.State.{State}
use Rattle.sqlite.specs.declared.error.Error.{Error}
use Rattle.sqlite.specs.declared.error.Error.TheVariants.{SqliteFailure}
use Rattle.sqlite.specs.declared.error.ErrorCode.TheVariants as code
use Rattle.sqlite_schema.specs.declared.schema.Constraint.TheVariants.{PrimaryKey}
use Rattle.jb_slice_file.specs.declared.error.StoreError.{StoreError}
use Rattle.jb_slice_file.specs.Rows.{HasGap, IsAltered}
use Rattle.jb_slice_file.specs.TableSchema.{IsForeign, IsOtherVersion, checkpoint_schema}
use Rattle.jb_slice_file.specs.declared.error.StoreError.TheVariants.{Foreign, Version, Gap, Altered, Damaged, Busy, CannotOpen, Full, Disk, Shut, TooLong, Taken, TooMany, Memory, Sql}

-- how a refusal of SQLite is named here
abbrev pub refusal_named : Error → StoreError
refusal_named (SqliteFailure code.NotADatabase) = Damaged
refusal_named (SqliteFailure code.DatabaseCorrupt) = Damaged
refusal_named (SqliteFailure code.DatabaseBusy) = Busy
refusal_named (SqliteFailure code.CannotOpen) = CannotOpen
refusal_named (SqliteFailure code.DiskFull) = Full
refusal_named (SqliteFailure code.SystemIoFailure) = Disk
refusal_named (SqliteFailure code.Closed) = Shut
refusal_named (SqliteFailure code.TooBig) = TooLong
refusal_named (SqliteFailure (code.ConstraintViolation PrimaryKey)) = Taken
refusal_named (SqliteFailure code.OutOfMemory) = Memory
refusal_named e = Sql e

-- a refusal of what the database holds
abbrev pub IsListRefusal : StoreError → Type 0
IsListRefusal e = (e ≡ Foreign) ⊎ ((e ≡ Version) ⊎ ((e ≡ Gap) ⊎ ((number : ℕ) × (e ≡ Altered number))))

-- Why a statement that makes or reads the table fails. A call of the disk failed, the connection was shut before, it was out of memory, or
-- SQLite has another reason.
abbrev pub IsStoreFault : State → State → StoreError → Type 0
IsStoreFault old new Foreign = ⊥
IsStoreFault old new Version = ⊥
IsStoreFault old new Gap = ⊥
IsStoreFault old new (Altered number) = ⊥
IsStoreFault old new Busy = ⊥
IsStoreFault old new CannotOpen = ⊥
IsStoreFault old new Damaged = MoreFaults old.faults new.faults
IsStoreFault old new Full = MoreFaults old.faults new.faults
IsStoreFault old new Disk = MoreFaults old.faults new.faults
IsStoreFault old new Shut = old.is_open ≡ false
IsStoreFault old new TooLong = ⊥
IsStoreFault old new Taken = ⊥
IsStoreFault old new TooMany = ⊥
IsStoreFault old new Memory = ⊤
IsStoreFault old new (Sql e) = ⊤

-- why listing all rows fails: for one of these reasons, or their numbers have a gap, or one of them was changed
abbrev pub IsListFault : State → State → StoreError → Type 0
IsListFault old new e = (e ≡ Gap) ⊎ (((number : ℕ) × (e ≡ Altered number)) ⊎ IsStoreFault old new e)

-- Why the list of a connection that was just opened isn't taken. Its database is of another kind or version, has a gap or was changed. Or a
-- call of the disk failed, it was out of memory, or SQLite has another reason.
abbrev pub IsOpenCause : State → State → StoreError → Type 0
IsOpenCause old new Foreign = IsForeign old.now.schema
IsOpenCause old new Version = IsOtherVersion old.now.schema
IsOpenCause old new Gap = (old.now.schema ≡ checkpoint_schema) × HasGap old.now.trees
IsOpenCause old new (Altered number) = (old.now.schema ≡ checkpoint_schema) × IsAltered number old.now.trees
IsOpenCause old new Busy = ⊥
IsOpenCause old new CannotOpen = ⊥
IsOpenCause old new Damaged = MoreFaults old.faults new.faults
IsOpenCause old new Full = MoreFaults old.faults new.faults
IsOpenCause old new Disk = MoreFaults old.faults new.faults
IsOpenCause old new Shut = MoreFaults old.faults new.faults
IsOpenCause old new TooLong = ⊥
IsOpenCause old new Taken = ⊥
IsOpenCause old new TooMany = ⊥
IsOpenCause old new Memory = ⊤
IsOpenCause old new (Sql e) = ⊤

-- Why an append fails with this error. A call of the disk failed, or the connection was shut before. A checkpoint with the number exists, the
-- new one is too long, or no number is left for it. It was out of memory, or SQLite has another reason. An append never gives the refusals
-- of an open.
abbrev pub IsCaused : State → State → (has_number is_too_long is_full : Type 0) → StoreError → Type 0
IsCaused old new has_number is_too_long is_full Foreign = ⊥
IsCaused old new has_number is_too_long is_full Version = ⊥
IsCaused old new has_number is_too_long is_full Gap = ⊥
IsCaused old new has_number is_too_long is_full (Altered number) = ⊥
IsCaused old new has_number is_too_long is_full Busy = ⊥
IsCaused old new has_number is_too_long is_full CannotOpen = ⊥
IsCaused old new has_number is_too_long is_full Damaged = MoreFaults old.faults new.faults
IsCaused old new has_number is_too_long is_full Full = MoreFaults old.faults new.faults
IsCaused old new has_number is_too_long is_full Disk = MoreFaults old.faults new.faults
IsCaused old new has_number is_too_long is_full Shut = old.is_open ≡ false
IsCaused old new has_number is_too_long is_full TooLong = is_too_long
IsCaused old new has_number is_too_long is_full Taken = has_number
IsCaused old new has_number is_too_long is_full TooMany = is_full
IsCaused old new has_number is_too_long is_full Memory = ⊤
IsCaused old new has_number is_too_long is_full (Sql e) = ⊤
