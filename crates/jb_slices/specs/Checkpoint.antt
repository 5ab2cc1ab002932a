-- What the checkpoints of a slice say.
use Rattle.std.specs.Prelude.{ℕ, List, length, ◌++◌, flat_map, Option}
use Rattle.std.specs.Int.{w32, to_le_bytes}
use Rattle.sha2.specs.Sha256.{sha256}
use Rattle.jb_rules.specs.declared.row.Row.{Row}
use Rattle.jb_slices.specs.Function.{Fault}
use Rattle.jb_slices.specs.Job.{Job, Limits}

-- THE HEADER: whose slice it is. The stamp is a text that the author changes with the function. The digest is that of the slice's items.
pub record Header : Type 0 where
  pub job : Job
  pub limits : Limits
  pub stamp : List ℕ
  pub number : ℕ
  pub items : ℕ
  pub digest : List ℕ

-- one partition: how far it is, its results, the faults that it skipped, and the fault by which it failed
pub record Progress : Type 0 where
  pub row : Row
  pub results : List (List ℕ)
  pub skips : List Fault
  pub stop : Option Fault

-- A CHECKPOINT INTERVAL: the limits of its run, and for each partition how far it is and what is new
pub record Interval : Type 0 where
  pub limits : Limits
  pub partitions : List Progress

-- A CHECKPOINT: the slice begins, or continues
pub data Checkpoint : Type 0 where
  Begins : Header → Checkpoint
  GoesOn : Interval → Checkpoint

-- SHA-256 (FIPS 180-4) of the items, each after its length
abbrev pub coded_item : List ℕ → List ℕ
coded_item item = to_le_bytes w32 (length item) ++ item

unfoldable pub digest_of : (items : List (List ℕ)) → List ℕ
digest_of items = sha256 (flat_map coded_item items)

-- the header of the slice with this number and these items
abbrev pub header_of : Job → Limits → (stamp : List ℕ) → (number : ℕ) → (items : List (List ℕ)) → Header
header_of job limits stamp number items = record { job = job; limits = limits; stamp = stamp; number = number; items = length items; digest = digest_of items }
