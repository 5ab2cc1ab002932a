-- What an item reader means (Jakarta Batch 2.1, "ItemReader"). Own choices: records are numbered, and faults are planned.
use Rattle.std.specs.Prelude.{ℕ, ◌+◌, ◌-◌, List, [], length, Option, slice_index_or}
use Rattle.jb_base.specs.declared.class.ClassId.{ClassId}
use Rattle.jb_artifacts.specs.Faults.{FaultTable, live, used_at}

-- records numbered from `first` on, the number of the next one to be read, and a fault plan per record
pub record Reader : Type 0 where
  pub first : ℕ
  pub records : List (List ℕ)
  pub place : ℕ
  pub faults : FaultTable

-- one past the last record's number
abbrev pub reader_end : Reader → ℕ
reader_end r = r.first + length r.records

-- the record of a number, of those that are there
abbrev pub record_at : Reader → ℕ → List ℕ
record_at r k = slice_index_or r.records (k - r.first) []

-- the reader with another place
abbrev pub opened : Reader → ℕ → Reader
opened r at = record r { place = at }

-- the fault of the next record's plan, if it has one
abbrev pub read_fault : Reader → Option ClassId
read_fault r = live (r.faults r.place)

-- the reader passes the record, even if its read failed (own choice), and the record's plan advances by one call
abbrev pub after_read : Reader → Reader
after_read r = record r { place = r.place + 1; faults = used_at r.faults r.place }
