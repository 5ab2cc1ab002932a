-- Records that have as many fields each.
use Rattle.std.specs.Prelude.{ℕ, ◌≡◌, ◌<◌, List, [], length, slice_index_or}
use Rattle.jb_rows.specs.Fields.{Fields}

-- the record has as many fields as the first of these
abbrev pub HasWidthOf : List Fields → Fields → Type 0
HasWidthOf records fields = length fields ≡ length (slice_index_or records 0 [])

-- each of these records has as many fields as the first
abbrev pub AreEven : List Fields → Type 0
AreEven records = (index : ℕ) → index < length records → HasWidthOf records (slice_index_or records index [])

-- THE FIRST THAT HAS MORE FIELDS OR FEWER than the first record is the one of this index
pub record IsUnevenAt (records : List Fields) (index : ℕ) : Type 0 where
  pub there : index < length records
  pub uneven : ¬ (HasWidthOf records (slice_index_or records index []))
  pub before : (earlier : ℕ) → earlier < index → HasWidthOf records (slice_index_or records earlier [])
