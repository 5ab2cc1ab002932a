-- How records are divided evenly among partitions.
use Rattle.std.specs.Prelude.{ℕ, ◌≡◌, ◌+◌, ◌-◌, ◌*◌, ◌/◌, ◌%◌, ◌<◌, ◌≤◌, if◌then◌else◌, nat_lt, min, List, length, map, slice_index_or}
use Rattle.std.specs.List.{range_with_len}
use Rattle.jb_base.specs.declared.range.Range.{Range}

-- the records of the first i ranges: each range has an equal share, and the first ones have one more each from the rest
abbrev pub bound : (records parts i : ℕ) → ℕ
bound records parts i = i * (records / parts) + min i (records % parts)

abbrev pub even_range : (records parts i : ℕ) → Range
even_range records parts i = record { lo = bound records parts i; hi = bound records parts (i + 1) }

-- so many even ranges
unfoldable pub even_ranges : (records parts : ℕ) → List Range
even_ranges records parts = map (even_range records parts) (range_with_len 0 parts)

-- the i-th of these ranges, of those that are there
abbrev pub ith_range : List Range → (i : ℕ) → Range
ith_range ranges i = slice_index_or ranges i (record { lo = 0; hi = 0 })

-- record x is one of the i-th of these ranges
abbrev pub HasRecord : List Range → (i x : ℕ) → Type 0
HasRecord ranges i x = (i < length ranges) × ((ith_range ranges i).lo ≤ x) × (x < (ith_range ranges i).hi)

-- The even cover of so many records by so many partitions (this project's choice; Jakarta Batch 2.1 leaves it to the
-- mapper). The ranges are consecutive from 0 to the number of records. The first `records % parts` of them are one longer
-- than the rest, and each record is in exactly one.
pub record IsEvenCover (records parts : ℕ) (ranges : List Range) : Type 0 where
  pub number : length ranges ≡ parts
  pub first : (ith_range ranges 0).lo ≡ 0
  pub next : (i : ℕ) → i + 1 < parts → (ith_range ranges (i + 1)).lo ≡ (ith_range ranges i).hi
  pub last : (ith_range ranges (parts - 1)).hi ≡ records
  pub size : (i : ℕ) → i < parts → (ith_range ranges i).hi ≡ (ith_range ranges i).lo + (records / parts + (if nat_lt i (records % parts) then 1 else 0))
  pub somewhere : (x : ℕ) → x < records → (i : ℕ) × HasRecord ranges i x
  pub once : (i j x : ℕ) → HasRecord ranges i x → HasRecord ranges j x → i ≡ j
