-- The chunks that are left of a range of records.
use Rattle.std.specs.Prelude.{ℕ, ◌+◌, ◌-◌, ◌*◌, ◌/◌, if◌then◌else◌, nat_lt, ◌==◌, min, max, Option, Some, None, unwrap_or, slice_get, List, [], ◌∷◌, ◌++◌, length, map, filter, drop, ◌≡◌, ◌≤◌, ◌<◌}
use Rattle.std.specs.List.{range_with_len}
use Rattle.jb_base.specs.declared.range.Range.{Range}

-- the one record x
abbrev pub single : (x : ℕ) → Range
single x = record { lo = x; hi = x + 1 }

-- the records from a to b - 1, one by one
abbrev pub singles : (a b : ℕ) → List Range
singles a b = map single (range_with_len a (b - a))

-- the j-th block of `count` records from s on, cut off at `hi`
abbrev pub block : (s hi count j : ℕ) → Range
block s hi count j = record { lo = s + j * count; hi = min hi (s + (j + 1) * count) }

-- the blocks of `count` records from s on that begin below `hi`
abbrev pub full_blocks : (s hi count : ℕ) → List Range
full_blocks s hi count = map (block s hi count) (filter (λ j. nat_lt (s + j * count) hi) (range_with_len 0 (hi - s)))

-- The chunks that are left of the records from `at` to `hi - 1`. Each has as many items as the step's item-count says
-- (Jakarta Batch 2.1, "Chunk"). Only the one at the range's end may be shorter (this project's choice). Below `redo`, up
-- to which a rolled-back chunk is done again, each chunk has one record (also this project's choice).
unfoldable pub blocks : (at redo hi count : ℕ) → List Range
blocks at redo hi count = singles at redo ++ full_blocks (max at redo) hi count

-- how many chunks are left
abbrev pub left : (at redo hi count : ℕ) → ℕ
left at redo hi count = length (blocks at redo hi count)

-- the next chunk, which is the first of them; if nothing is left, the empty range at `at`
abbrev pub next_block : (at redo hi count : ℕ) → Range
next_block at redo hi count = unwrap_or (slice_get (blocks at redo hi count) 0) (record { lo = at; hi = at })

-- LAWS

-- the block holds the next records, at least one, within the range; the other chunks are left after it
pub record IsNext (at redo hi count : ℕ) (block : Range) : Type 0 where
  pub from : block.lo ≡ at
  pub some : at < block.hi
  pub within : block.hi ≤ hi
  pub others : blocks at redo hi count ≡ block ∷ blocks block.hi redo hi count

-- the chunks that are left follow one another up to the range's end: from the end of each chunk on, the chunks after it
-- are left; and there are no more chunks than records
pub record ChunksFollow : Type 0 where
  pub next : (at redo hi count : ℕ) → at < hi → redo ≤ hi → 1 ≤ count → IsNext at redo hi count (next_block at redo hi count)
  pub none : (redo hi count : ℕ) → redo ≤ hi → blocks hi redo hi count ≡ []
  pub rest :
      (at redo hi count j : ℕ) (chunk : Range) → at ≤ hi → redo ≤ hi → 1 ≤ count → slice_get (blocks at redo hi count) j ≡ Some chunk
      → blocks chunk.hi redo hi count ≡ drop (j + 1) (blocks at redo hi count)
  pub few : (at redo hi count : ℕ) → at ≤ hi → redo ≤ hi → 1 ≤ count → left at redo hi count ≤ hi - at

-- THE SAME AS FORMULAS

-- the first of the blocks
abbrev pub first_block : (at redo hi count : ℕ) → Option Range
first_block at redo hi count =
    if at == hi
    then None
    else (if nat_lt at redo then Some (record { lo = at; hi = at + 1 }) else Some (record { lo = at; hi = min hi (at + count) }))

-- the number of blocks
abbrev pub blocks_left : (at redo hi count : ℕ) → ℕ
blocks_left at redo hi count = (redo - at) + ((hi - max at redo) + (count - 1)) / count
