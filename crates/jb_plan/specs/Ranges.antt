-- Ranges that have no record in common.
use Rattle.std.specs.Prelude.{ℕ, ◌≤◌, ◌<◌, nat_lt, min, max, Bool, List, AllPairs}
use Rattle.jb_base.specs.declared.range.Range.{Range}

-- no record is in both ranges; so an empty range has none in common with any
abbrev pub HaveNoneInCommon : Range → Range → Type 0
HaveNoneInCommon r s = (x : ℕ) → r.lo ≤ x → x < r.hi → s.lo ≤ x → x < s.hi → ⊥

-- no record is in two of the ranges
abbrev pub AreDisjoint : List Range → Type 0
AreDisjoint ranges = AllPairs HaveNoneInCommon ranges

-- the test of two ranges: some record is in both
abbrev pub do_overlap : Range → Range → Bool
do_overlap r s = nat_lt (max r.lo s.lo) (min r.hi s.hi)
