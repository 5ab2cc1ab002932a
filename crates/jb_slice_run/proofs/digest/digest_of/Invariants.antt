use Rattle.std.{proofs.Common.{◌≡◌, ◌++◌, List, ℕ, take}, specs.Prelude.{flat_map}}
use Rattle.sha2.specs.Hashers.{Holds256}
use Rattle.jb_slices.specs.Checkpoint.{coded_item}
use Rattle.jb_slice_run.proofs.digest.digest_of.Given as goal

-- the items so far were handed to the hasher, or stand in the piece
abbrev pub invariant-loop-index : goal.invariant-loop-index
invariant-loop-index l = (m : List ℕ) × Holds256 l.hasher m × (m ++ l.piece.items ≡ flat_map coded_item (take l.index l.items))
