use Rattle.std.proofs.Common.{◌≡◌, take}
use Rattle.jb_slice_run.proofs.lists.is_same.Given as goal

-- the strings so far are the same
abbrev pub invariant-loop-index : goal.invariant-loop-index
invariant-loop-index l = take l.index l.list ≡ take l.index l.other
