use Rattle.std.proofs.Common.{◌≡◌, take}
use Rattle.jb_slice_run.specs.Coding.{coded, AreCodable}
use Rattle.jb_slice_run.proofs.coding.coding_of.Given as goal

-- the lists so far are written
abbrev pub invariant-loop-list : goal.invariant-loop-list
invariant-loop-list l = record {
  coded : l.out.items ≡ coded (take l.list-index l.lists);
  fits : AreCodable (take l.list-index l.lists);
}
