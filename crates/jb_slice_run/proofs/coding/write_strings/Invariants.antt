use Rattle.std.{proofs.Common.{◌≡◌, ◌++◌, take}, specs.List.{AllByRecursion}}
use Rattle.jb_slice_run.specs.Coding.{coded_strings, IsShort}
use Rattle.jb_slice_run.proofs.coding.write_strings.Given as goal

-- the strings so far are written
abbrev pub invariant-loop-index : goal.invariant-loop-index
invariant-loop-index l = record {
  coded : l.out.items ≡ l.initial.out.items ++ coded_strings (take l.index l.list);
  fits : AllByRecursion (λ s. IsShort s) (take l.index l.list);
}
