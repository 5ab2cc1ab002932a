use Rattle.std.{proofs.Common.{map, take}, specs.List.{Contains}}
use Rattle.jb_slice_run.proofs.lists.is_among.Given as goal

-- it is none of those so far
abbrev pub invariant-loop-stamp : goal.invariant-loop-stamp
invariant-loop-stamp l = Contains (map (λ stamp. stamp.now) (take l.stamp-index l.stamps)) l.text → ⊥
