use Rattle.std.proofs.Common.{◌≡◌, ◌≤◌, length, take, map, vec_len, vec_capacity, ◌+◌, ◌-◌}
use Rattle.jb_base.proofs.packed_list.lowered.Given as goal

-- the ends so far, with room for the others
abbrev pub invariant-loop-end : goal.invariant-loop-end
invariant-loop-end l = record {
  so_far : l.lowered.items ≡ map (λ end. end - l.base) (take l.end-index l.ends);
  room : vec_len l.lowered + (length l.ends - l.end-index) ≤ vec_capacity l.lowered;
}
