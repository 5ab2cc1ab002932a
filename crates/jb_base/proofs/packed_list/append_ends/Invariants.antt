use Rattle.std.proofs.Common.{◌≡◌, ◌≤◌, ◌++◌, length, take, map, vec_len, vec_capacity, ◌+◌, ◌-◌}
use Rattle.jb_base.proofs.packed_list.append_ends.Given as goal

-- the ends so far are appended, and there is room for the others
abbrev pub invariant-loop-end : goal.invariant-loop-end
invariant-loop-end l = record {
  so_far : l.ends.items ≡ l.fn.ends.items ++ map (λ end. l.base + end) (take l.end-index l.more);
  room : vec_len l.ends + (length l.more - l.end-index) ≤ vec_capacity l.ends;
}
