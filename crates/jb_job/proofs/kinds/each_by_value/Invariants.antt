use Rattle.std.proofs.Common.{◌≡◌, ◌+◌, map, length}
use Rattle.serde_json.specs.View.{items_view}
use Rattle.std.specs.Vec.Iter.{into_iter_items}
use Rattle.jb_job.specs.Reading.{each_after, each_at}
use Rattle.jb_job.proofs.kinds.each_by_value.Given as goal

-- the members so far, and then the others, are all members
abbrev pub invariant-loop-member : goal.invariant-loop-member
invariant-loop-member g l = record {
  so_far : each_after g.M.Member.kind (map g.M.Member.shown l.done.items) (items_view (into_iter_items l.member-iterator)) ≡ each_at g.M.Member.kind (items_view l.fn.items.items);
  one_for_each : length l.done.items + length (into_iter_items l.member-iterator) ≡ length l.fn.items.items;
}
