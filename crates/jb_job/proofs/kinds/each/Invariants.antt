use Rattle.std.proofs.Common.{◌≡◌, map, drop, length}
use Rattle.serde_json.specs.View.{items_view}
use Rattle.jb_job.specs.Reading.{each_after, each_at}
use Rattle.jb_job.proofs.kinds.each.Given as goal

-- the members so far, and then the others, are all members
abbrev pub invariant-loop-item : goal.invariant-loop-item
invariant-loop-item g l = record {
  so_far : each_after g.M.Member.kind (map g.M.Member.shown l.done.items) (items_view (drop l.item-index l.items.items)) ≡ each_at g.M.Member.kind (items_view l.items.items);
  one_for_each : length l.done.items ≡ l.item-index;
}
