use Rattle.std.proofs.Common.{◌≡◌, map, drop}
use Rattle.jb_job.specs.Reading.{each_after, each_at}
use Rattle.jb_documents.specs.inside.Borrowed.{items_seen}
use Rattle.jb_documents.proofs.kinds.each.Given as goal

-- the members so far, and then the others, are all members
abbrev pub invariant-loop-item : goal.invariant-loop-item
invariant-loop-item g l = each_after g.M.Member.kind (map g.M.Member.shown l.done.items) (items_seen (drop l.item-index l.items.items)) ≡ each_at g.M.Member.kind (items_seen l.items.items)
