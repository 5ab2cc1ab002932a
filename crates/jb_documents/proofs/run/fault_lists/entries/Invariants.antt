use Rattle.std.proofs.Common.{◌≡◌}
use Rattle.std.specs.Vec.Iter.{into_iter_items}
use Rattle.jb_job.specs.Reading.{each_after, each_at}
use Rattle.jb_documents.specs.FaultLists.{planned_fault_at}
use Rattle.jb_documents.specs.inside.Borrowed.{items_seen}
use Rattle.jb_documents.proofs.run.fault_lists.entries.Given as goal

-- the entries so far, and then the others, are all entries
abbrev pub invariant-loop-tree : goal.invariant-loop-tree
invariant-loop-tree l =
    each_after (planned_fault_at l.job.classes l.field l.records) l.faults.items (items_seen (into_iter_items l.tree-iterator)) ≡ each_at (planned_fault_at l.job.classes l.field l.records) (items_seen l.fn.trees.items)
