use Rattle.std.proofs.Common.{◌≡◌}
use Rattle.std.specs.Vec.Iter.{into_iter_items}
use Rattle.jb_job.specs.Reading.{each_after, each_at}
use Rattle.jb_documents.specs.StepFields.{data_at}
use Rattle.jb_documents.specs.inside.Borrowed.{items_seen}
use Rattle.jb_documents.proofs.run.document.steps_data.Given as goal

-- the steps so far, and then the others, are all steps
abbrev pub invariant-loop-tree : goal.invariant-loop-tree
invariant-loop-tree l = each_after (λ _. data_at l.job.classes) l.steps.items (items_seen (into_iter_items l.tree-iterator)) ≡ each_at (λ _. data_at l.job.classes) (items_seen l.fn.trees.items)
