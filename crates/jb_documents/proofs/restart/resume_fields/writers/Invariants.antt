use Rattle.std.proofs.Common.{◌≡◌}
use Rattle.std.specs.Vec.Iter.{into_iter_items}
use Rattle.jb_job.specs.Reading.{each_after, each_at}
use Rattle.jb_job.specs.declared.field.Field.TheVariants as field
use Rattle.jb_documents.specs.ResumeFields.{texts_at}
use Rattle.jb_documents.specs.inside.Borrowed.{items_seen}
use Rattle.jb_documents.proofs.restart.resume_fields.writers.Given as goal

-- the writers so far, and then the others, are all writers
abbrev pub invariant-loop-tree : goal.invariant-loop-tree
invariant-loop-tree l = each_after (λ _. texts_at field.Outputs) l.writers.items (items_seen (into_iter_items l.tree-iterator)) ≡ each_at (λ _. texts_at field.Outputs) (items_seen l.fn.trees.items)
