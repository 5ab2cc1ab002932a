use Rattle.std.proofs.Common.{◌≡◌, ◌+◌, length}
use Rattle.std.specs.Vec.Iter.{into_iter_items}
use Rattle.jb_base.specs.Limits.{max_record}
use Rattle.jb_job.specs.Reading.{each_after, each_at, text_at}
use Rattle.jb_job.specs.declared.field.Field.TheVariants as field
use Rattle.jb_documents.specs.inside.Borrowed.{items_seen}
use Rattle.jb_documents.proofs.run.step_fields.packed.Given as goal

-- the texts so far, and then the others, are all texts
abbrev pub invariant-loop-item : goal.invariant-loop-item
invariant-loop-item l = record {
  so_far : each_after (λ _. text_at 0 max_record field.Records) l.texts (items_seen (into_iter_items l.item-iterator)) ≡ each_at (λ _. text_at 0 max_record field.Records) (items_seen l.fn.items.items);
  one_for_each : length l.texts + length (into_iter_items l.item-iterator) ≡ length l.fn.items.items;
}
