use Rattle.std.proofs.Common.{◌≡◌, drop}
use Rattle.serde_json.specs.Find.{as_str}
use Rattle.jb_job.specs.Reading.{each_after, each_at, shaped}
use Rattle.jb_job.specs.declared.field.Field.TheVariants as field
use Rattle.jb_documents.specs.inside.Borrowed.{items_seen}
use Rattle.jb_documents.proofs.restart.resume_fields.packed.Given as goal

-- the texts so far, and then the others, are all texts
abbrev pub invariant-loop-item : goal.invariant-loop-item
invariant-loop-item l = each_after (λ _ text. shaped field.Outputs (as_str text)) l.texts (items_seen (drop l.item-index l.items.items)) ≡ each_at (λ _ text. shaped field.Outputs (as_str text)) (items_seen l.items.items)
