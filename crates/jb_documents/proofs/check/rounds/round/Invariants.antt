use Rattle.jb_job.specs.declared.field.Field.TheVariants as field
use Rattle.jb_cert.specs.declared.plans.Slot.{Slot}
use Rattle.jb_documents.specs.CheckDocument.{slot_at}
use Rattle.jb_documents.proofs.check.rounds.round.Given as goal

abbrev pub ghosts-each : goal.ghosts-each
ghosts-each a = record { Shown = Slot; shown = λ slot. slot; kind = λ done. slot_at field.Rounds }
