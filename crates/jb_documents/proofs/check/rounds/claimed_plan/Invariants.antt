use Rattle.std.specs.Prelude.{List}
use Rattle.jb_job.specs.declared.field.Field.TheVariants as field
use Rattle.jb_cert.specs.declared.plans.Slot.{Slot}
use Rattle.jb_documents.specs.CheckDocument.{round_at}
use Rattle.jb_documents.proofs.check.rounds.claimed_plan.Given as goal

abbrev pub ghosts-each : goal.ghosts-each
ghosts-each a = record { Shown = List Slot; shown = λ round. round.items; kind = λ done. round_at field.Rounds }
