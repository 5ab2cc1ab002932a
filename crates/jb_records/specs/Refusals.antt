-- Why a step's rows have no text.
use Rattle.std.specs.Prelude.{List}
use Rattle.jb_rules.specs.declared.row.Row.{Row}
use Rattle.jb_saved.specs.Answers.{first_running}
use Rattle.jb_step.specs.restarts.Saving.{RefusesSaving}
use Rattle.jb_records.specs.declared.error.RecordsStepError.{RecordsStepError}
use Rattle.jb_records.specs.declared.error.RecordsStepError.TheVariants.{Memory, Step}

-- a row runs on a lane, or memory ran out
abbrev pub IsUnsaved : List Row → RecordsStepError → Type 0
IsUnsaved rows (Step why) = RefusesSaving why (first_running rows)
IsUnsaved rows Memory = Unit {0}
IsUnsaved rows _ = ⊥
