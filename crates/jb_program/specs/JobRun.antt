-- The run of a job, and its restart: its steps in order, up to the first that isn't completed. The steps of a job run one after
-- another by Jakarta Batch 2.1. That such a step ends the job, and all else here, is this project's choice.
use Rattle.std.specs.Prelude.{ℕ, ◌≡◌, ◌-◌, ◌+◌, ◌⊎◌, if◌then◌else◌, List, [], ◌∷◌, drop, length, slice_get, bytes_eq, Option, Some, None}
use Rattle.std.specs.List.{zip}
use Rattle.jb_job.specs.Records.{SpecRecord, StepRecord}
use Rattle.jb_base.specs.declared.range.Range.{Range}
use Rattle.jb_plan.specs.declared.plan.PartitionPlan.{PartitionPlan}
use Rattle.jb_plan.specs.Plans.{IsRunnable}
use Rattle.jb_mapper.specs.EvenCover.{even_ranges}
use Rattle.jb_documents.specs.declared.run.step_data.StepData.{StepData}
use Rattle.jb_documents.specs.declared.run.document.Document.{Document}
use Rattle.jb_documents.specs.declared.restart.document.RestartDocument.{RestartDocument}
use Rattle.jb_documents.specs.declared.restart.resume.Resume.{Resume}
use Rattle.jb_artifacts.specs.Meaning.{ArtifactsMeaning}
use Rattle.jb_collect.specs.declared.calls.Status.{Status}
use Rattle.jb_collect.specs.declared.calls.Status.TheVariants.{Completed}
use Rattle.jb_step.specs.preparing.Setup.{Setup, overrides, saved_faults}
use Rattle.jb_texts.specs.Report.{Report, StepReport}
use Rattle.jb_program.specs.declared.run.settings.StepSettings.{StepSettings}
use Rattle.jb_program.specs.declared.streams.error.ProgramError.{ProgramError}
use Rattle.jb_program.specs.PartitionRun.{ArePartitionRuns, begun_with}
use Rattle.jb_program.specs.StepRun.{IsNotBegun, IsReportedStep, gone_on_from, outputs_of, rows_saved, setup_with, all_opening_artifacts}

-- ---- a step

-- the ranges that a step's plan gives, or as many even ones as it asks for
abbrev pub ranges_for : SpecRecord → Option (List Range) → (records : ℕ) → List Range
ranges_for spec None records = even_ranges records spec.partitions
ranges_for spec (Some ranges) records = ranges

-- the partition plan of a step with so many records
abbrev pub plan_for : SpecRecord → (records : ℕ) → PartitionPlan
plan_for spec records = record { ranges = ranges_for spec spec.ranges records; threads = spec.threads; replace = spec.replace }

-- the same for a step and what it works on
abbrev pub plan_of_step : StepRecord → StepData → PartitionPlan
plan_of_step step supply = plan_for step.spec (length supply.records)

-- what its partitions have in common
abbrev pub settings_of : StepRecord → StepData → StepSettings
settings_of step supply = record { rules = step.rules; item_count = step.item_count; prefix = supply.prefix; drop = supply.drop; faults = supply.faults }

-- what it resumes from: what the run before left, unless its plan overrides that
abbrev pub kept_of : StepRecord → Option Resume → Option Resume
kept_of step resume = gone_on_from step.spec.replace resume

-- what it begins with, from the start or from what the run before left
abbrev pub setup_of : StepRecord → StepData → Option Resume → Setup
setup_of step supply resume = setup_with step (plan_of_step step supply) (rows_saved (kept_of step resume))

-- what the partitions work with that aren't finished
abbrev pub opening_artifacts_of : StepRecord → StepData → Option Resume → List ArtifactsMeaning
opening_artifacts_of step supply resume = all_opening_artifacts (settings_of step supply) supply.records (outputs_of (kept_of step resume)) (setup_of step supply resume).rows

-- The step's plan can be run, and nothing is wrong with the rows that it resumes from or overrides. Its report is of a run of it: each
-- partition left what it leaves by itself. The plans, what was heard, the reducer's calls and the status are the run's.
pub record IsStepReport (step : StepRecord) (supply : StepData) (round_limit : Option ℕ) (resume : Option Resume) (report : StepReport) : Type 0 where
  pub runnable : IsRunnable (length supply.records) (plan_of_step step supply)
  pub accepted : saved_faults step (length supply.records) step.spec.replace (rows_saved resume) ≡ []
  pub id : report.id ≡ step.id
  pub partitions : ArePartitionRuns (begun_with (settings_of step supply) supply.records (outputs_of (kept_of step resume))) 0 (setup_of step supply resume).rows report.partitions
  pub reported : IsReportedStep (overrides step.spec.replace (rows_saved resume)) (setup_of step supply resume) (opening_artifacts_of step supply resume) (outputs_of (kept_of step resume)) round_limit report

-- The step is refused: its plan, or else what it would resume from, for the first fault.
abbrev pub IsStepRefused : StepRecord → StepData → Option Resume → ProgramError → Type 0
IsStepRefused step supply resume e = IsNotBegun step (length supply.records) (plan_of_step step supply) (rows_saved resume) e

-- ---- the steps

-- These are the reports of the steps, each of which comes with its data: a step runs exactly if all before it are completed.
-- The first may resume from what the run before left, the others begin from the start. The limit is that of each step by itself.
abbrev pub AreStepReports : List (StepRecord × StepData) → (round_limit : Option ℕ) → Option Resume → List StepReport → Type 0
AreStepReports [] round_limit resume reports = reports ≡ []
AreStepReports ((step, supply) ∷ steps) round_limit resume [] = ⊥
AreStepReports ((step, supply) ∷ steps) round_limit resume (report ∷ reports) =
    IsStepReport step supply round_limit resume report
    × (report.status ≡ Completed → AreStepReports steps round_limit None reports)
    × ((report.status ≡ Completed → ⊥) → reports ≡ [])

-- A step that follows on completed ones is refused so.
abbrev pub IsRefusedAtStep : List (StepRecord × StepData) → (round_limit : Option ℕ) → Option Resume → ProgramError → Type 0
IsRefusedAtStep [] round_limit resume e = ⊥
IsRefusedAtStep ((step, supply) ∷ steps) round_limit resume e =
    IsStepRefused step supply resume e
    ⊎ ((report : StepReport) × IsStepReport step supply round_limit resume report × (report.status ≡ Completed) × IsRefusedAtStep steps round_limit None e)

-- ---- the job

abbrev pub status_in : Option StepReport → Status
status_in None = Completed
status_in (Some report) = report.status

-- The job's status is that of its last step that ran.
pub record IsJobReport (document : Document) (round_limit : Option ℕ) (report : Report) : Type 0 where
  pub job : report.job ≡ document.job.id
  pub steps : AreStepReports (zip document.job.steps document.step_data) round_limit None report.steps
  pub ended : report.status ≡ status_in (slice_get report.steps (length report.steps - 1))

-- ---- its restart

-- how many steps come before the one of this id
abbrev pub earlier : (id : List ℕ) → List StepRecord → ℕ
earlier id [] = 0
earlier id (step ∷ steps) = if bytes_eq step.id id then 0 else earlier id steps + 1

-- how many steps of the document were done before
abbrev pub done_before : RestartDocument → ℕ
done_before document = earlier document.resume.saved.step document.job.steps

-- The steps before the one that the saved rows name aren't run and aren't in the report. That one resumes from what the run
-- before left, and the later ones run as usual.
pub record IsRestartRun (document : RestartDocument) (round_limit : Option ℕ) (report : Report) : Type 0 where
  pub job : report.job ≡ document.job.id
  pub steps : AreStepReports (drop (done_before document) (zip document.job.steps document.step_data)) round_limit (Some document.resume) report.steps
  pub ended : report.status ≡ status_in (slice_get report.steps (length report.steps - 1))

-- A step that comes to its turn is refused so.
abbrev pub IsRestartRefused : RestartDocument → (round_limit : Option ℕ) → ProgramError → Type 0
IsRestartRefused document round_limit e =
    IsRefusedAtStep (drop (done_before document) (zip document.job.steps document.step_data)) round_limit (Some document.resume) e
