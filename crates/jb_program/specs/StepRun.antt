-- The run of a step: what it begins with, or resumes from, and what its report says of it.
use Rattle.std.specs.Prelude.{ℕ, ◌≡◌, ◌==◌, Bool, true, false, List, [], map, take, find, slice_get, Option, Some, None, Ok, is_none}
use Rattle.std.specs.List.{enumerate_from}
use Rattle.std.specs.Str.Lossy.{utf8_lossy}
use Rattle.jb_job.specs.Records.{StepRecord}
use Rattle.jb_job.specs.declared.field.Field.TheVariants as field
use Rattle.jb_plan.specs.Plans.{IsRunnable, threads_of}
use Rattle.jb_plan.specs.Faults.{IsFirst, plan_errors}
use Rattle.jb_plan.specs.declared.plan.PartitionPlan.{PartitionPlan}
use Rattle.jb_rules.specs.declared.row.Row.{Row}
use Rattle.jb_artifacts.specs.Meaning.{ArtifactsMeaning}
use Rattle.jb_repo.specs.declared.snapshot.Snapshot.{Snapshot}
use Rattle.jb_collect.specs.ReducerCalls.{reducer_calls}
use Rattle.jb_collect.specs.AnsweredCalls.{well}
use Rattle.jb_saved.specs.SavedRows.{SavedRows}
use Rattle.jb_step.specs.Answers.{IsRunOfStep, StepRun}
use Rattle.jb_step.specs.Headline.{Headline}
use Rattle.jb_step.specs.preparing.Setup.{Setup, opening_rows, saved_faults, unfinished}
use Rattle.jb_step.specs.Statuses.{status_of}
use Rattle.jb_documents.specs.ResumeFields.{held_outputs_at}
use Rattle.jb_documents.specs.declared.restart.resume.Resume.{Resume}
use Rattle.jb_texts.specs.Report.{PartitionReport, StepReport}
use Rattle.jb_program.specs.declared.run.settings.StepSettings.{StepSettings}
use Rattle.jb_program.specs.declared.streams.error.ProgramError.{ProgramError}
use Rattle.jb_program.specs.declared.streams.error.ProgramError.TheVariants as failure
use Rattle.jb_program.specs.PartitionRun.{held_by, opening_artifacts_for}

-- ---- what it goes on from

-- the rows that the run before left, if there was one
abbrev pub rows_saved : Option Resume → Option SavedRows
rows_saved None = None
rows_saved (Some resume) = Some resume.saved

-- what a step resumes from: nothing if its plan overrides it
abbrev pub gone_on_from : (replace : Bool) → Option Resume → Option Resume
gone_on_from true resume = None
gone_on_from false resume = resume

-- what its writers held
abbrev pub outputs_of : Option Resume → List (List (List ℕ))
outputs_of None = []
outputs_of (Some resume) = resume.outputs

-- there are as many writers as rows, and each holds what its row committed
abbrev pub AreHeld : Resume → Type 0
AreHeld resume = held_outputs_at field.Outputs resume.outputs resume.saved.rows ≡ Ok resume.outputs

-- ---- what it begins with

-- the rows of all partitions, new ones or those of the run before, on the plan's threads
abbrev pub setup_with : StepRecord → PartitionPlan → Option SavedRows → Setup
setup_with step plan saved = record {
  rows = opening_rows plan.ranges saved;
  rules = step.rules;
  item_count = step.item_count;
  threads = threads_of plan;
  is_fresh = is_none saved;
}

-- The step isn't started: its plan has a first fault, or it can be run and the saved rows have one.
abbrev pub IsNotBegun : StepRecord → (records : ℕ) → PartitionPlan → Option SavedRows → ProgramError → Type 0
IsNotBegun step records plan saved (failure.Plan fault) = IsFirst fault (plan_errors records plan)
IsNotBegun step records plan saved (failure.Saved place) =
    IsRunnable records plan × (slice_get (saved_faults step records plan.replace saved) 0 ≡ Some place)
IsNotBegun step records plan saved _ = ⊥

-- what the partitions work with that aren't finished
abbrev pub all_opening_artifacts : StepSettings → (records : List (List ℕ)) → (outputs : List (List (List ℕ))) → List Row → List ArtifactsMeaning
all_opening_artifacts settings records outputs rows = map (opening_artifacts_for settings records outputs) (unfinished rows)

-- ---- what its report says

-- the results in a writer as texts, or those that were committed before where the partition needed none
abbrev pub outputs_in : (before : List (List ℕ)) → Option (ℕ × ArtifactsMeaning) → List (List ℕ)
outputs_in before None = map utf8_lossy before
outputs_in before (Some left) = map utf8_lossy left.1.writer.written

-- the results that a partition committed, of those that its writer held
abbrev pub committed_of : (outputs : List (List (List ℕ))) → ℕ × Row → List (List ℕ)
committed_of outputs n = take n.1.written (held_by outputs n.0)

-- each partition with its row, and what is in the writer that came back from it; from a finished one none did
abbrev pub partitions_left : (outputs : List (List (List ℕ))) → List Row → (left : List (ℕ × ArtifactsMeaning)) → List PartitionReport
partitions_left outputs rows left =
    map (λ n. record { row = n.1; outputs = outputs_in (committed_of outputs n) (find (λ one. one.0 == n.0) left) }) (enumerate_from 0 rows)

-- the run that the report describes, with what else it left
abbrev pub reported_run : Setup → List ArtifactsMeaning → (round_limit : Option ℕ) → StepReport → Snapshot → (left : List (ℕ × ArtifactsMeaning)) → StepRun
reported_run s artifacts round_limit report snapshot left = record {
  setup = s;
  artifacts = artifacts;
  round_limit = round_limit;
  heard_before = [];
  heard_after = map well report.heard;
  notes = report.plans;
  snapshot = snapshot;
  left = left;
}

-- Some run of the step in no more rounds than the limit: the report has its partitions, its plans and its status, and all that
-- its analyzer heard. It has all calls of its reducer too: if an earlier run's results are discarded, their rollback is one of
-- them. Each call of the two was answered well. The headline holds of the run: each plan in the report has exactly the
-- chunks not yet committed then, in the fewest rounds of all valid plans, with its certificate.
pub record IsReportedStep (overrides : Bool) (s : Setup) (artifacts : List ArtifactsMeaning) (outputs : List (List (List ℕ))) (round_limit : Option ℕ) (report : StepReport) : Type 0 where
  pub snapshot : Snapshot
  pub left : List (ℕ × ArtifactsMeaning)
  pub run : IsRunOfStep (reported_run s artifacts round_limit report snapshot left)
  pub headline : Headline (reported_run s artifacts round_limit report snapshot left)
  pub partitions : report.partitions ≡ partitions_left outputs snapshot.rows.items left
  pub status : report.status ≡ status_of snapshot.rows.items false
  pub reducer : report.reducer ≡ reducer_calls true overrides (status_of snapshot.rows.items false) false
