-- A run of a step by `run_step`, and all that is said of it.
use Rattle.std.specs.Prelude.{ℕ, List, Option}
use Rattle.jb_artifacts.specs.Meaning.{ArtifactsMeaning}
use Rattle.jb_cert.specs.declared.notes.PlanNote.{PlanNote}
use Rattle.jb_collect.specs.AnsweredCalls.{AnsweredCall}
use Rattle.jb_collect.specs.declared.calls.AnalyzerCall.{AnalyzerCall}
use Rattle.jb_repo.specs.declared.snapshot.Snapshot.{Snapshot}
use Rattle.jb_step.specs.Answers.{AreLeftOnTheWay, IsRunOfStep, StepRun}
use Rattle.jb_step.specs.Headline.{Headline}
use Rattle.jb_step.specs.preparing.Prepare.{DoFit}
use Rattle.jb_step.specs.preparing.Setup.{Setup, first_tasks}

-- a run of the step that was set up so, over these artifacts, in so many rounds at most; what its analyzer had heard before it and after it,
-- its notes, its snapshot and the artifacts that it left
abbrev pub step_run : Setup → List ArtifactsMeaning → (rounds : Option ℕ) → (heard_before heard_after : List (AnsweredCall AnalyzerCall)) → List PlanNote → Snapshot → (left : List (ℕ × ArtifactsMeaning)) → StepRun
step_run s artifacts rounds heard_before heard_after notes snapshot left = record {
  setup = s;
  artifacts = artifacts;
  round_limit = rounds;
  heard_before = heard_before;
  heard_after = heard_after;
  notes = notes;
  snapshot = snapshot;
  left = left;
}

-- There was such a run, and all that `run_step` says of it holds: its plans, and where they left each partition (`headline`).
pub record IsStepRunOf (s : Setup) (artifacts : List ArtifactsMeaning) (rounds : Option ℕ) (snapshot : Snapshot) (left : List (ℕ × ArtifactsMeaning)) : Type 0 where
  pub heard_before : List (AnsweredCall AnalyzerCall)
  pub heard_after : List (AnsweredCall AnalyzerCall)
  pub notes : List PlanNote
  pub fit : DoFit s artifacts
  pub run : IsRunOfStep (step_run s artifacts rounds heard_before heard_after notes snapshot left)
  pub headline : Headline (step_run s artifacts rounds heard_before heard_after notes snapshot left)
  pub ways : AreLeftOnTheWay (first_tasks s artifacts) snapshot.rows.items left
