-- What a run of a step's rounds leaves, with an analyzer and a reducer that answer each call well.
use Rattle.std.proofs.Common.{◌≡◌, ℕ, ◌||◌, false, Option, List, length, map, ap₂, ◌∙◌}
use Rattle.jb_artifacts.specs.Meaning.{ArtifactsMeaning}
use Rattle.jb_collect.specs.declared.calls.AnalyzerCall.{AnalyzerCall}
use Rattle.jb_collect.specs.declared.calls.ReducerCall.{ReducerCall}
use Rattle.jb_collect.specs.declared.calls.Status.{Status}
use Rattle.jb_collect.specs.AnsweredCalls.{AnsweredCall, since, well}
use Rattle.jb_repo.specs.declared.snapshot.Snapshot.{Snapshot}
use Rattle.jb_cert.specs.declared.notes.PlanNote.{PlanNote}
use Rattle.jb_step.specs.Answers.{IsStatus, StepRun}
use Rattle.jb_step.specs.preparing.Setup.{Setup}
use Rattle.jb_step.specs.Statuses.{status_of}
use Rattle.jb_program.proofs.Callbacks.{well-faults}

-- the run that was handed this, and answered that
abbrev pub run_with : Setup → List ArtifactsMeaning → Option ℕ → (before after : List (AnsweredCall AnalyzerCall)) → List PlanNote → Snapshot → List (ℕ × ArtifactsMeaning) → StepRun
run_with setup artifacts round_limit before after notes snapshot left = record {
  setup = setup;
  artifacts = artifacts;
  round_limit = round_limit;
  heard_before = before;
  heard_after = after;
  notes = notes;
  snapshot = snapshot;
  left = left;
}

-- no callback failed
pub stands : (snapshot : Snapshot) (heard : List (AnsweredCall AnalyzerCall)) (reduced : List (AnsweredCall ReducerCall)) (more : List AnalyzerCall) (after : List ReducerCall) (status : Status)
    → IsStatus snapshot (since heard (map well more)) (since reduced (map well after)) status → status ≡ status_of snapshot.rows.items false
stands snapshot heard reduced more after status is =
    is ∙ ap₂ (λ reported answered. status_of snapshot.rows.items (reported || answered)) (well-faults (length heard) more) (well-faults (length reduced) after)
