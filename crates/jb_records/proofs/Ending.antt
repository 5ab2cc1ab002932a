-- What comes of a run of the step: where its partitions, its rows and its results are at its end.
use Rattle.std.proofs.Common.{◌≡◌, ℕ, false, List, Option, ap, sym, subst, ◌∙◌}
use Rattle.jb_artifacts.specs.Meaning.{ArtifactsMeaning}
use Rattle.jb_chunk.specs.TaskState.{TaskState}
use Rattle.jb_collect.specs.declared.calls.Status.{Status}
use Rattle.jb_collect.specs.declared.calls.Status.TheVariants.{Completed}
use Rattle.jb_repo.specs.declared.snapshot.Snapshot.{Snapshot}
use Rattle.jb_rules.specs.declared.row.Row.{Row}
use Rattle.jb_step.specs.Answers.{artifacts_of, tasks_left}
use Rattle.jb_step.specs.Statuses.{status_of}
use Rattle.jb_step.specs.preparing.Setup.{IsSetup, Setup, first_tasks, rows_now, unfinished}
use Rattle.jb_records.specs.Following.{EndsByRules, FollowRules, ranges_of}
use Rattle.jb_records.specs.FollowingLaws.{FailedRowsDont, FinishedRowsPass, RangesStay, RulesAreKept}
use Rattle.jb_records.specs.Function.{Function, IsSteady, all_results}
use Rattle.jb_records.specs.Intervals.{RunState, artifacts_in}
use Rattle.jb_records.specs.PartitionResults.{IsSoFar, PartitionResultsJoin, joined, newer_partition_results}
use Rattle.jb_records.specs.Skips.{AreCounted, SkipsAreCounted}
use Rattle.jb_records.specs.StepRuns.{IsStepRunOf}
use Rattle.jb_records.specs.Steps.{AreArtifacts, StepsKeepResults}
use Rattle.jb_records.specs.inside.InMemory.{HasEnded, IsAsPrepared}
use Rattle.jb_records.proofs.Begun.{artifacts-at-first}
use Rattle.jb_records.proofs.Following.{has-failed}
use Rattle.jb_records.proofs.Steps.{completed-whole}

-- ---- A RUN

module _ (s : Setup) (artifacts : List ArtifactsMeaning) (rounds : Option ℕ) (snapshot : Snapshot) (left : List (ℕ × ArtifactsMeaning)) (ran : IsStepRunOf s artifacts rounds snapshot left) where
  abbrev ends : List TaskState
  ends = tasks_left (first_tasks s artifacts) snapshot.rows.items left

  -- its rows are those of its tasks, and the artifacts that came back are theirs
  pub rows-ran : snapshot.rows.items ≡ rows_now s.rows ends
  rows-ran = ran.run.rows ∙ ap (rows_now s.rows) (sym ran.run.tasks)

  pub came-back : left ≡ artifacts_of ends
  came-back = ran.run.came_back ∙ ap artifacts_of (sym ran.run.tasks)

  -- each partition keeps its range
  pub led-ranges : IsSetup s → RangesStay → ranges_of snapshot.rows.items ≡ ranges_of s.rows
  led-ranges is law = ap ranges_of rows-ran ∙ law s artifacts ends is ran.fit ran.ways

  module _ (is : IsSetup s) (f : Function) (records : List (List ℕ)) (partition_results : List (List (List ℕ))) (are : AreArtifacts f s.rules records partition_results (unfinished s.rows) artifacts) (so : IsSoFar f records s.rows partition_results) where
    -- the partitions are so far, if they were when it began
    pub led : StepsKeepResults → IsSoFar f records snapshot.rows.items (newer_partition_results left partition_results)
    led kept =
        subst (λ (rows : List Row). IsSoFar f records rows (newer_partition_results left partition_results)) (sym rows-ran)
        (subst (λ (ls : List (ℕ × ArtifactsMeaning)). IsSoFar f records (rows_now s.rows ends) (newer_partition_results ls partition_results)) (sym came-back)
        (kept f records partition_results s artifacts ends is ran.fit are ran.ways so))

    -- the rows count their skips
    pub led-counted : SkipsAreCounted → AreCounted f records s.rows → AreCounted f records snapshot.rows.items
    led-counted law counted = subst (AreCounted f records) (sym rows-ran) (law f records partition_results s artifacts ends is ran.fit are ran.ways so counted)

    -- and follow the rules
    pub led-following : RulesAreKept → IsSteady f → FollowRules f s.rules records s.rows → FollowRules f s.rules records snapshot.rows.items
    led-following law steady follow = subst (FollowRules f s.rules records) (sym rows-ran) (law f records partition_results s artifacts ends steady is ran.fit are ran.ways so follow)

-- the same run, of the same artifacts
pub ran-same : (s : Setup) (artifacts same : List ArtifactsMeaning) (rounds : Option ℕ) (snapshot : Snapshot) (left : List (ℕ × ArtifactsMeaning)) → artifacts ≡ same → IsStepRunOf s artifacts rounds snapshot left → IsStepRunOf s same rounds snapshot left
ran-same s artifacts same rounds snapshot left is ran = subst (λ (ws : List ArtifactsMeaning). IsStepRunOf s ws rounds snapshot left) is ran

-- ---- A RUN OF ONE INTERVAL

-- it is as it was prepared, whatever its function is named by
pub kept-same : (f g : Function) (records : List (List ℕ)) (id : List ℕ) (setup : Setup) (partition_results : List (List (List ℕ))) (s : RunState) → f ≡ g → IsAsPrepared f records id setup partition_results s → IsAsPrepared g records id setup partition_results s
kept-same f g records id setup partition_results s same kept = subst (λ (x : Function). IsAsPrepared x records id setup partition_results s) same kept

pub ended-so : (f : Function) (records : List (List ℕ)) (id : List ℕ) (rounds : Option ℕ) (setup : Setup) (partition_results : List (List (List ℕ))) (s : RunState) (held : List (List (List ℕ))) (now : Status) (snapshot : Snapshot)
    → (left : List (ℕ × ArtifactsMeaning)) (results : List (List (List ℕ))) → IsAsPrepared f records id setup partition_results s → held ≡ partition_results → IsStepRunOf s.setup (artifacts_in s.artifacts) rounds snapshot left
    → now ≡ status_of snapshot.rows.items false → results ≡ newer_partition_results left held → HasEnded f records rounds setup partition_results now snapshot results
ended-so f records id rounds setup partition_results s held now snapshot left results kept own ran stands are = record {
  run = record {
    artifacts = artifacts_in s.artifacts;
    first = kept.artifacts;
    left = left;
    run = subst (λ (x : Setup). IsStepRunOf x (artifacts_in s.artifacts) rounds snapshot left) kept.setup_is ran;
    results_are = are ∙ ap (newer_partition_results left) own;
  };
  status_is = stands;
}

module _ (f : Function) (records : List (List ℕ)) (rounds : Option ℕ) (s : Setup) (partition_results : List (List (List ℕ))) (now : Status) (snapshot : Snapshot) (results : List (List (List ℕ)))
    (ended : HasEnded f records rounds s partition_results now snapshot results) where
  pub ends-ranges : RangesStay → IsSetup s → ranges_of snapshot.rows.items ≡ ranges_of s.rows
  ends-ranges law is = led-ranges s ended.run.artifacts rounds snapshot ended.run.left ended.run.run is law

  module _ (is : IsSetup s) (so : IsSoFar f records s.rows partition_results) where
    first : AreArtifacts f s.rules records partition_results (unfinished s.rows) ended.run.artifacts
    first = artifacts-at-first f s.rules records partition_results (unfinished s.rows) ended.run.artifacts ended.run.first

    pub ends-so-far : StepsKeepResults → IsSoFar f records snapshot.rows.items results
    ends-so-far kept = subst (IsSoFar f records snapshot.rows.items) (sym ended.run.results_are) (led s ended.run.artifacts rounds snapshot ended.run.left ended.run.run is f records partition_results first so kept)

    pub ends-whole : StepsKeepResults → PartitionResultsJoin → now ≡ Completed → joined results ≡ all_results f records
    ends-whole kept join completed = join f records snapshot.rows.items results (ends-so-far kept) (completed-whole snapshot.rows.items false (sym ended.status_is ∙ completed))

    pub ends-counted : SkipsAreCounted → AreCounted f records s.rows → AreCounted f records snapshot.rows.items
    ends-counted = led-counted s ended.run.artifacts rounds snapshot ended.run.left ended.run.run is f records partition_results first so

    pub ends-by : StepsKeepResults → RulesAreKept → FinishedRowsPass → FailedRowsDont → IsSteady f → FollowRules f s.rules records s.rows → EndsByRules f s.rules records snapshot.rows.items now
    ends-by kept law finished failed steady follow =
        let rows = snapshot.rows.items in
        let follows = led-following s ended.run.artifacts rounds snapshot ended.run.left ended.run.run is f records partition_results first so law steady follow in record {
          follows = follows;
          completed = λ e. finished f s.rules records rows results (ends-so-far kept) follows (completed-whole rows false (sym ended.status_is ∙ e));
          failed = λ e. failed f s.rules records rows follows (has-failed rows (sym ended.status_is ∙ e));
        }
