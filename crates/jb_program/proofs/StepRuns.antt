-- A step's report tells of a run of the step.
use Rattle.std.proofs.Common.{◌≡◌, ℕ, suc, ◌+◌, ◌≤◌, ◌⊎◌, inl, inr, Bool, true, List, [], ◌∷◌, ◌++◌, length, map, Option, Result, Ok, Err, false, refl, ap, sym, ◌∙◌, subst, arith}
use Rattle.std.specs.Prelude.{All, IfErr, IfSome, IsErrAnd}
use Rattle.std.specs.List.{enumerate_from}
use Rattle.jb_base.specs.Limits.{max_partitions}
use Rattle.jb_job.specs.Records.{StepRecord}
use Rattle.jb_plan.specs.Plans.{IsRunnable, IsWithin}
use Rattle.jb_rules.specs.Rows.{range_of}
use Rattle.jb_rules.specs.declared.row.Row.{Row}
use Rattle.jb_artifacts.specs.Meaning.{ArtifactsMeaning}
use Rattle.jb_chunk.specs.TaskState.{TaskState}
use Rattle.jb_collect.specs.declared.calls.AnalyzerCall.{AnalyzerCall}
use Rattle.jb_collect.specs.declared.calls.ReducerCall.{ReducerCall}
use Rattle.jb_collect.specs.declared.calls.Status.{Status}
use Rattle.jb_collect.specs.ReducerCalls.{calls_after, calls_before}
use Rattle.jb_collect.specs.AnsweredCalls.{calls_of, well}
use Rattle.jb_repo.specs.declared.snapshot.Snapshot.{Snapshot}
use Rattle.jb_saved.specs.SavedRows.{SavedRows}
use Rattle.jb_cert.specs.declared.notes.PlanNote.{PlanNote}
use Rattle.jb_step.specs.Answers.{AreLeftOnTheWay, IsRunOfStep, tasks_left}
use Rattle.jb_step.specs.Headline.{Headline}
use Rattle.jb_step.specs.preparing.Prepare.{DoFit}
use Rattle.jb_step.specs.preparing.Setup.{IsSetup, Setup, overrides, first_tasks, gone_on, row_now, rows_now, saved_faults}
use Rattle.jb_step.specs.Statuses.{status_of}
use Rattle.jb_documents.specs.declared.restart.resume.Resume.{Resume}
use Rattle.jb_documents.specs.declared.run.step_data.StepData.{StepData}
use Rattle.jb_program.specs.declared.run.settings.StepSettings.{StepSettings}
use Rattle.jb_program.specs.declared.streams.error.ProgramError.{ProgramError}
use Rattle.jb_program.specs.declared.streams.error.ProgramError.TheVariants as failure
use Rattle.jb_program.specs.inside.LowerLaws.{LowerCrateLaws}
use Rattle.jb_program.specs.JobRun.{IsStepRefused, IsStepReport, kept_of, plan_for, plan_of_step, settings_of, setup_of, opening_artifacts_of}
use Rattle.jb_program.specs.Refusals.{Explains, RunningRounds}
use Rattle.jb_program.specs.StepRun.{AreHeld, IsNotBegun, gone_on_from, outputs_of, partitions_left, rows_saved, setup_with, all_opening_artifacts}
use Rattle.jb_program.proofs.Callbacks.{well-calls}
use Rattle.jb_program.proofs.Opening.{AreOpening, IsPreparedWith, opening, within-rows}
use Rattle.jb_program.proofs.PartitionRuns.{AreKept, partition-runs}
use Rattle.jb_program.proofs.Rounds.{run_with}
use Rattle.jb_program.proofs.Unfinished.{artifacts-fit}

-- ---- what a step begins with

-- the rows that are kept are those of what is kept
kept-rows : (replace : Bool) (resume : Option Resume) → gone_on replace (rows_saved resume) ≡ rows_saved (gone_on_from replace resume)
kept-rows true resume = refl
kept-rows false resume = refl

pub prepared-with : (step : StepRecord) (count : ℕ) (resume : Option Resume) (saved : Option SavedRows) (prepared : Setup) → saved ≡ rows_saved resume → IsRunnable count (plan_for step.spec count)
    → saved_faults step count step.spec.replace saved ≡ [] → prepared ≡ setup_with step (plan_for step.spec count) (gone_on step.spec.replace saved) → IsSetup prepared → IfSome resume AreHeld → IsPreparedWith step count (plan_for step.spec count) resume prepared
prepared-with step count resume saved prepared same runnable accepted is setup held = record {
  runnable = runnable;
  accepted = sym (ap (saved_faults step count step.spec.replace) same) ∙ accepted;
  is = is ∙ ap (setup_with step (plan_for step.spec count)) (ap (gone_on step.spec.replace) same ∙ kept-rows step.spec.replace resume);
  setup = setup;
  held = held;
}

-- this is what the step was prepared with, and these are its records and what its writers held
pub record AreGiven (step : StepRecord) (resume : Option Resume) (count : ℕ) (prepared : Setup) (records : List (List ℕ)) (outputs : List (List (List ℕ))) : Type 0 where
  pub counted : count ≡ length records
  pub prepares : IsPreparedWith step count (plan_for step.spec count) resume prepared
  pub outputs_are : outputs ≡ outputs_of (kept_of step resume)

opens : (step : StepRecord) (resume : Option Resume) (count : ℕ) (prepared : Setup) (records : List (List ℕ)) (outputs : List (List (List ℕ))) → AreGiven step resume count prepared records outputs
    → AreOpening (length records) outputs 0 prepared.rows
opens step resume count prepared records outputs given =
    subst (λ n. AreOpening n outputs 0 prepared.rows) given.counted
    (subst (λ (os : List (List (List ℕ))). AreOpening count os 0 prepared.rows) (sym given.outputs_are) (opening step count (plan_for step.spec count) resume prepared given.prepares))

-- the records of the prepared rows are there
pub within-prepared : (step : StepRecord) (resume : Option Resume) (count : ℕ) (prepared : Setup) (records : List (List ℕ)) (outputs : List (List (List ℕ))) → AreGiven step resume count prepared records outputs
    → All (IsWithin (length records)) (map range_of prepared.rows)
within-prepared step resume count prepared records outputs given = within-rows (length records) outputs 0 prepared.rows (opens step resume count prepared records outputs given)

-- the artifacts serve the rows
pub artifacts-serve : (step : StepRecord) (resume : Option Resume) (count : ℕ) (prepared : Setup) (records : List (List ℕ)) (outputs : List (List (List ℕ))) (settings : StepSettings) (artifacts : List ArtifactsMeaning)
    → AreGiven step resume count prepared records outputs → artifacts ≡ all_opening_artifacts settings records outputs prepared.rows → DoFit prepared artifacts
artifacts-serve step resume count prepared records outputs settings artifacts given are =
    subst (λ ws. DoFit prepared ws) (sym are) (artifacts-fit settings records outputs 0 prepared.rows (opens step resume count prepared records outputs given))

-- ---- its rows

long-from : (table : List TaskState) (k : ℕ) (rows : List Row) → length (map (λ (n : ℕ × Row). row_now table n.0 n.1) (enumerate_from k rows)) ≡ length rows
long-from table k [] = refl
long-from table k (row ∷ rows) = ap suc (long-from table (k + 1) rows)

-- there are as many as there were
pub few-rows : (prepared : Setup) (table : List TaskState) (rows : List Row) → IsSetup prepared → rows ≡ rows_now prepared.rows table → length rows ≤ max_partitions
few-rows prepared table rows setup are =
    let one = ap length are in
    let two = long-from table 0 prepared.rows in
    let few = setup.openable.few_rows in
    omega (arith, one, two, few)

-- ---- its report

-- the report that is written has the partitions, plans, calls and status of a run
pub step-run : LowerCrateLaws → (step : StepRecord) (supply : StepData) (round_limit : Option ℕ) (resume : Option Resume) (count : ℕ) (prepared : Setup) (records : List (List ℕ)) (outputs : List (List (List ℕ))) (settings : StepSettings)
    (artifacts : List ArtifactsMeaning) (snapshot : Snapshot) (left : List (ℕ × ArtifactsMeaning)) (id : List ℕ) (status : Status) (plans : List PlanNote) (heard silent listened : List AnalyzerCall) (reducer begun recorded : List ReducerCall)
    → AreGiven step resume count prepared records outputs → records ≡ supply.records → settings ≡ settings_of step supply → AreKept settings → artifacts ≡ all_opening_artifacts settings records outputs prepared.rows
    → silent ≡ [] → IsRunOfStep (run_with prepared artifacts round_limit (map well silent) (map well listened) plans snapshot left)
    → Headline (run_with prepared artifacts round_limit (map well silent) (map well listened) plans snapshot left) → AreLeftOnTheWay (first_tasks prepared artifacts) snapshot.rows.items left
    → status ≡ status_of snapshot.rows.items false → begun ≡ calls_before (overrides step.spec.replace (rows_saved resume)) → recorded ≡ begun ++ calls_after (status_of snapshot.rows.items false) false
    → id ≡ step.id → heard ≡ calls_of (map well listened) → reducer ≡ calls_of (map well recorded)
    → IsStepReport step supply round_limit resume (record { id = id; status = status; partitions = partitions_left outputs snapshot.rows.items left; heard = heard; plans = plans; reducer = reducer })
step-run below step supply round_limit resume count prepared records outputs settings artifacts snapshot left id status plans heard silent listened reducer begun recorded given records-are settings-are kept are quiet run headline way stands begins calls id-is heard-is reducer-is =
    let s = setup_of step supply resume in
    let theirs = outputs_of (kept_of step resume) in
    let all : count ≡ length supply.records = given.counted ∙ ap length records-are in
    let prepares : IsPreparedWith step (length supply.records) (plan_of_step step supply) resume prepared = subst (λ n. IsPreparedWith step n (plan_for step.spec n) resume prepared) all given.prepares in
    let setup : prepared ≡ s = prepares.is in
    let artifacts-are : artifacts ≡ opening_artifacts_of step supply resume = are ∙ (λ i. all_opening_artifacts (settings-are i) (records-are i) (given.outputs_are i) (setup i).rows) in
    let on : AreLeftOnTheWay (first_tasks s (opening_artifacts_of step supply resume)) snapshot.rows.items left =
    subst (λ (ts : List TaskState). AreLeftOnTheWay ts snapshot.rows.items left) (λ i. first_tasks (setup i) (artifacts-are i)) way in
    let keeps : AreKept (settings_of step supply) = subst (λ (t : StepSettings). AreKept t) settings-are kept in
    let stand : AreOpening (length supply.records) theirs 0 s.rows = subst (λ (t : Setup). AreOpening (length supply.records) theirs 0 t.rows) setup (opening step (length supply.records) (plan_of_step step supply) resume prepared prepares) in
    let heard-all : heard ≡ listened = heard-is ∙ well-calls listened in
    let same-run : run_with prepared artifacts round_limit (map well silent) (map well listened) plans snapshot left ≡ run_with s (opening_artifacts_of step supply resume) round_limit [] (map well heard) plans snapshot left =
    λ i. run_with (setup i) (artifacts-are i) round_limit (map well (quiet i)) (map well (sym heard-all i)) plans snapshot left in
    let led : Headline (run_with s (opening_artifacts_of step supply resume) round_limit [] (map well heard) plans snapshot left) = subst Headline same-run headline in
    let whole : partitions_left theirs snapshot.rows.items left ≡ partitions_left outputs snapshot.rows.items left = ap (λ (os : List (List (List ℕ))). partitions_left os snapshot.rows.items left) (sym given.outputs_are) in
    record {
      runnable = prepares.runnable;
      accepted = prepares.accepted;
      id = id-is;
      partitions = rw (← whole) (partition-runs below step supply theirs s snapshot.rows.items left (tasks_left (first_tasks s (opening_artifacts_of step supply resume)) snapshot.rows.items left) keeps stand on led.rows led.came_back);
      reported = record {
        snapshot = snapshot;
        left = left;
        run = subst IsRunOfStep same-run run;
        headline = led;
        partitions = sym whole;
        status = stands;
        reducer =
            reducer-is ∙ well-calls recorded ∙ calls ∙ ap (λ cs. cs ++ calls_after (status_of snapshot.rows.items false) false) begins;
      };
    }

-- ---- why there is none

-- an error that is handed on as it is
pub handed-on : (r : Result Status ProgramError) (e : ProgramError) (P : ProgramError → Type 0) → IsErrAnd r (λ one. one ≡ e) → P e → IfErr r P
handed-on (Ok status) e P is holds = tt
handed-on (Err one) e P is holds = subst P (sym is) holds

pub refused : (step : StepRecord) (supply : StepData) (resume : Option Resume) (saved : Option SavedRows) (count : ℕ) (e : ProgramError) → count ≡ length supply.records → saved ≡ rows_saved resume
    → (e ≡ failure.Memory) ⊎ IsNotBegun step count (plan_for step.spec count) saved e → Explains RunningRounds e ⊎ IsStepRefused step supply resume e
refused step supply resume saved count e counted same (inl memory) = inl (subst (Explains RunningRounds) (sym memory) tt)
refused step supply resume saved count e counted same (inr first) =
    inr (subst (λ n. IsNotBegun step n (plan_for step.spec n) (rows_saved resume) e) counted (subst (λ (rows : Option SavedRows). IsNotBegun step count (plan_for step.spec count) rows e) same first))
