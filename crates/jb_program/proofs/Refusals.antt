-- A refused document or plan is a failure of its kind.
use Rattle.std.proofs.Common.{◌≡◌, ◌≢◌, ◌⊎◌, ℕ, List, [], ◌∷◌, drop, Option, Some, None, IfSome, Result, Ok, Err, IfErr, IsErrAnd, inl, inr, refl, subst, sym, arith}
use Rattle.std.specs.List.{zip}
use Rattle.jb_job.specs.declared.error.JobError.{JobError}
use Rattle.jb_job.specs.declared.error.JobError.TheVariants as fault
use Rattle.jb_plan.specs.declared.fault.PlanError.{PlanError}
use Rattle.jb_program.specs.declared.streams.error.ProgramError.{ProgramError}
use Rattle.jb_program.specs.declared.streams.error.ProgramError.TheVariants as failure
use Rattle.jb_program.specs.declared.words.request.Word.TheVariants as word
use Rattle.jb_program.specs.Statuses.{failure_of, failure_code, restart_failure}
use Rattle.jb_program.specs.Refusals.{Answering, Explains, RunningJob, RunningRounds}
use Rattle.jb_program.specs.JobRun.{IsRefusedAtStep, IsRestartRefused, IsStepRefused, done_before}
use Rattle.jb_job.specs.Records.{StepRecord}
use Rattle.jb_documents.specs.declared.run.document.Document.{Document}
use Rattle.jb_documents.specs.declared.run.step_data.StepData.{StepData}
use Rattle.jb_documents.specs.declared.restart.document.RestartDocument.{RestartDocument}
use Rattle.jb_documents.specs.declared.restart.fault.RestartFault.{RestartFault}
use Rattle.jb_documents.specs.declared.restart.resume.Resume.{Resume}
use Rattle.jb_documents.specs.RunDocument.{IsDocument, IsRefusedDocument}
use Rattle.jb_documents.specs.PlanDocument.{IsRefusedLoad}
use Rattle.jb_documents.specs.CheckDocument.{IsRefusedClaim}
use Rattle.jb_documents.specs.RestartDocument.{IsRestartText, IsRefusedRestart}
use Rattle.jb_documents.specs.declared.restart.fault.RestartFault.TheVariants as restart_fault
use Rattle.jb_saved.specs.declared.place.SavedPlace.{SavedPlace}
use Rattle.jb_program.specs.RunWord.{IsRefusedPlan}
use Rattle.jb_program.specs.RestartWord.{IsRefusedRestartStep, IsRefusedSaved}
use Rattle.jb_program.specs.Answer.{IsRefusedBy}
use Rattle.jb_program.proofs.Known.{some-along}
use Rattle.jb_program.proofs.Steps.{never-saved}
use Rattle.jb_program.proofs.Failed.{as_run_failure}

pub failure-of_fault : (f : JobError) → Explains Answering (failure_of f)
failure-of_fault fault.NotJson = tt
failure-of_fault (fault.WrongShape f) = tt
failure-of_fault (fault.OutOfRange f) = tt
failure-of_fault (fault.TooMany f) = tt
failure-of_fault fault.UnknownClass = tt
failure-of_fault fault.Memory = tt

pub ruleset refusals = (failure-of_fault, failure-of_fault)

-- ---- why a job has no report

-- an error that is handed on as it is
pub handed-on : (r : Result ℕ ProgramError) (e : ProgramError) (P : ProgramError → Type 0) → IsErrAnd r (λ one. one ≡ e) → P e → IfErr r P
handed-on (Ok status) e P is holds = tt
handed-on (Err one) e P is holds = subst P (sym is) holds

-- a step is refused for its plan or for saved rows
abbrev IsRefusal : ProgramError → Type 0
IsRefusal (failure.Plan f) = Unit {0}
IsRefusal (failure.Saved place) = Unit {0}
IsRefusal _ = ⊥

not-begun : (step : StepRecord) (supply : StepData) (resume : Option Resume) (e : ProgramError) → IsStepRefused step supply resume e → IsRefusal e
not-begun step supply resume (failure.Plan f) refused = tt
not-begun step supply resume (failure.Saved place) refused = tt
not-begun step supply resume (failure.Document f) refused = refused
not-begun step supply resume failure.Memory refused = refused
not-begun step supply resume failure.Stream refused = refused
not-begun step supply resume failure.Workers refused = refused
not-begun step supply resume (failure.Repository p) refused = refused
not-begun step supply resume (failure.Usage f) refused = refused

at-step : (steps : List (StepRecord × StepData)) (round_limit : Option ℕ) (resume : Option Resume) (e : ProgramError) → IsRefusedAtStep steps round_limit resume e → IsRefusal e
at-step [] round_limit resume e refused = absurd refused
at-step ((step, supply) ∷ steps) round_limit resume e (inl refused) = not-begun step supply resume e refused
at-step ((step, supply) ∷ steps) round_limit resume e (inr later) = at-step steps round_limit None e later.3

-- what broke a run off, or why a step is refused, is a failure of `run`
fails-for : (R : ProgramError → Type 0) → ((e : ProgramError) → R e → IsRefusal e) → (e : ProgramError) → Explains RunningRounds e ⊎ R e → Explains RunningJob e
fails-for R refusal (failure.Plan f) why = tt
fails-for R refusal (failure.Saved place) why = tt
fails-for R refusal (failure.Document f) (inl broken) = absurd broken
fails-for R refusal (failure.Document f) (inr refused) = absurd (refusal (failure.Document f) refused)
fails-for R refusal failure.Memory why = tt
fails-for R refusal failure.Stream why = tt
fails-for R refusal failure.Workers why = tt
fails-for R refusal (failure.Repository p) why = tt
fails-for R refusal (failure.Usage f) (inl broken) = absurd broken
fails-for R refusal (failure.Usage f) (inr refused) = absurd (refusal (failure.Usage f) refused)

-- it is no fault of the document
no-document : (R : ProgramError → Type 0) → ((e : ProgramError) → R e → IsRefusal e) → (e : ProgramError) → Explains RunningRounds e ⊎ R e → (f : JobError) → e ≡ failure.Document f → ⊥
no-document R refusal e (inl broken) f is = subst (Explains RunningRounds) is broken
no-document R refusal e (inr refused) f is = subst IsRefusal is (refusal e refused)

-- where nothing broke it off, a step is refused
refused-by : (R : ProgramError → Type 0) (e other : ProgramError) → (Explains RunningRounds other → ⊥) → Explains RunningRounds e ⊎ R e → e ≡ other → R other
refused-by R e other whole (inl broken) is = absurd (whole (subst (Explains RunningRounds) is broken))
refused-by R e other whole (inr refused) is = subst R is refused

-- what is said where a run gives no report, of the bytes that were read
pub record RunFails (round_limit : Option ℕ) (input : Option (List ℕ)) (e : ProgramError) : Type 0 where
  pub refused : (f : JobError) → e ≡ failure.Document f → IfSome input (IsRefusedDocument f)
  pub unplanned : (f : PlanError) → e ≡ failure.Plan f → IfSome input (IsRefusedPlan round_limit f)
  pub unsaved : (place : SavedPlace) → e ≢ failure.Saved place
  pub failures : Explains RunningJob e

pub run-fails : (round_limit : Option ℕ) (input : Option (List ℕ)) (items : List ℕ) (document : Document) (e : ProgramError) → IfSome input (λ bytes. items ≡ bytes) → IsDocument items document
    → Explains RunningRounds e ⊎ IsRefusedAtStep (zip document.job.steps document.step_data) round_limit None e → RunFails round_limit input e
run-fails round_limit input items document e are read why =
    let R : ProgramError → Type 0 = λ one. IsRefusedAtStep (zip document.job.steps document.step_data) round_limit None one in
    let refusal : (one : ProgramError) → R one → IsRefusal one = λ one. at-step (zip document.job.steps document.step_data) round_limit None one in
    record {
      refused = λ f is. absurd (no-document R refusal e why f is);
      unplanned = λ f is. some-along {P = λ bytes. items ≡ bytes} {Q = IsRefusedPlan round_limit f} input
          (λ bytes here. record { document = document; read = subst (λ bs. IsDocument bs document) here read; refused = refused-by R e (failure.Plan f) (λ broken. broken) why is }) are;
      unsaved = λ place is. never-saved (zip document.job.steps document.step_data) round_limit place (refused-by R e (failure.Saved place) (λ broken. broken) why is);
      failures = fails-for R refusal e why;
    }

-- the same of a restart
pub record RestartFails (round_limit : Option ℕ) (input : Option (List ℕ)) (e : ProgramError) : Type 0 where
  pub refused : (f : JobError) → e ≡ failure.Document f → IfSome input (IsRefusedRestart (restart_fault.Document f))
  pub unplanned : (f : PlanError) → e ≡ failure.Plan f → IfSome input (IsRefusedRestartStep round_limit (failure.Plan f))
  pub unsaved : (place : SavedPlace) → e ≡ failure.Saved place → IfSome input (IsRefusedSaved round_limit place)
  pub failures : Explains RunningJob e

pub restart-fails : (round_limit : Option ℕ) (input : Option (List ℕ)) (items : List ℕ) (document : RestartDocument) (e : ProgramError) → IfSome input (λ bytes. items ≡ bytes) → IsRestartText items document
    → Explains RunningRounds e ⊎ IsRestartRefused document round_limit e → RestartFails round_limit input e
restart-fails round_limit input items document e are read why =
    let R : ProgramError → Type 0 = λ one. IsRestartRefused document round_limit one in
    let refusal : (one : ProgramError) → R one → IsRefusal one = λ one. at-step (drop (done_before document) (zip document.job.steps document.step_data)) round_limit (Some document.resume) one in
    let reported : (one : ProgramError) → (Explains RunningRounds one → ⊥) → e ≡ one → (bytes : List ℕ) → items ≡ bytes → IsRefusedRestartStep round_limit one bytes =
    λ one whole is bytes here. record { document = document; read = subst (λ bs. IsRestartText bs document) here read; refused = refused-by R e one whole why is } in
    record {
      refused = λ f is. absurd (no-document R refusal e why f is);
      unplanned = λ f is. some-along {P = λ bytes. items ≡ bytes} {Q = IsRefusedRestartStep round_limit (failure.Plan f)} input (reported (failure.Plan f) (λ broken. broken) is) are;
      unsaved = λ place is. some-along {P = λ bytes. items ≡ bytes} {Q = IsRefusedSaved round_limit place} input (λ bytes here. inr (reported (failure.Saved place) (λ broken. broken) is bytes here)) are;
      failures = fails-for R refusal e why;
    }

-- a fault of a document is told as it is
same-fault : (f g : JobError) → failure_of f ≡ failure.Document g → f ≡ g
same-fault fault.NotJson g is = cc
same-fault (fault.WrongShape field) g is = cc
same-fault (fault.OutOfRange field) g is = cc
same-fault (fault.TooMany field) g is = cc
same-fault fault.UnknownClass g is = cc
same-fault fault.Memory g is = cc

no-plan : (f : JobError) (g : PlanError) → failure_of f ≡ failure.Plan g → ⊥
no-plan f g is = subst (Explains Answering) is (failure-of_fault f)

no-saved : (f : JobError) (place : SavedPlace) → failure_of f ≡ failure.Saved place → ⊥
no-saved f place is = subst (Explains Answering) is (failure-of_fault f)

-- a document of `restart` that isn't read
pub unread : (round_limit : Option ℕ) (input : Option (List ℕ)) (items : List ℕ) (f : RestartFault) → IfSome input (λ bytes. items ≡ bytes) → IsRefusedRestart f items → RestartFails round_limit input (restart_failure f)
unread round_limit input items (restart_fault.Document f) are refused = record {
  refused = λ g is. some-along {P = λ bytes. items ≡ bytes} {Q = IsRefusedRestart (restart_fault.Document g)} input
      (λ bytes here. subst (λ one. IsRefusedRestart (restart_fault.Document one) bytes) (same-fault f g is) (subst (IsRefusedRestart (restart_fault.Document f)) here refused)) are;
  unplanned = λ g is. absurd (no-plan f g is);
  unsaved = λ place is. absurd (no-saved f place is);
  failures = as_run_failure (failure_of f) (failure-of_fault f);
}
unread round_limit input items (restart_fault.Saved at) are refused = record {
  refused = λ g is. cc;
  unplanned = λ g is. cc;
  unsaved = λ place is.
      let same : at ≡ place = cc in
      some-along {P = λ bytes. items ≡ bytes} {Q = IsRefusedSaved round_limit place} input
      (λ bytes here. inl (subst (λ one. IsRefusedRestart (restart_fault.Saved one) bytes) same (subst (IsRefusedRestart (restart_fault.Saved at)) here refused))) are;
  failures = tt;
}

-- ---- what each word refuses

-- a fact beside what follows of bytes that are known
beside : {A : Type 0} (P : List ℕ → Type 0) (input : Option (List ℕ)) → A → IfSome input P → IfSome input (λ bytes. A × P bytes)
beside P (Some bytes) a p = (a, p)
beside P None a p = tt

-- by each word
pub refused_by_run : (round_limit : Option ℕ) (input : Option (List ℕ)) (e : ProgramError) → ((f : JobError) → e ≡ failure.Document f → IfSome input (IsRefusedDocument f))
    → ((f : PlanError) → e ≡ failure.Plan f → IfSome input (IsRefusedPlan round_limit f)) → ((place : SavedPlace) → e ≡ failure.Saved place → ⊥)
    → Explains RunningJob e → failure_code e ≡ 3 → IfSome input (IsRefusedBy word.Run round_limit e)
refused_by_run round_limit input (failure.Document f) document plan unsaved fails code = beside (IsRefusedDocument f) input fails (document f refl)
refused_by_run round_limit input (failure.Plan f) document plan unsaved fails code = plan f refl
refused_by_run round_limit input (failure.Saved place) document plan unsaved fails code = absurd (unsaved place refl)
refused_by_run round_limit input failure.Memory document plan unsaved fails code = absurd (omega (arith, code))
refused_by_run round_limit input failure.Stream document plan unsaved fails code = absurd (omega (arith, code))
refused_by_run round_limit input failure.Workers document plan unsaved fails code = absurd (omega (arith, code))
refused_by_run round_limit input (failure.Repository p) document plan unsaved fails code = absurd (omega (arith, code))
refused_by_run round_limit input (failure.Usage f) document plan unsaved fails code = absurd fails

pub refused_by_restart : (round_limit : Option ℕ) (input : Option (List ℕ)) (e : ProgramError)
    → ((f : JobError) → e ≡ failure.Document f → IfSome input (IsRefusedRestart (restart_fault.Document f)))
    → ((f : PlanError) → e ≡ failure.Plan f → IfSome input (IsRefusedRestartStep round_limit (failure.Plan f)))
    → ((place : SavedPlace) → e ≡ failure.Saved place → IfSome input (IsRefusedSaved round_limit place))
    → Explains RunningJob e → failure_code e ≡ 3 → IfSome input (IsRefusedBy word.Restart round_limit e)
refused_by_restart round_limit input (failure.Document f) document plan saved fails code = beside (IsRefusedRestart (restart_fault.Document f)) input fails (document f refl)
refused_by_restart round_limit input (failure.Plan f) document plan saved fails code = plan f refl
refused_by_restart round_limit input (failure.Saved place) document plan saved fails code = saved place refl
refused_by_restart round_limit input failure.Memory document plan saved fails code = absurd (omega (arith, code))
refused_by_restart round_limit input failure.Stream document plan saved fails code = absurd (omega (arith, code))
refused_by_restart round_limit input failure.Workers document plan saved fails code = absurd (omega (arith, code))
refused_by_restart round_limit input (failure.Repository p) document plan saved fails code = absurd (omega (arith, code))
refused_by_restart round_limit input (failure.Usage f) document plan saved fails code = absurd fails

pub refused_by_plan : (round_limit : Option ℕ) (input : Option (List ℕ)) (e : ProgramError) → ((f : JobError) → e ≡ failure.Document f → IfSome input (IsRefusedLoad f))
    → Explains Answering e → failure_code e ≡ 3 → IfSome input (IsRefusedBy word.Plan round_limit e)
refused_by_plan round_limit input (failure.Document f) document fails code = beside (IsRefusedLoad f) input fails (document f refl)
refused_by_plan round_limit input (failure.Plan f) document fails code = absurd fails
refused_by_plan round_limit input (failure.Saved place) document fails code = absurd fails
refused_by_plan round_limit input failure.Memory document fails code = absurd (omega (arith, code))
refused_by_plan round_limit input failure.Stream document fails code = absurd (omega (arith, code))
refused_by_plan round_limit input failure.Workers document fails code = absurd fails
refused_by_plan round_limit input (failure.Repository p) document fails code = absurd fails
refused_by_plan round_limit input (failure.Usage f) document fails code = absurd fails

pub refused_by_check : (round_limit : Option ℕ) (input : Option (List ℕ)) (e : ProgramError) → ((f : JobError) → e ≡ failure.Document f → IfSome input (IsRefusedClaim f))
    → Explains Answering e → failure_code e ≡ 3 → IfSome input (IsRefusedBy word.Check round_limit e)
refused_by_check round_limit input (failure.Document f) document fails code = beside (IsRefusedClaim f) input fails (document f refl)
refused_by_check round_limit input (failure.Plan f) document fails code = absurd fails
refused_by_check round_limit input (failure.Saved place) document fails code = absurd fails
refused_by_check round_limit input failure.Memory document fails code = absurd (omega (arith, code))
refused_by_check round_limit input failure.Stream document fails code = absurd (omega (arith, code))
refused_by_check round_limit input failure.Workers document fails code = absurd fails
refused_by_check round_limit input (failure.Repository p) document fails code = absurd fails
refused_by_check round_limit input (failure.Usage f) document fails code = absurd fails
