-- The outputs of a document of `restart` are its writers' own.
use Rattle.std.proofs.Common.{◌≡◌, ℕ, Bool, true, false, cond, length, List, [], ◌∷◌, Ok, Err, Result, refl, ap, subst}
use Rattle.std.specs.Prelude.{◌==◌, bytes_eq}
use Rattle.std.specs.List.{list_all, list_any, zip}
use Rattle.jb_job.specs.JobRecord.{job_at}
use Rattle.jb_job.specs.Reading.{Read, object_at, out_of_range, required, wrong_shape}
use Rattle.jb_job.specs.Records.{StepRecord}
use Rattle.jb_job.specs.declared.field.Field.TheVariants as field
use Rattle.jb_job.specs.declared.job.Job.{Job}
use Rattle.jb_rules.specs.declared.row.Row.{Row}
use Rattle.jb_saved.specs.declared.place.SavedPlace.TheVariants.{Step}
use Rattle.jb_saved.specs.Reading.{saved_at}
use Rattle.jb_saved.specs.SavedRows.{SavedRows}
use Rattle.jb_documents.specs.ResumeFields.{WrittenTexts, held_outputs_at, holds, outputs_at}
use Rattle.jb_documents.specs.RestartDocument.{IsRestartText, Refusal, ◌>>=◌, fields, named_in, restart_at, resume_at, saves}
use Rattle.jb_documents.specs.RunDocument.{data_list_at}
use Rattle.jb_documents.specs.declared.run.step_data.StepData.{StepData}
use Rattle.jb_documents.specs.declared.restart.document.RestartDocument.{RestartDocument}
use Rattle.jb_documents.specs.declared.restart.resume.Resume.{Resume}
use Rattle.jb_program.specs.StepRun.{AreHeld}

-- what a reading gave came from what the reading before it gave
before : {A B : Type 0} (first : Result A Refusal) (next : A → Result B Refusal) (y : B) → ◌≡◌ {A = Result B Refusal} (first >>= next) (Ok y) → (x : A) × ◌≡◌ {A = Result A Refusal} first (Ok x) × ◌≡◌ {A = Result B Refusal} (next x) (Ok y)
before (Ok x) next y is = (x, refl, is)
before (Err e) next y is = absurd (cc is)

-- what was given, or else this
given : {A : Type 0} → A → Result A Refusal → A
given other (Ok x) = x
given other (Err refusal) = other

same-given : {A : Type 0} (one other : A) → ◌≡◌ {A = Result A Refusal} (Ok one) (Ok other) → one ≡ other
unfolding given
same-given one other is = ap (given one) is

fields-gave : {A : Type 0} (reading : Read A) (x : A) → ◌≡◌ {A = Result A Refusal} (fields reading) (Ok x) → reading ≡ Ok x
fields-gave (Ok y) x is = ap (λ z. Ok z) (same-given y x is)
fields-gave (Err fault) x is = absurd (cc is)

named-same : (found : Bool) (s n : SavedRows) → ◌≡◌ {A = Result SavedRows Refusal} (saves (cond found (Ok s) (Err Step))) (Ok n) → s ≡ n
named-same true s n is = same-given s n is
named-same false s n is = absurd (cc is)

held-same : (long all : Bool) (outputs held : List WrittenTexts) → ◌≡◌ {A = Result (List WrittenTexts) Refusal} (fields (cond long (cond all (Ok outputs) (Err (out_of_range field.Outputs))) (Err (wrong_shape field.Outputs)))) (Ok held) → outputs ≡ held
held-same true true outputs held is = same-given outputs held is
held-same true false outputs held is = absurd (cc is)
held-same false all outputs held is = absurd (cc is)

same-held : (outputs held : List WrittenTexts) (rows : List Row) → ◌≡◌ {A = Result (List WrittenTexts) Refusal} (fields (held_outputs_at field.Outputs outputs rows)) (Ok held) → outputs ≡ held
unfolding held_outputs_at
same-held outputs held rows is = held-same (length outputs == length rows) (list_all holds (zip outputs rows)) outputs held is

-- what is read once the saved rows are: what they and the outputs say of each other, and their step's name
abbrev behind : List StepRecord → List WrittenTexts → SavedRows → Result Resume Refusal
behind steps outputs saved =
    fields (held_outputs_at field.Outputs outputs saved.rows) >>= (λ held. saves (named_in steps saved) >>= (λ named. Ok (record { outputs = held; saved = named })))

behind-held : (steps : List StepRecord) (outputs : List WrittenTexts) (saved : SavedRows) (resume : Resume) → ◌≡◌ {A = Result Resume Refusal} (behind steps outputs saved) (Ok resume) → AreHeld resume
behind-held steps outputs saved resume is =
    let held = before (fields (held_outputs_at field.Outputs outputs saved.rows)) (λ (os : List WrittenTexts). saves (named_in steps saved) >>= (λ (n : SavedRows). Ok (record { outputs = os; saved = n }))) resume is in
    let named = before (saves (named_in steps saved)) (λ (n : SavedRows). Ok (record { outputs = held.0; saved = n })) resume held.2 in
    let same : outputs ≡ held.0 = same-held outputs held.0 saved.rows held.1 in
    let rows : saved ≡ named.0 = named-same (list_any (λ (step : StepRecord). bytes_eq step.id saved.step) steps) saved named.0 named.1 in
    let whole : AreHeld (record { outputs = held.0; saved = named.0 }) =
    subst (λ (s : SavedRows). held_outputs_at field.Outputs held.0 s.rows ≡ Ok held.0) rows
    (subst (λ (os : List WrittenTexts). held_outputs_at field.Outputs os saved.rows ≡ Ok held.0) same (fields-gave (held_outputs_at field.Outputs outputs saved.rows) held.0 held.1)) in
    subst (λ (r : Resume). AreHeld r) (same-given (record { outputs = held.0; saved = named.0 }) resume named.2) whole

-- the same of all that is read of the run before, whatever the readings of its parts are
parts-held : {A D : Type 0} (steps : List StepRecord) (members : Result A Refusal) (outputs-in : A → Result (List WrittenTexts) Refusal) (tree-in : A → Result D Refusal) (saved-in : D → Result SavedRows Refusal) (resume : Resume)
    → ◌≡◌ {A = Result Resume Refusal} (members >>= (λ m. outputs-in m >>= (λ os. tree-in m >>= (λ d. saved-in d >>= behind steps os)))) (Ok resume) → AreHeld resume
parts-held steps members outputs-in tree-in saved-in resume is =
    let all = before members (λ m. outputs-in m >>= (λ os. tree-in m >>= (λ d. saved-in d >>= behind steps os))) resume is in
    let outputs = before (outputs-in all.0) (λ os. tree-in all.0 >>= (λ d. saved-in d >>= behind steps os)) resume all.2 in
    let tree = before (tree-in all.0) (λ d. saved-in d >>= behind steps outputs.0) resume outputs.2 in
    let saved = before (saved-in tree.0) (behind steps outputs.0) resume tree.2 in
    behind-held steps outputs.0 saved.0 resume saved.2

whole-held : (job : Job) (steps : List StepData) (resume : Resume) (document : RestartDocument) → ◌≡◌ {A = Result RestartDocument Refusal} (Ok (record { job = job; step_data = steps; resume = resume })) (Ok document)
    → AreHeld resume → AreHeld document.resume
whole-held job steps resume document is held = subst (λ (one : RestartDocument). AreHeld one.resume) (same-given (record { job = job; step_data = steps; resume = resume }) document is) held

-- and of the document that has it
document-held : {A D : Type 0} (members : Result A Refusal) (job-in : A → Result Job Refusal) (steps-in : Job → A → Result (List StepData) Refusal) (tree-in : A → Result D Refusal) (resume-in : List StepRecord → D → Result Resume Refusal)
    → ((steps : List StepRecord) (d : D) (resume : Resume) → ◌≡◌ {A = Result Resume Refusal} (resume-in steps d) (Ok resume) → AreHeld resume) → (document : RestartDocument)
    → ◌≡◌ {A = Result RestartDocument Refusal} (members >>= (λ m. job-in m >>= (λ job. steps-in job m >>= (λ steps. tree-in m >>= (λ d. resume-in job.steps d >>= (λ resume. Ok (record { job = job; step_data = steps; resume = resume }))))))) (Ok document)
    → AreHeld document.resume
document-held members job-in steps-in tree-in resume-in held document is =
    let all = before members (λ m. job-in m >>= (λ job. steps-in job m >>= (λ steps. tree-in m >>= (λ d. resume-in job.steps d >>= (λ resume. Ok (record { job = job; step_data = steps; resume = resume })))))) document is in
    let job = before (job-in all.0) (λ job. steps-in job all.0 >>= (λ steps. tree-in all.0 >>= (λ d. resume-in job.steps d >>= (λ resume. Ok (record { job = job; step_data = steps; resume = resume }))))) document all.2 in
    let steps = before (steps-in job.0 all.0) (λ steps. tree-in all.0 >>= (λ d. resume-in job.0.steps d >>= (λ resume. Ok (record { job = job.0; step_data = steps; resume = resume })))) document job.2 in
    let tree = before (tree-in all.0) (λ d. resume-in job.0.steps d >>= (λ resume. Ok (record { job = job.0; step_data = steps.0; resume = resume }))) document steps.2 in
    let resume = before (resume-in job.0.steps tree.0) (λ resume. Ok (record { job = job.0; step_data = steps.0; resume = resume })) document tree.2 in
    whole-held job.0 steps.0 resume.0 document resume.2 (held job.0.steps tree.0 resume.0 resume.1)

-- the writers of a document that was read hold what their rows committed
pub read-held : (bytes : List ℕ) (document : RestartDocument) → IsRestartText bytes document → AreHeld document.resume
unfolding restart_at resume_at
read-held bytes document read =
    document-held (fields (object_at field.Unknown (field.Job ∷ field.Data ∷ field.Resume ∷ []) read.tree)) (λ m. fields (required (λ f. job_at) field.Job m)) (λ job m. fields (required (data_list_at job) field.Data m))
    (λ m. fields (required (λ f d. Ok d) field.Resume m)) (λ steps d. resume_at steps field.Resume d)
    (λ steps d resume is. parts-held steps (fields (object_at field.Resume (field.Outputs ∷ field.Saved ∷ []) d)) (λ m. fields (required outputs_at field.Outputs m)) (λ m. fields (required (λ f d. Ok d) field.Saved m)) (λ d. saves (saved_at d)) resume is)
    document read.fields
