-- What is read of a document of `restart` keeps its ranges.
use Rattle.std.proofs.Common.{◌≡◌, ℕ, Bool, true, false, List, length, map, Result, Ok, Err, IfOk, All, refl, sym, ap, subst, ◌∙◌, arith}
use Rattle.std.specs.Prelude.{◌==◌, bytes_eq, Contains, if◌then◌else◌}
use Rattle.std.specs.Bool.{Decides}
use Rattle.std.specs.List.{list_all, list_any, zip}
use Rattle.std.proofs.lemmas.Bool.{eqb-true, le-leb, leb-true}
use Rattle.std.proofs.lemmas.Bool.Decides.{Decides-by_and}
use Rattle.std.proofs.lemmas.List.{get_or-map, length-map}
use Rattle.std.proofs.lemmas.List.Folds.{Any-from_list_any}
use Rattle.std.proofs.lemmas.Slice.Eq.{bytes_eq-Decides}
use Rattle.serde_json.specs.Data.{Data}
use Rattle.jb_base.proofs.Causes.{followed, next}
use Rattle.jb_job.specs.declared.field.Field.{Field}
use Rattle.jb_job.specs.declared.field.Field.TheVariants as field
use Rattle.jb_job.specs.JobRanges.{IsJob}
use Rattle.jb_job.specs.JobRecord.{job_at}
use Rattle.jb_job.specs.Laws.{JobsKeepRanges}
use Rattle.jb_job.specs.Reading.{Read, object_at, required}
use Rattle.jb_job.specs.Records.{StepRecord}
use Rattle.jb_job.proofs.FieldRanges.{if-so, if-read, required-has}
use Rattle.jb_job.proofs.Kept.{id_of}
use Rattle.jb_rules.specs.declared.row.Row.{Row}
use Rattle.jb_saved.specs.declared.place.SavedPlace.TheVariants.{Step}
use Rattle.jb_saved.specs.Reading.{saved_at}
use Rattle.jb_saved.specs.SavedRows.{SavedRows}
use Rattle.jb_documents.specs.declared.restart.document.RestartDocument.{RestartDocument}
use Rattle.jb_documents.specs.DocumentRanges.{IsStepData, HoldsResults, IsLeft, IsRestartDocument}
use Rattle.jb_documents.specs.RestartDocument.{Refusal, fields, saves, named_in, resume_at, restart_at}
use Rattle.jb_documents.specs.ResumeFields.{WrittenTexts, holds, held_outputs_at, outputs_at}
use Rattle.jb_documents.specs.RunDocument.{data_list_at}
use Rattle.jb_documents.proofs.DocumentRanges.{list-read}

of-fields : {A : Type 0} (P : A → Type 0) (r : Read A) → IfOk r P → IfOk (fields r) P
of-fields P (Ok x) known = known
of-fields P (Err fault) known = tt

-- ---- what the run before left

pub hold-decides : (pairs : List (WrittenTexts × Row)) → Decides (list_all holds pairs) (All HoldsResults pairs)
hold-decides pairs = Decides-by_and holds HoldsResults (list_all holds) (λ pair. (leb-true pair.1.written (length pair.0), le-leb pair.1.written (length pair.0))) refl (λ pair more. refl) pairs

held-read : (f : Field) (outputs : List WrittenTexts) (rows : List Row) → IfOk (held_outputs_at f outputs rows) (λ held. (length held ≡ length rows) × All HoldsResults (zip held rows))
unfolding held_outputs_at
held-read f outputs rows =
    if-so _ (length outputs == length rows) _ _ (λ many. if-so (λ held. (length held ≡ length rows) × All HoldsResults (zip held rows)) (list_all holds (zip outputs rows)) _ (Ok outputs) (λ all. (eqb-true (length outputs) (length rows) many, (hold-decides (zip outputs rows)).0 all)))

found-id : (steps : List StepRecord) (id : List ℕ) → list_any (λ (step : StepRecord). bytes_eq step.id id) steps ≡ true → Contains (map (λ step. step.id) steps) id
found-id steps id found =
    let one = Any-from_list_any (λ (step : StepRecord). bytes_eq step.id id) steps found in
    let same : one.1.id ≡ id = (bytes_eq-Decides one.1.id id).0 one.4 in
    (one.0, omega (arith, one.2, length-map steps id_of), get_or-map id_of steps one.0 one.1 id one.2 ∙ ap id_of one.3 ∙ same)

named-by : (steps : List StepRecord) (s : SavedRows) (known : Bool) → list_any (λ (step : StepRecord). bytes_eq step.id s.step) steps ≡ known → IfOk (saves (if known then Ok s else Err Step)) (λ named. (named ≡ s) × Contains (map (λ step. step.id) steps) s.step)
named-by steps s true is = (refl, found-id steps s.step is)
named-by steps s false is = tt

left-of : (steps : List StepRecord) (held : List WrittenTexts) (saved named : SavedRows) → (length held ≡ length saved.rows) × All HoldsResults (zip held saved.rows) → (named ≡ saved) × Contains (map (λ step. step.id) steps) saved.step → IsLeft steps (record { outputs = held; saved = named })
left-of steps held saved named are is = subst (λ (s : SavedRows). IsLeft steps (record { outputs = held; saved = s })) (sym is.0) (record { one_each = are.0; held = are.1; named = is.1 })

resume-read : (steps : List StepRecord) (f : Field) (d : Data) → IfOk (resume_at steps f d) (IsLeft steps)
unfolding resume_at
resume-read steps f d =
    next _ (fields (object_at f _ d)) _ (λ resume.
    next _ (fields (required outputs_at field.Outputs resume)) _ (λ outputs.
    next _ (fields (required (λ _ tree. Ok tree) field.Saved resume)) _ (λ tree.
    next _ (saves (saved_at tree)) _ (λ saved.
    followed _ _ (fields (held_outputs_at field.Outputs outputs saved.rows)) _ (of-fields (λ held. (length held ≡ length saved.rows) × All HoldsResults (zip held saved.rows)) (held_outputs_at field.Outputs outputs saved.rows) (held-read field.Outputs outputs saved.rows)) (λ held are.
    followed _ _ (saves (named_in steps saved)) _ (named-by steps saved (list_any (λ (step : StepRecord). bytes_eq step.id saved.step) steps) refl) (λ named is.
    left-of steps held saved named are is))))))

-- ---- the document

restart-read : JobsKeepRanges → (d : Data) → IfOk (restart_at d) IsRestartDocument
unfolding restart_at
restart-read law d =
    next _ (fields (object_at field.Unknown _ d)) _ (λ document.
    followed _ _ (fields (required (λ _. job_at) field.Job document)) _ (of-fields IsJob (required (λ _. job_at) field.Job document) (required-has IsJob (λ _. job_at) field.Job document (λ g. if-read IsJob (job_at g) (law g)))) (λ job kept.
    followed _ _ (fields (required (data_list_at job) field.Data document)) _ (of-fields (λ steps. (length steps ≡ length job.steps) × All (IsStepData job.classes) steps) (required (data_list_at job) field.Data document) (required-has (λ steps. (length steps ≡ length job.steps) × All (IsStepData job.classes) steps) (data_list_at job) field.Data document (list-read job kept field.Data))) (λ steps are.
    next _ (fields (required (λ _ tree. Ok tree) field.Resume document)) _ (λ tree.
    followed (IsLeft job.steps) _ (resume_at job.steps field.Resume tree) _ (resume-read job.steps field.Resume tree) (λ resume is.
    record { run = record { job = kept; one_each = are.0; each = are.1 }; resume = is })))))

pub restarts-keep : JobsKeepRanges → (d : Data) (document : RestartDocument) → restart_at d ≡ Ok document → IsRestartDocument document
restarts-keep law d document is = subst (λ (read : Result RestartDocument Refusal). IfOk read IsRestartDocument) is (restart-read law d)
