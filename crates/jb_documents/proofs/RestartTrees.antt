-- The tree of a document of `restart` is read as the document.
use Rattle.std.proofs.Common.{◌≡◌, ℕ, ◌<◌, true, List, [], ◌∷◌, length, get_or, map, Ok, All, refl, sym, ap, ◌∙◌, arith}
use Rattle.std.specs.Prelude.{bytes_eq, Contains}
use Rattle.std.specs.List.{list_any, zip}
use Rattle.std.proofs.lemmas.Bool.{eq-eqb}
use Rattle.std.proofs.lemmas.List.{get_or-map, length-map, map-id}
use Rattle.std.proofs.lemmas.List.Folds.{list_any_at}
use Rattle.std.proofs.lemmas.Slice.Eq.{bytes_eq-Decides}
use Rattle.serde_json.specs.Data.{string}
use Rattle.serde_json.specs.Find.{as_str}
use Rattle.jb_job.specs.declared.field.Field.{Field}
use Rattle.jb_job.specs.declared.field.Field.TheVariants as field
use Rattle.jb_job.specs.JobRecord.{job_at}
use Rattle.jb_job.specs.JobTree.{list_tree, job_tree}
use Rattle.jb_job.specs.Laws.{JobsHaveTrees}
use Rattle.jb_job.specs.Reading.{Read, shaped, object_at, required}
use Rattle.jb_job.specs.Records.{StepRecord}
use Rattle.jb_job.proofs.FieldTrees.{then-ok, required-back, each-back}
use Rattle.jb_job.proofs.Kept.{id_of}
use Rattle.jb_rules.specs.declared.row.Row.{Row}
use Rattle.jb_saved.specs.Laws.{TreeIsRead}
use Rattle.jb_saved.specs.Reading.{saved_at}
use Rattle.jb_saved.specs.SavedRows.{SavedRows, IsSaved}
use Rattle.jb_saved.specs.SavedTree.{saved_tree}
use Rattle.jb_documents.specs.declared.restart.document.RestartDocument.{RestartDocument}
use Rattle.jb_documents.specs.declared.restart.resume.Resume.{Resume}
use Rattle.jb_documents.specs.DocumentRanges.{HoldsResults, IsLeft, IsRestartDocument}
use Rattle.jb_documents.specs.DocumentTrees.{data_tree, texts_tree, resume_tree, restart_tree}
use Rattle.jb_documents.specs.RestartDocument.{fields, saves, named_in, resume_at, restart_at}
use Rattle.jb_documents.specs.ResumeFields.{WrittenTexts, held_outputs_at, texts_at, outputs_at}
use Rattle.jb_documents.specs.RunDocument.{data_list_at}
use Rattle.jb_documents.proofs.DocumentTrees.{list-back-data}
use Rattle.jb_documents.proofs.RestartRanges.{hold-decides}

field-ok : {A : Type 0} (r : Read A) (x : A) → r ≡ Ok x → fields r ≡ Ok x
field-ok r x is = ap fields is

-- ---- what the run before left

texts-back : (f : Field) (texts : WrittenTexts) → texts_at f (texts_tree texts) ≡ Ok texts
unfolding texts_at
texts-back f texts = each-back (λ _ text. shaped f (as_str text)) string (λ text. text) texts (λ done text rest is. refl) ∙ ap Ok (map-id texts)

outputs-back : (f : Field) (outputs : List WrittenTexts) → outputs_at f (list_tree (map texts_tree outputs)) ≡ Ok outputs
unfolding outputs_at
outputs-back f outputs = each-back (λ _. texts_at f) texts_tree (λ texts. texts) outputs (λ done texts rest is. texts-back f texts) ∙ ap Ok (map-id outputs)

held-back : (f : Field) (outputs : List WrittenTexts) (rows : List Row) → length outputs ≡ length rows → All HoldsResults (zip outputs rows) → held_outputs_at f outputs rows ≡ Ok outputs
unfolding held_outputs_at
held-back f outputs rows many held = rw (eq-eqb (length outputs) (length rows) many, (hold-decides (zip outputs rows)).1 held) refl

found-back : (steps : List StepRecord) (id : List ℕ) → Contains (map (λ step. step.id) steps) id → list_any (λ (step : StepRecord). bytes_eq step.id id) steps ≡ true
found-back [] id one = absurd (omega (arith, one.1))
found-back (s ∷ steps) id one =
    let k = one.0 in
    let below : k < length (s ∷ steps) = omega (arith, one.1, length-map (s ∷ steps) id_of) in
    let same : (get_or (s ∷ steps) k s).id ≡ id = sym (get_or-map id_of (s ∷ steps) k s id below) ∙ one.2 in
    list_any_at (λ (step : StepRecord). bytes_eq step.id id) (s ∷ steps) k s below ((bytes_eq-Decides (get_or (s ∷ steps) k s).id id).1 same)

named-back : (steps : List StepRecord) (s : SavedRows) → Contains (map (λ step. step.id) steps) s.step → saves (named_in steps s) ≡ Ok s
named-back steps s one = rw (found-back steps s.step one) refl

saved-back : TreeIsRead → (s : SavedRows) → IsSaved s → saves (saved_at (saved_tree s)) ≡ Ok s
saved-back law s kept = ap saves (law s kept)

resume-back : TreeIsRead → (steps : List StepRecord) (f : Field) (resume : Resume) → IsLeft steps resume → IsSaved resume.saved → resume_at steps f (resume_tree resume) ≡ Ok resume
unfolding resume_at object_at
resume-back law steps f resume kept sound =
    let d = resume_tree resume in
    let s = resume.saved in
    then-ok (fields (required outputs_at field.Outputs d)) resume.outputs _ resume (field-ok (required outputs_at field.Outputs d) resume.outputs (required-back outputs_at field.Outputs d (list_tree (map texts_tree resume.outputs)) resume.outputs refl (outputs-back field.Outputs resume.outputs)))
    (then-ok (fields (required (λ _ tree. Ok tree) field.Saved d)) (saved_tree s) _ resume (field-ok (required (λ _ tree. Ok tree) field.Saved d) (saved_tree s) (required-back (λ _ tree. Ok tree) field.Saved d (saved_tree s) (saved_tree s) refl refl))
    (then-ok (saves (saved_at (saved_tree s))) s _ resume (saved-back law s sound)
    (then-ok (fields (held_outputs_at field.Outputs resume.outputs s.rows)) resume.outputs _ resume (field-ok (held_outputs_at field.Outputs resume.outputs s.rows) resume.outputs (held-back field.Outputs resume.outputs s.rows kept.one_each kept.held))
    (then-ok (saves (named_in steps s)) s _ resume (named-back steps s kept.named)
    refl))))

-- ---- the document

pub restart-back : JobsHaveTrees → TreeIsRead → (document : RestartDocument) → IsRestartDocument document → IsSaved document.resume.saved → restart_at (restart_tree document) ≡ Ok document
unfolding restart_at object_at
restart-back jobs saved document kept sound =
    let d = restart_tree document in
    let job = document.job in
    then-ok (fields (required (λ _. job_at) field.Job d)) job _ document (field-ok (required (λ _. job_at) field.Job d) job (required-back (λ _. job_at) field.Job d (job_tree job) job refl (jobs job kept.run.job)))
    (then-ok (fields (required (data_list_at job) field.Data d)) document.step_data _ document (field-ok (required (data_list_at job) field.Data d) document.step_data (required-back (data_list_at job) field.Data d (list_tree (map (data_tree job.classes) document.step_data)) document.step_data refl (list-back-data job kept.run.job field.Data document.step_data kept.run.one_each kept.run.each)))
    (then-ok (fields (required (λ _ tree. Ok tree) field.Resume d)) (resume_tree document.resume) _ document (field-ok (required (λ _ tree. Ok tree) field.Resume d) (resume_tree document.resume) (required-back (λ _ tree. Ok tree) field.Resume d (resume_tree document.resume) (resume_tree document.resume) refl refl))
    (then-ok (resume_at job.steps field.Resume (resume_tree document.resume)) document.resume _ document (resume-back saved job.steps field.Resume document.resume kept.resume sound)
    refl)))
