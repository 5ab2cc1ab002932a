-- What the run before left, read to its end.
use Rattle.std.proofs.Common.{◌≡◌, Bool, true, false, List, [], ◌∷◌, Some, Ok, Err, Result, refl}
use Rattle.std.specs.Prelude.{bytes_eq}
use Rattle.std.specs.List.{list_any}
use Rattle.serde_json.specs.Data.{Data}
use Rattle.serde_json.specs.Find.{get}
use Rattle.jb_job.specs.declared.field.Field.TheVariants as field
use Rattle.jb_job.specs.Names.{name_of}
use Rattle.jb_job.specs.Reading.{shaped, object_at, required}
use Rattle.jb_job.specs.Records.{StepRecord}
use Rattle.jb_saved.specs.declared.place.SavedPlace.TheVariants.{Step}
use Rattle.jb_saved.specs.Reading.{saved_at}
use Rattle.jb_saved.specs.SavedRows.{SavedRows}
use Rattle.jb_documents.specs.declared.restart.resume.Resume.{Resume}
use Rattle.jb_documents.specs.ResumeFields.{WrittenTexts, outputs_at, held_outputs_at}
use Rattle.jb_documents.specs.RestartDocument.{Refusal, of_saved, ◌>>=◌, fields, saves, named_in, resume_at}

-- the step's name comes last
abbrev pub end : Bool → List WrittenTexts → SavedRows → Result Resume Refusal
end true outputs saved = Ok (record { outputs = outputs; saved = saved })
end false outputs saved = Err (of_saved Step)

after-saved : (steps : List StepRecord) (outputs held : List WrittenTexts) (saved : SavedRows) (found : Bool) (reading : Result SavedRows Refusal)
    → reading ≡ Ok saved → held_outputs_at field.Outputs outputs saved.rows ≡ Ok held → list_any (λ (step : StepRecord). bytes_eq step.id saved.step) steps ≡ found
    → (reading >>= λ s. fields (held_outputs_at field.Outputs outputs s.rows) >>= λ h. saves (named_in steps s) >>= λ n. Ok (record { outputs = h; saved = n })) ≡ end found held saved
after-saved steps outputs held saved true reading f g h = rw (f, g, h) refl
after-saved steps outputs held saved false reading f g h = rw (f, g, h) refl

pub resume-read : (steps : List StepRecord) (d resume o t : Data) (outputs held : List WrittenTexts) (saved : SavedRows) (found : Bool)
    → object_at field.Resume (field.Outputs ∷ field.Saved ∷ []) d ≡ Ok resume
    → get (name_of field.Outputs) resume ≡ Some o → outputs_at field.Outputs o ≡ Ok outputs
    → shaped field.Saved (get (name_of field.Saved) resume) ≡ Ok t → saves (saved_at t) ≡ Ok saved
    → held_outputs_at field.Outputs outputs saved.rows ≡ Ok held → list_any (λ (step : StepRecord). bytes_eq step.id saved.step) steps ≡ found
    → resume_at steps field.Resume d ≡ end found held saved
unfolding resume_at required
resume-read steps d resume o t outputs held saved found a b c e f g h = rw (a, b, c, e) (after-saved steps outputs held saved found (saves (saved_at t)) f g h)
