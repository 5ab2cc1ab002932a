-- The document of `restart`, read to its end.
use Rattle.std.proofs.Common.{◌≡◌, [], ◌∷◌, Option, Ok, refl}
use Rattle.serde_json.specs.Data.{Data}
use Rattle.serde_json.specs.Find.{get}
use Rattle.jb_job.specs.declared.field.Field.TheVariants as field
use Rattle.jb_job.specs.declared.job.Job.{Job}
use Rattle.jb_job.specs.JobRecord.{job_at}
use Rattle.jb_job.specs.Names.{name_of}
use Rattle.jb_job.specs.Reading.{object_at, required}
use Rattle.jb_documents.specs.RestartDocument.{restart_at}
use Rattle.jb_documents.specs.inside.Parts.{parts_at}
use Rattle.jb_documents.specs.inside.Taken.{taken}

pub restart-parts : (d : Data) (job : Job) (named given left : Option Data)
    → object_at field.Unknown (field.Job ∷ field.Data ∷ field.Resume ∷ []) d ≡ Ok d → taken (λ f. job_at) field.Job named ≡ Ok job
    → named ≡ get (name_of field.Job) d → given ≡ get (name_of field.Data) d → left ≡ get (name_of field.Resume) d
    → restart_at d ≡ parts_at job given left
unfolding restart_at parts_at required
restart-parts d job named given left is-document is-job is-named is-given is-left = rw (is-document, ← is-named, is-job, ← is-given, ← is-left) refl
