-- A field that was taken out of an object (own choice).
use Rattle.std.specs.Prelude.{Option}
use Rattle.serde_json.specs.Data.{Data}
use Rattle.jb_job.specs.declared.field.Field.{Field}
use Rattle.jb_job.specs.Reading.{Read, ◌>>=◌, shaped}

-- a field that has to be there: `required` of the object that it was taken out of
abbrev pub taken : {A : Type 0} → (Field → Data → Read A) → Field → Option Data → Read A
taken kind f found = shaped f found >>= kind f
