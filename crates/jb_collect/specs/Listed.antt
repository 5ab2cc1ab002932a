-- A list of calls, one of which fails if that is planned (own choice).
use Rattle.std.specs.Prelude.{ℕ, ◌==◌, Option, Some, None, Result, Ok, Err, if◌then◌else◌, List, map}
use Rattle.std.specs.List.{enumerate_from}
use Rattle.jb_base.specs.declared.class.ClassId.{ClassId}
use Rattle.jb_base.specs.declared.artifact_error.ArtifactError.{ArtifactError}
use Rattle.jb_base.specs.declared.artifact_error.ArtifactError.TheVariants.{Fault}
use Rattle.jb_collect.specs.AnsweredCalls.{AnsweredCall}

-- the calls, and the number of the one that fails, counted from 0, with the class of its fault
pub record Listed (C : Type 0) : Type 0 where
  pub calls : List C
  pub fault : Option (ℕ × ClassId)

-- the fault of the call of this number
abbrev pub planned_at : Option (ℕ × ClassId) → ℕ → Option ClassId
planned_at None number = None
planned_at (Some planned) number = if planned.0 == number then Some planned.1 else None

-- what a call with this fault answers
abbrev pub answer_with : Option ClassId → Result (Unit {0}) ArtifactError
answer_with None = Ok tt
answer_with (Some class) = Err (Fault class)

-- the calls, each with its fault
abbrev pub answered_calls_of : {C : Type 0} → Listed C → List (AnsweredCall C)
answered_calls_of list = map (λ n. record { call = n.1; fault = planned_at list.fault n.0 }) (enumerate_from 0 list.calls)
