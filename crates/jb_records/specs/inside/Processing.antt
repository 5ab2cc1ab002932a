-- What becomes of a record that a function was called on.
use Rattle.std.specs.Prelude.{Bool, false, true, ◌≡◌, ℕ, List, Option, None, Some}
use Rattle.jb_artifacts.specs.Faults.{FaultTable, live, used_at}
use Rattle.jb_base.specs.declared.class.ClassId.{ClassId}
use Rattle.jb_records.specs.Function.{refusal_in, result_in}
use Rattle.jb_rows.specs.Answers.{answered}
use Rattle.jb_rows.specs.Fields.{Fields, packed}
use Rattle.jb_rows.specs.declared.row_function.Outcome.{Outcome}

-- the result that was put together, if there is one: its fields, packed
abbrev pub given_by : (found : Bool) → (built : Fields) → Option (List ℕ)
given_by true built = Some (packed built)
given_by false built = None

-- it isn't refused, no try fails, and this says whether it has a result
pub record IsSettled (outcome : Outcome) (number : ℕ) (old new : FaultTable) (found : Bool) : Type 0 where
  pub accepted : (built : Fields) → refusal_in (answered outcome built) ≡ None
  pub given : (built : Fields) → result_in (answered outcome built) ≡ given_by found built
  pub still : live (old number) ≡ None
  pub same : new ≡ old
  pub used : new ≡ used_at old number

-- The fault with which it fails: that of its refusal, and then no plan changes; or else that of the record's plan, which advances.
abbrev pub Strikes : (refusal : Option ClassId) → (number : ℕ) → (old new : FaultTable) → ClassId → Type 0
Strikes (Some refused) number old new class = (class ≡ refused) × (new ≡ old)
Strikes None number old new class = (live (old number) ≡ Some class) × (new ≡ used_at old number)
