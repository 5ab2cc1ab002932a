-- What the parts of the check answer.
use Rattle.std.specs.Prelude.{◌≡◌, List, [], Result, MatchResult}
use Rattle.jb_plan.specs.declared.fault.PlanError.{PlanError}
use Rattle.jb_plan.specs.Faults.{IsFirst}

-- Ok if there is no error, else the first one
abbrev pub FindsFirst : List PlanError → Result (Unit {0}) PlanError → Type 0
FindsFirst errors result = MatchResult result (λ _. errors ≡ []) (λ error. IsFirst error errors)
