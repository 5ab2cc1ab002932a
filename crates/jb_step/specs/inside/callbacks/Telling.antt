-- What an analyzer took between two moments.
use Rattle.std.specs.Prelude.{◌≡◌, ℕ, ◌==◌, Option, Some, None, Result, Ok, Err, List, map, filter}
use Rattle.std.specs.List.{enumerate_from}
use Rattle.jb_base.specs.declared.class.ClassId.{ClassId}
use Rattle.jb_base.specs.declared.artifact_error.ArtifactError.{ArtifactError}
use Rattle.jb_base.specs.declared.artifact_error.ArtifactError.TheVariants.{Fault, Memory}
use Rattle.jb_rules.specs.declared.row.Row.{Row}
use Rattle.jb_collect.specs.declared.calls.AnalyzerCall.{AnalyzerCall}
use Rattle.jb_collect.specs.declared.calls.AnalyzerCall.TheVariants as call
use Rattle.jb_collect.specs.declared.calls.Status.TheVariants.{Completed}
use Rattle.jb_collect.specs.AnsweredCalls.{AnsweredCall, HasTaken}

-- the calls that it took up to a moment, and the fault that it answered by then, if it did
pub record Moment : Type 0 where
  pub calls : List (AnsweredCall AnalyzerCall)
  pub fault : Option ClassId

abbrev pub moment : List (AnsweredCall AnalyzerCall) → Option ClassId → Moment
moment calls fault = record { calls = calls; fault = fault }

-- a callback answered so: with this fault, if it answered one, and it was not out of memory
abbrev pub IsCallbackAnswer : Result (Unit {0}) ArtifactError → Option ClassId → Type 0
IsCallbackAnswer (Ok done) fault = fault ≡ None
IsCallbackAnswer (Err (Fault class)) fault = fault ≡ Some class
IsCallbackAnswer (Err Memory) fault = ⊥

-- more calls: it took these, unless it had answered a fault
abbrev pub IsHearing : (before : Option ClassId) → List (AnsweredCall AnalyzerCall) → List AnalyzerCall → Moment → Type 0
IsHearing None taken calls later = HasTaken taken calls later.fault later.calls
IsHearing (Some class) taken calls later = later ≡ record { calls = taken; fault = Some class }

abbrev pub HearsMore : Moment → List AnalyzerCall → Moment → Type 0
HearsMore m calls later = IsHearing m.fault m.calls calls later

-- the calls for empty ranges, the first partition's number given
abbrev pub empties : ℕ → List Row → List AnalyzerCall
empties first rows = map (λ n. call.Status n.0 Completed) (filter (λ n. n.1.lo == n.1.hi) (enumerate_from first rows))
