-- What holds of all calls of an analyzer.
use Rattle.std.specs.Prelude.{◌≡◌, ℕ, ◌==◌, Option, Some, None, List, [], ◌∷◌, ◌++◌, map}
use Rattle.std.specs.List.{filter}
use Rattle.jb_base.specs.declared.class.ClassId.{ClassId}
use Rattle.jb_chunk.specs.Attempt.{AttemptEnd}
use Rattle.jb_collect.specs.declared.calls.AnalyzerCall.{AnalyzerCall}
use Rattle.jb_collect.specs.Heard.{calls_about, heard_in}
use Rattle.jb_collect.specs.AnsweredCalls.{AnsweredCall, HasTaken, HasTakenSome, well, faulted}

-- WHICH CALLS WERE TAKEN

-- if no fault was answered: all of them, well
abbrev pub AllAreTaken : Type 0
AllAreTaken = (before after : List (AnsweredCall AnalyzerCall)) (calls : List AnalyzerCall) → HasTaken before calls None after → after ≡ before ++ map well calls

-- if one was: the first of them, the last one of these with the fault
pub record AreTakenUpTo (before : List (AnsweredCall AnalyzerCall)) (calls : List AnalyzerCall) (class : ClassId) (after : List (AnsweredCall AnalyzerCall)) : Type 0 where
  pub first : List AnalyzerCall
  pub last : AnalyzerCall
  pub rest : List AnalyzerCall
  pub calls_are : calls ≡ first ++ last ∷ rest
  pub taken : after ≡ before ++ (map well first ++ faulted last class ∷ [])

abbrev pub TakenUpToTheFault : Type 0
TakenUpToTheFault =
    (before after : List (AnsweredCall AnalyzerCall)) (calls : List AnalyzerCall) (class : ClassId) → HasTaken before calls (Some class) after
    → AreTakenUpTo before calls class after

-- without memory: the first of them, well
abbrev pub SomeAreTaken : Type 0
SomeAreTaken =
    (before after : List (AnsweredCall AnalyzerCall)) (calls : List AnalyzerCall) (some : HasTakenSome before calls after) → after ≡ before ++ map well some.first

-- ONE AFTER ANOTHER

abbrev pub TakenOneAfterAnother : Type 0
TakenOneAfterAnother =
    (before between after : List (AnsweredCall AnalyzerCall)) (calls later : List AnalyzerCall) (fault : Option ClassId) → HasTaken before calls None between
    → HasTaken between later fault after → HasTaken before (calls ++ later) fault after

abbrev pub NoneAfterAFault : Type 0
NoneAfterAFault =
    (before after : List (AnsweredCall AnalyzerCall)) (calls later : List AnalyzerCall) (class : ClassId) → HasTaken before calls (Some class) after
    → HasTaken before (calls ++ later) (Some class) after

-- WHAT IS HEARD OF A PARTITION

abbrev pub PartitionsAreHeardApart : Type 0
PartitionsAreHeardApart =
    (p : ℕ) (attempts : List AttemptEnd)
    → calls_about p (heard_in attempts) ≡ heard_in (filter (λ e. e.task.partition == p) attempts)
