-- A run of a step so far.
use Rattle.std.specs.Prelude.{◌≡◌, ℕ, ◌≤◌, Bool, false, Option, List, [], ◌++◌, length, MatchOption, map}
use Rattle.jb_cert.specs.Certificates.{Holds, bound_certificate}
use Rattle.jb_cert.specs.Lawful.{Pair, IsLeast}
use Rattle.jb_cert.specs.Load.{Load}
use Rattle.jb_cert.specs.Plans.{sets_of, slot_pair}
use Rattle.jb_cert.specs.WrapAround.{slots_of_round, wrapped_rounds}
use Rattle.jb_step.specs.rounds.PlanLaws.{IsTaskTable}
use Rattle.jb_step.specs.rounds.Rounds.{AreRun, GoQuietly}
use Rattle.jb_step.specs.rounds.Runs.{PlanRun, AreOver, ArePlanRuns, note_of, rounds_of, rounds_run}
use Rattle.jb_step.specs.preparing.Setup.{Setup, counts_now}
use Rattle.jb_step.specs.inside.rounds.Round.{AreLeft, Progress}
use Rattle.jb_step.specs.inside.callbacks.Telling.{Moment}
use Rattle.jb_step.specs.Tables.{Table}

-- the chunks of a round of the load's plan
abbrev pub set_of_round : Load → ℕ → List Pair
set_of_round load r = map slot_pair (slots_of_round load.counts load.threads r)

-- the load's plan, of which so many rounds were run
abbrev pub plan_run_of : Load → ℕ → PlanRun
plan_run_of load ran = record {
  certificate = bound_certificate load.counts load.threads;
  rounds = sets_of (wrapped_rounds load.counts load.threads);
  ran = ran;
}

-- so many rounds are no more than the limit, if there is one
abbrev pub AreWithin : Option ℕ → ℕ → Type 0
AreWithin limit rounds = MatchOption limit (Unit {0}) (λ l. rounds ≤ l)

-- before its first round, after the analyzer's first calls
abbrev pub at_first : Moment → Table → Progress
at_first moment start = record { moment = moment; table = start; rounds = 0; attempts = 0; notes = [] }

-- Run of a step so far, from the state `first`: some plans were run, one after another, each a least one for what was left. These are their
-- notes, and what their rounds left. All of them are over, unless the step stops.
pub record IsRunOfStepSoFar (s : Setup) (limit : Option ℕ) (stopped : Bool) (first now : Progress) : Type 0 where
  pub plans : List PlanRun
  pub run : ArePlanRuns s first.table plans
  pub over : stopped ≡ false → AreOver first.table plans
  pub notes_are : now.notes ≡ first.notes ++ map note_of plans
  pub few : AreWithin limit now.rounds
  pub left : AreLeft (rounds_of plans) first now

-- THE OPEN PLAN

-- the plan is a least one for what the tasks have left, with a certificate of it
pub record IsPlanFor (s : Setup) (before : Table) (plan : PlanRun) : Type 0 where
  pub least : IsLeast (counts_now s before) s.threads plan.rounds
  pub certified : Holds (counts_now s before) s.threads (length plan.rounds) plan.certificate
  pub some : 1 ≤ length plan.rounds

-- so many rounds of it were run so far, none of them with a rollback or a failure
pub record IsOpen (s : Setup) (load : Load) (ran : ℕ) (first now : Progress) : Type 0 where
  pub run : AreRun (rounds_run (plan_run_of load ran)) first.table
  pub quiet : GoQuietly (rounds_run (plan_run_of load ran)) first.table
  pub notes_are : now.notes ≡ first.notes
  pub left : AreLeft (rounds_run (plan_run_of load ran)) first now
  pub table : IsTaskTable s now.table
