-- Run of a step: its plans, the first one first, each with its rounds and how many of them were run.
use Rattle.std.specs.Prelude.{◌≡◌, ℕ, ◌+◌, ◌*◌, ◌≤◌, true, List, [], ◌∷◌, ◌⊎◌, length, take}
use Rattle.std.specs.List.{flat_map}
use Rattle.jb_cert.specs.declared.certificates.Certificate.{Certificate}
use Rattle.jb_cert.specs.Lawful.{Pair, IsLeast}
use Rattle.jb_cert.specs.Certificates.{Holds}
use Rattle.jb_chunk.specs.Attempt.{AttemptEnd}
use Rattle.jb_cert.specs.declared.notes.PlanNote.{PlanNote}
use Rattle.jb_step.specs.rounds.Rounds.{AreRun, after_rounds, attempts_of, breaks_in}
use Rattle.jb_step.specs.preparing.Setup.{Setup, counts_now}
use Rattle.jb_step.specs.Tables.{Table}

-- a plan as it was run: its rounds, and how many of them were run
pub record PlanRun : Type 0 where
  pub certificate : Certificate
  pub rounds : List (List Pair)
  pub ran : ℕ

-- the rounds that were run: its first ones
abbrev pub rounds_run : PlanRun → List (List Pair)
rounds_run plan = take plan.ran plan.rounds

abbrev pub note_of : PlanRun → PlanNote
note_of plan = record { certificate = plan.certificate; planned = length plan.rounds; ran = plan.ran }

-- all rounds that were run
abbrev pub rounds_of : List PlanRun → List (List Pair)
rounds_of plans = flat_map rounds_run plans

-- the table that the plans leave
abbrev pub table_after : List PlanRun → Table → Table
table_after plans start = after_rounds (rounds_of plans) start

-- A least lawful plan for the chunks that were left. Its first rounds were run, one at least. The certificate holds, and no round before
-- the last one that was run has a rollback or a failure.
pub record IsPlanRun (s : Setup) (before : Table) (plan : PlanRun) : Type 0 where
  pub least : IsLeast (counts_now s before) s.threads plan.rounds
  pub certified : Holds (counts_now s before) s.threads (length plan.rounds) plan.certificate
  pub some : 1 ≤ plan.ran
  pub among : plan.ran ≤ length plan.rounds
  pub run : AreRun (rounds_run plan) before

-- the plan was run whole, or a round of it had a rollback or a failure
abbrev pub IsOver : Table → PlanRun → Type 0
IsOver before plan = (plan.ran ≡ length plan.rounds) ⊎ (breaks_in (attempts_of (rounds_run plan) before) ≡ true)

-- each plan was made for what the plan before it left, once that was over
abbrev pub ArePlanRuns : Setup → Table → List PlanRun → Type 0
ArePlanRuns s before [] = Unit {0}
ArePlanRuns s before (plan ∷ later) =
    IsPlanRun s before plan × ((later ≡ []) ⊎ IsOver before plan) × ArePlanRuns s (after_rounds (rounds_run plan) before) later

-- the last plan too is over, if there is one
abbrev pub AreOver : Table → List PlanRun → Type 0
AreOver before [] = Unit {0}
AreOver before (plan ∷ later) = IsOver before plan × AreOver (after_rounds (rounds_run plan) before) later

-- the attempts of the whole run
abbrev pub all_attempts : List PlanRun → Table → List AttemptEnd
all_attempts plans start = attempts_of (rounds_of plans) start

-- the number of events of a run that nothing stopped: a Plan for each plan, a Round for each round, and a Begin and an outcome for each attempt
abbrev pub events_of : List PlanRun → Table → ℕ
events_of plans start = length plans + length (rounds_of plans) + 2 * length (all_attempts plans start)
