-- What holds of every run of a step.
use Rattle.std.specs.Prelude.{◌≡◌, true, List}
use Rattle.std.specs.List.{list_all}
use Rattle.jb_rules.specs.States.{is_waiting}
use Rattle.jb_chunk.specs.TaskState.{TaskState}
use Rattle.jb_step.specs.rounds.Runs.{PlanRun, ArePlanRuns, table_after}
use Rattle.jb_step.specs.preparing.Setup.{Setup}
use Rattle.jb_step.specs.Alone.{AreOnTheWay, AreAlone, ArePlain, AreCalm, AreReady, have_ended}
use Rattle.jb_step.specs.Tables.{Table, held_in}

-- at each moment each partition is where some of its attempts alone lead
abbrev pub StepsAreOnTheWay : Type 0
StepsAreOnTheWay =
    (s : Setup) (start : Table) (plans : List PlanRun) → ArePlanRuns s start plans → AreOnTheWay (held_in start) (held_in (table_after plans start))

-- if no partition is left unfinished, each is where its attempts alone end
abbrev pub StepsEndAlone : Type 0
StepsEndAlone =
    (s : Setup) (start : Table) (plans : List PlanRun) → AreReady (held_in start) → ArePlanRuns s start plans
    → have_ended (held_in (table_after plans start)) ≡ true → AreAlone (held_in start) (held_in (table_after plans start))

-- that is one place, for any threads and rounds
abbrev pub AloneIsOnePlace : Type 0
AloneIsOnePlace = (start one other : List TaskState) → AreAlone start one → AreAlone start other → one ≡ other

-- and if no call fails, it is the place of their Plain runs
abbrev pub CalmStepsArePlain : Type 0
CalmStepsArePlain =
    (start end : List TaskState) → AreReady start → list_all (λ t. is_waiting t.row.state) start ≡ true → AreCalm start
    → AreAlone start end → ArePlain start end
