-- A round of works: what comes of it, and why nothing does.
use Rattle.std.specs.Prelude.{◌≡◌, ℕ, Bool, true, false, ◌<◌, ◌⊎◌, List, ◌∷◌, ◌++◌, All, Err}
use Rattle.std.specs.Result.{IsOk}
use Rattle.jb_base.specs.Pairwise.{Pairwise}
use Rattle.jb_chunk.specs.TaskState.{TaskState}
use Rattle.jb_chunk.specs.declared.outcome.Done.{Done}
use Rattle.jb_repo.specs.declared.events.Event.TheVariants.{Round}
use Rattle.jb_repo.specs.declared.refused.Refused.{Refused}
use Rattle.jb_workers.specs.declared.round.error.RoundError.{RoundError}
use Rattle.jb_workers.specs.declared.round.error.RoundError.TheVariants as error
use Rattle.jb_workers.specs.declared.round.report.Report.{Report}
use Rattle.jb_workers.specs.declared.worker.lane_work.Work.{Work}
use Rattle.jb_workers.specs.Lock.{IsRefused}
use Rattle.jb_workers.specs.Turns.{IsDoneOf, MeetsWork}
use Rattle.jb_workers.specs.Works.{IsOrderOf}

-- what came of each work that was done, in the order of the works
abbrev pub AreDones : {T : Type 0} → (T → TaskState) → List (Work T) → List (Done T) → Type 0
AreDones task_state = Pairwise (IsDoneOf task_state)

-- these works were done, each once, and their attempts come by rising partition
pub record AreRoundOf {T : Type 0} (task_state : T → TaskState) (works : List (Work T)) (dones : List (Done T)) : Type 0 where
  pub ordered : List (Work T)
  pub order : IsOrderOf task_state works ordered
  pub each : AreDones task_state ordered dones

-- what came of a work, under the number of its lane
pub record IsReport {T : Type 0} (task_state : T → TaskState) (work : Work T) (report : Report T) : Type 0 where
  pub lane : report.lane ≡ work.lane
  pub meets : MeetsWork task_state work report.done

-- a report for each work, in their order
abbrev pub AreReports : {T : Type 0} → (T → TaskState) → List (Work T) → List (Report T) → Type 0
AreReports task_state = Pairwise (IsReport task_state)

-- each work was done
abbrev pub AllAreDone : {T : Type 0} → List (Report T) → Type 0
AllAreDone reports = All (λ report. IsOk report.done) reports

-- the works of the lanes below this one were done
abbrev pub AreDoneBelow : {T : Type 0} → (lane : ℕ) → List (Report T) → Type 0
AreDoneBelow lane reports = All (λ report. report.lane < lane → IsOk report.done) reports

-- one lane was refused so, and the works of all lower lanes were done
pub record IsLowestRefusal {T : Type 0} (reports : List (Report T)) (why : RoundError) : Type 0 where
  pub lowest : Report T
  pub before : List (Report T)
  pub after : List (Report T)
  pub among : reports ≡ before ++ lowest ∷ after
  pub refused : lowest.done ≡ Err why
  pub lower : AreDoneBelow lowest.lane reports

-- each work has a report: the lowest refused lane's says why there is no answer; or all were done, and Round was refused
pub record IsRefusedRound {T : Type 0} (task_state : T → TaskState) (works : List (Work T)) (refused : Refused) : Type 0 where
  pub ordered : List (Work T)
  pub order : IsOrderOf task_state works ordered
  pub reports : List (Report T)
  pub each : AreReports task_state ordered reports
  pub cause : IsLowestRefusal reports (error.Refused refused) ⊎ (AllAreDone reports × IsRefused Round refused)

-- the desk refused an event
abbrev pub is_refusal : RoundError → Bool
is_refusal (error.Refused refused) = true
is_refusal error.WorkerNotStarted = false
is_refusal error.Memory = false

-- why a round has no answer, as far as the reports of its workers say it
abbrev pub IsRoundError : {T : Type 0} → (T → TaskState) → List (Work T) → RoundError → Type 0
IsRoundError task_state works (error.Refused refused) = IsRefusedRound task_state works refused
IsRoundError task_state works error.WorkerNotStarted = Unit {0}
IsRoundError task_state works error.Memory = Unit {0}
