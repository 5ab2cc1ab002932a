-- What the reports of a round say of it.
use Rattle.std.proofs.Common.{◌≡◌, ◌⊎◌, List, false, Ok, inl, inr}
use Rattle.jb_base.proofs.Pairwise.{pairwise-join}
use Rattle.jb_chunk.specs.TaskState.{TaskState}
use Rattle.jb_chunk.specs.declared.outcome.Done.{Done}
use Rattle.jb_repo.specs.declared.events.Event.TheVariants.{Round}
use Rattle.jb_repo.specs.declared.refused.Refused.{Refused}
use Rattle.jb_workers.specs.declared.round.error.RoundError.{RoundError}
use Rattle.jb_workers.specs.declared.round.error.RoundError.TheVariants as error
use Rattle.jb_workers.specs.declared.worker.lane_work.Work.{Work}
use Rattle.jb_workers.specs.declared.round.report.Report.{Report}
use Rattle.jb_workers.specs.Turns.{IsDoneOf}
use Rattle.jb_workers.specs.Works.{IsOrderOf}
use Rattle.jb_workers.specs.Round.{AreDones, AreReports, AllAreDone, IsRefusedRound, IsReport, IsLowestRefusal, IsRoundError, is_refusal}
use Rattle.jb_workers.specs.Lock.{IsRefused}
use Rattle.jb_workers.specs.inside.Gathered.{AreAllDone}

-- the attempts that all reports are of are those of the works
pub dones-from-reports : {T : Type 0} (task_state : T → TaskState) (ws : List (Work T)) (rs : List (Report T)) (ds : List (Done T)) → AreReports task_state ws rs → AreAllDone rs ds → AreDones task_state ws ds
dones-from-reports task_state = pairwise-join (IsReport task_state) (λ r d. r.done ≡ Ok d) (IsDoneOf task_state) (λ w r d is done. rw done at is.meets)

-- what is no refusal of the desk needs no cause
pub unrefused : {T : Type 0} (task_state : T → TaskState) (ws : List (Work T)) (why : RoundError) → is_refusal why ≡ false → IsRoundError task_state ws why
unrefused task_state ws (error.Refused refused) h = absurd cc
unrefused task_state ws error.WorkerNotStarted h = tt
unrefused task_state ws error.Memory h = tt

-- no lane was refused, but Round was
pub round-refused : {T : Type 0} (task_state : T → TaskState) (ws ordered : List (Work T)) (rs : List (Report T)) (refused : Refused) → IsOrderOf task_state ws ordered → AreReports task_state ordered rs → AllAreDone rs → IsRefused Round refused → IsRefusedRound task_state ws refused
round-refused task_state ws ordered rs refused order each all why = record { ordered = ordered; order = order; reports = rs; each = each; cause = inr (all, why) }

-- why the works have no answer
pub unanswered : {T : Type 0} (task_state : T → TaskState) (ws ordered : List (Work T)) (rs : List (Report T)) (why : RoundError) → IsOrderOf task_state ws ordered → AreReports task_state ordered rs → (why ≡ error.Memory) ⊎ IsLowestRefusal rs why → IsRoundError task_state ws why
unanswered task_state ws ordered rs (error.Refused refused) order each (inl e) = absurd cc
unanswered task_state ws ordered rs error.WorkerNotStarted order each (inl e) = tt
unanswered task_state ws ordered rs error.Memory order each (inl e) = tt
unanswered task_state ws ordered rs (error.Refused refused) order each (inr lowest) = record { ordered = ordered; order = order; reports = rs; each = each; cause = inl lowest }
unanswered task_state ws ordered rs error.WorkerNotStarted order each (inr lowest) = tt
unanswered task_state ws ordered rs error.Memory order each (inr lowest) = tt
