-- One round over the tasks that a step holds, by the numbers of their partitions. No lane is named.
use Rattle.std.specs.Prelude.{ℕ, ◌+◌, ◌≡◌, Bool, true, false, List, [], ◌∷◌, length, map}
use Rattle.std.specs.List.{AllByRecursion}
use Rattle.jb_base.specs.Pairwise.{Pairwise}
use Rattle.jb_cert.specs.Lawful.{Pair}
use Rattle.jb_chunk.specs.TaskState.{TaskState}
use Rattle.jb_chunk.specs.declared.outcome.Done.{Done}
use Rattle.jb_chunk.specs.declared.outcome.Outcome.{Outcome}
use Rattle.jb_chunk.specs.declared.outcome.Outcome.TheVariants.{NoMemory}
use Rattle.jb_collect.specs.Heard.{heard_in}
use Rattle.jb_collect.specs.declared.calls.AnalyzerCall.{AnalyzerCall}
use Rattle.jb_collect.specs.AnsweredCalls.{AnsweredCall}
use Rattle.jb_cert.specs.declared.notes.PlanNote.{PlanNote}
use Rattle.jb_step.specs.Alone.{AreReady}
use Rattle.jb_step.specs.rounds.Rounds.{after_rounds, attempts_of, breaks_in}
use Rattle.jb_step.specs.declared.rounds.ran.Ran.{Ran}
use Rattle.jb_step.specs.Tables.{Table, held_in}
use Rattle.jb_step.specs.inside.table.Places.{table_in}
use Rattle.jb_step.specs.inside.callbacks.Telling.{HearsMore, Moment, moment}
use Rattle.jb_workers.specs.declared.worker.lane_work.Work.{Work}
use Rattle.jb_workers.specs.Works.{IsAttemptOf}

-- the tasks of the works
abbrev pub tasks_of : {T : Type 0} → List (Work T) → List T
tasks_of works = map (λ w. w.task) works

-- the partitions of tasks
abbrev pub partitions_of : List TaskState → List ℕ
partitions_of ts = map (λ t. t.partition) ts

-- the attempts of these tasks, in their order
abbrev pub AreDonesOf : {T : Type 0} → (T → TaskState) → List T → List (Done T) → Type 0
AreDonesOf task_state = Pairwise (IsAttemptOf task_state)

abbrev pub had_memory : Outcome → Bool
had_memory NoMemory = false
had_memory _ = true

abbrev pub AreWhole : {T : Type 0} → List (Done T) → Type 0
AreWhole = AllByRecursion (λ d. had_memory d.outcome ≡ true)

-- how far a step is: what the analyzer took, its table, how many rounds and attempts were made, and its notes
pub record Progress : Type 0 where
  pub moment : Moment
  pub table : Table
  pub rounds : ℕ
  pub attempts : ℕ
  pub notes : List PlanNote

-- the places of the tasks, as a table
abbrev pub table_of : {T : Type 0} → (T → TaskState) → Ran T → Table
table_of task_state ran = table_in task_state ran.held.items

abbrev pub progress : {T : Type 0} → (T → TaskState) → List (AnsweredCall AnalyzerCall) → Ran T → Progress
progress task_state calls ran = record { moment = moment calls ran.fault; table = table_of task_state ran; rounds = ran.rounds; attempts = ran.attempts; notes = ran.notes.items }

-- What rounds left that were run one after another: the table, the numbers of rounds and attempts, and the analyzer's calls. It was called
-- for each attempt, unless it had answered a fault before.
pub record AreLeft (rounds : List (List Pair)) (now later : Progress) : Type 0 where
  pub table_is : later.table ≡ after_rounds rounds now.table
  pub rounds_are : later.rounds ≡ now.rounds + length rounds
  pub attempts_are : later.attempts ≡ now.attempts + length (attempts_of rounds now.table)
  pub heard_is : HearsMore now.moment (heard_in (attempts_of rounds now.table)) later.moment

-- One round: an attempt for each task of the set's partitions, and for no other. The tasks are ready for the next round. Some partition was
-- rolled back or failed, or none. No plan was noted.
pub record IsRound (set : List Pair) (broke : Bool) (now later : Progress) : Type 0 where
  pub left : AreLeft (set ∷ []) now later
  pub ready : AreReady (held_in later.table)
  pub broke_is : broke ≡ breaks_in (attempts_of (set ∷ []) now.table)
  pub notes_are : later.notes ≡ now.notes
