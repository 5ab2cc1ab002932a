-- What lies in a mailbox, and what its two ends know.
use Rattle.std.specs.Prelude.{◌≡◌, ℕ, Bool, true, List, [], ◌∷◌, Option, None, Some, ◌⊎◌, Result}
use mathlib.Core.Option.{some}
use lib.ListN.{get_elem?}
use Rattle.jb_chunk.specs.TaskState.{TaskState}
use Rattle.jb_chunk.specs.declared.outcome.Done.{Done}
use Rattle.jb_workers.specs.declared.worker.lane_work.Work.{Work}
use Rattle.jb_workers.specs.declared.round.error.RoundError.{RoundError}
use Rattle.jb_workers.specs.declared.pool.mailbox.Known.{Known}
use Rattle.jb_workers.specs.declared.pool.mailbox.Message.{Message}
use Rattle.jb_workers.specs.declared.pool.mailbox.Message.TheVariants.{Ask, Answer}
use Rattle.jb_workers.specs.Works.{CanBegin}
use Rattle.jb_workers.specs.Turns.{MeetsWork}

abbrev pub known : {T : Type 0} → Bool → Bool → Option (Work T) → Known T
known of_caller of_worker work = record { of_caller = of_caller; of_worker = of_worker; work = work }

-- an answer to the work that was asked for
pub record IsAnswerTo {T : Type 0} (task_state : T → TaskState) (asked : Option (Work T)) (answer : Result (Done T) RoundError) : Type 0 where
  pub work : Work T
  pub is : asked ≡ Some work
  pub meets : MeetsWork task_state work answer

-- what lies in it, where this work was asked for and this one is being done
abbrev pub Lies : {T : Type 0} → (T → TaskState) → List (Message T) → (asked doing : Option (Work T)) → Type 0
Lies task_state [] asked doing = (doing ≡ None) ⊎ (doing ≡ asked)
Lies task_state (Ask work ∷ []) asked doing = (doing ≡ None) × (asked ≡ Some work) × CanBegin (task_state work.task)
Lies task_state (Answer answer ∷ []) asked doing = (doing ≡ None) × IsAnswerTo task_state asked answer
Lies task_state (x ∷ y ∷ rest) asked doing = ⊥

-- there is one caller and one worker, and each knows its work
abbrev pub Knows : {T : Type 0} → (caller worker : ℕ) → (asked doing : Option (Work T)) → ℕ → Known T → Type 0
Knows caller worker asked doing pass v =
    (v.of_caller ≡ true → (pass ≡ caller) × (v.work ≡ asked)) × (v.of_worker ≡ true → (pass ≡ worker) × (v.work ≡ doing))

abbrev pub IsMailbox : {T : Type 0} → (T → TaskState) → List (Message T) → List (Known T) → Type 0
IsMailbox {T} task_state items views = (caller : ℕ) × (worker : ℕ) × (asked : Option (Work T)) × (doing : Option (Work T)) × Lies task_state items asked doing
    × ((pass : ℕ) (v : Known T) → get_elem? views pass ≡ some v → Knows caller worker asked doing pass v)

-- the caller asks for a work
abbrev pub AsksForAWork : {T : Type 0} → Known T → Message T → Known T → Type 0
AsksForAWork v (Ask work) w = w ≡ known v.of_caller v.of_worker (Some work)
AsksForAWork v (Answer answer) w = w ≡ v

-- the worker takes the work up
abbrev pub Takes : {T : Type 0} → (T → TaskState) → Known T → Message T → Known T → Type 0
Takes task_state v (Ask work) w = (w ≡ known v.of_caller v.of_worker (Some work)) × CanBegin (task_state work.task)
Takes task_state v (Answer answer) w = w ≡ known v.of_caller v.of_worker None

-- the worker answers
abbrev pub AnswersAWork : {T : Type 0} → Known T → Message T → Known T → Type 0
AnswersAWork v x w = w ≡ known v.of_caller v.of_worker None

-- the caller hears the answer
abbrev pub Hears : {T : Type 0} → (T → TaskState) → Known T → Message T → Known T → Type 0
Hears task_state v (Ask work) w = w ≡ known v.of_caller v.of_worker None
Hears task_state v (Answer answer) w = (w ≡ known v.of_caller v.of_worker None) × IsAnswerTo task_state v.work answer
