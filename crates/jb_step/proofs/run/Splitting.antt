-- The works of a round: what the desk is given.
use Rattle.std.proofs.Common.{◌≡◌, ℕ, suc, zero, ◌+◌, ◌≤◌, ◌<◌, true, List, [], ◌∷◌, length, map, sym, subst, arith}
use Rattle.std.proofs.lemmas.Bool.{and_parts}
use Rattle.std.proofs.lemmas.List.Elements.{All-from_recursion}
use Rattle.std.specs.Prelude.{slice_index_or}
use Rattle.std.specs.List.{list_all, AllByRecursion}
use Rattle.jb_cert.specs.Lawful.{Pair}
use Rattle.jb_cert.specs.Rising.{RiseFrom}
use Rattle.jb_chunk.specs.TaskState.{TaskState}
use Rattle.jb_chunk.specs.declared.outcome.Done.{Done}
use Rattle.jb_workers.specs.Round.{AreDones}
use Rattle.jb_workers.specs.Works.{CanBegin, AllCanBegin, RiseByPartition}
use Rattle.jb_workers.specs.declared.worker.lane_work.Work.{Work}
use Rattle.jb_step.specs.Alone.{AreReady}
use Rattle.jb_step.specs.Tables.{ArePlaced, Table, held_in}
use Rattle.jb_step.specs.rounds.Rounds.{CanRun, has_partition, tasks_in}
use Rattle.jb_step.specs.inside.rounds.Round.{tasks_of, partitions_of, AreDonesOf}
use Rattle.jb_step.proofs.table.Filters.{filter-all, rise-filter}
use Rattle.jb_step.proofs.table.Held.{rises as rise-held}
use Rattle.jb_step.proofs.plans.Steady.{row_waits, waits}

module _ {T : Type 0} (task_state : T → TaskState) where
  abbrev part : Work T → ℕ
  part w = (task_state w.task).partition

  low : (k : ℕ) (ws : List (Work T)) → RiseFrom k (partitions_of (map task_state (tasks_of ws))) → (j : ℕ) (d : Work T) → j < length ws → k ≤ part (slice_index_or ws j d)
  low k [] h j d lt = absurd (omega (arith, lt))
  low k (w ∷ ws) h zero d lt = h.0
  low k (w ∷ ws) h (suc j) d lt = let here = h.0 in let more = low (part w + 1) ws h.1 j d (omega (arith, lt)) in omega (arith, here, more)

  rises : (k : ℕ) (ws : List (Work T)) → RiseFrom k (partitions_of (map task_state (tasks_of ws))) → RiseByPartition task_state ws
  rises k [] h i j d le lt = absurd (omega (arith, lt))
  rises k (w ∷ ws) h zero zero d le lt = omega arith
  rises k (w ∷ ws) h zero (suc j) d le lt = let more = low (part w + 1) ws h.1 j d (omega (arith, lt)) in omega (arith, more)
  rises k (w ∷ ws) h (suc i) zero d le lt = absurd (omega (arith, le))
  rises k (w ∷ ws) h (suc i) (suc j) d le lt = rises (part w + 1) ws h.1 i j d (omega (arith, le)) (omega (arith, lt))

  all-can : (ws : List (Work T)) → AreReady (map task_state (tasks_of ws)) → list_all row_waits (map task_state (tasks_of ws)) ≡ true → AllByRecursion (λ (w : Work T). CanBegin (task_state w.task)) ws
  all-can [] r w = tt
  all-can (u ∷ ws) r w =
      let both = and_parts (row_waits (task_state u.task)) (list_all row_waits (map task_state (tasks_of ws))) w in
      (record { waiting = waits (task_state u.task).row.state both.0; ready = r.0 }, all-can ws r.1 both.1)

  pub done-by : (ws : List (Work T)) (ds : List (Done T)) → AreDones task_state ws ds → AreDonesOf task_state (tasks_of ws) ds
  done-by [] [] h = tt
  done-by [] (d ∷ ds) h = absurd h
  done-by (w ∷ ws) [] h = absurd h
  done-by (w ∷ ws) (d ∷ ds) h = (h.0.attempted, done-by ws ds h.1)

-- the works that were taken can be begun
pub taken-can : {T : Type 0} (task_state : T → TaskState) (set : List Pair) (table : Table) (ws : List (Work T)) → map task_state (tasks_of ws) ≡ tasks_in set table → AreReady (held_in table) → CanRun set table → AllCanBegin task_state ws
taken-can task_state set table ws e ready can =
    All-from_recursion (λ (w : Work _). CanBegin (task_state w.task)) ws
    (all-can task_state ws (subst AreReady (sym e) (filter-all _ (λ (t : TaskState). has_partition set t.partition) (held_in table) ready)) (subst (λ (us : List TaskState). list_all row_waits us ≡ true) (sym e) can.waiting))

-- and come by rising partition
pub taken-rise : {T : Type 0} (task_state : T → TaskState) (set : List Pair) (table : Table) (ws : List (Work T)) → map task_state (tasks_of ws) ≡ tasks_in set table → ArePlaced 0 table → RiseByPartition task_state ws
taken-rise task_state set table ws e placed =
    rises task_state 0 ws (subst (λ (us : List TaskState). RiseFrom 0 (partitions_of us)) (sym e) (rise-filter (λ (t : TaskState). has_partition set t.partition) 0 (held_in table) (rise-held 0 table placed)))
