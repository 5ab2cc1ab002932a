-- What the plans of a run leave of a step's table is steady.
use Rattle.std.proofs.Common.{◌≡◌, Bool, true, false, cond, List, [], ◌∷◌, refl, sym, ◌∙◌, subst}
use Rattle.std.specs.List.{AllByRecursion}
use Rattle.jb_cert.specs.Lawful.{Pair}
use Rattle.jb_chunk.specs.Attempt.{attempt_of}
use Rattle.jb_chunk.specs.TaskState.{TaskState}
use Rattle.jb_step.specs.Tables.{Table, held_in}
use Rattle.jb_step.specs.rounds.PlanLaws.{IsHeld}
use Rattle.jb_step.specs.rounds.Rounds.{after_in, after_round, after_rounds, has_partition, tasks_in}
use Rattle.jb_step.specs.rounds.Runs.{rounds_of}
use Rattle.jb_step.specs.preparing.Setup.{Setup}
use Rattle.jb_step.specs.inside.LowerLaws.{ChunkLaws}
use Rattle.jb_step.proofs.table.Apart.{AllWait, IsWaiting, all-wait}
use Rattle.jb_step.proofs.table.Filters.{all-both, all-map, kept-so}
use Rattle.jb_step.proofs.table.Held.{held-round, placed-round, tasks-stay}
use Rattle.jb_step.proofs.plans.Steady.{IsSteadyIn, IsSteadyTable, next-steady, same-count, steady-table}

steady-one : ChunkLaws → (s : Setup) (b : Bool) (t : TaskState) → IsSteadyIn s t → (b ≡ true → IsWaiting t) → IsSteadyIn s (cond b (attempt_of t).task t)
steady-one law s true t here waiting = (next-steady law t here.0 (waiting refl), same-count t ∙ here.1)
steady-one law s false t here waiting = here

steady-round : ChunkLaws → (s : Setup) (set : List Pair) (table : Table) → IsSteadyTable s table → AllByRecursion IsWaiting (tasks_in set table) → IsSteadyTable s (after_round set table)
steady-round law s set table steady waiting =
    let has : TaskState → Bool = λ t. has_partition set t.partition in
    record {
      tasks = subst (AllByRecursion (IsSteadyIn s)) (sym (held-round set table))
          (all-map (IsSteadyIn s) (after_in set) (held_in table)
          (all-both (IsSteadyIn s) (λ (t : TaskState). has t ≡ true → IsWaiting t) (λ (t : TaskState). IsSteadyIn s (after_in set t)) (λ t. steady-one law s (has t) t) (held_in table) steady.tasks (kept-so IsWaiting has (held_in table) waiting)));
      placed = placed-round set table steady.placed;
      unfinished = tasks-stay (after_in set) s.rows table steady.unfinished;
    }

pub steady-rounds : ChunkLaws → (s : Setup) (rounds : List (List Pair)) (table : Table) → IsSteadyTable s table → AllWait rounds table → IsSteadyTable s (after_rounds rounds table)
steady-rounds law s [] table steady all = steady
steady-rounds law s (set ∷ later) table steady all = steady-rounds law s later (after_round set table) (steady-round law s set table steady all.0) all.1

pub steady-held : ChunkLaws → (s : Setup) (table : Table) → IsHeld s table → IsSteadyTable s table
steady-held law s table held =
    subst (IsSteadyTable s) (sym held.left) (steady-rounds law s (rounds_of held.plans) held.start (steady-table s held.start held.first) (all-wait s held.start held.plans held.run))
