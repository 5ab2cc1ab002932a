-- One task and its attempts: what is left of its chunks after each.
use Rattle.std.proofs.Common.{◌≡◌, ℕ, ◌≤◌, ◌<◌, Bool, true, false, cond, List, [], ◌∷◌, length, drop, refl, ap, sym, subst, ◌∙◌, arith, eqb-true}
use Rattle.std.specs.Prelude.{◌==◌}
use Rattle.std.specs.List.{AllByRecursion}
use Rattle.jb_base.specs.Pairwise.{Pairwise}
use Rattle.jb_base.specs.declared.range.Range.{Range}
use Rattle.jb_plan.specs.Blocks.{blocks}
use Rattle.jb_rules.specs.declared.row.Row.{Row}
use Rattle.jb_rules.specs.declared.row.RowState.{RowState}
use Rattle.jb_rules.specs.declared.row.RowState.TheVariants as state
use Rattle.jb_rules.specs.States.{is_waiting}
use Rattle.jb_chunk.specs.declared.outcome.Outcome.{Outcome}
use Rattle.jb_chunk.specs.declared.outcome.Outcome.TheVariants.{Committed, Rolled, Failed, NoMemory}
use Rattle.jb_chunk.specs.Attempt.{attempt_of, block_of, end_of, ending_by, after_repeats, again_of}
use Rattle.jb_chunk.specs.Laws.{RepeatsAreRetries}
use Rattle.jb_chunk.specs.TaskState.{TaskState, IsReady, HasItemCount}
use Rattle.jb_rules.specs.Rows.{remaining_of}
use Rattle.jb_chunk.proofs.RunsAlone.{below-at, left-waiting}
use Rattle.jb_step.specs.rounds.PlanLaws.{AreTasksOf, IsTaskTable}
use Rattle.jb_step.specs.rounds.Rounds.{is_commit}
use Rattle.jb_step.specs.preparing.Setup.{Setup}
use Rattle.jb_step.specs.Tables.{ArePlaced, Table, held_in}
use Rattle.jb_step.specs.inside.LowerLaws.{ChunkLaws}
use Rattle.jb_step.proofs.table.Held.{HasItsTask}

abbrev pub row_waits : TaskState → Bool
row_waits t = is_waiting t.row.state

pub waits : (s : RowState) → is_waiting s ≡ true → s ≡ state.Waiting
waits state.Waiting e = refl
waits (state.Running lane) e = cc
waits state.Finished e = cc
waits state.Failed e = cc

-- an attempt leaves the partition's number and the item count as they are
pub same-partition : (t : TaskState) → (attempt_of t).task.partition ≡ t.partition
same-partition t = refl

pub same-count : (t : TaskState) → (attempt_of t).task.item_count ≡ t.item_count
same-count t = refl

-- what is left of a task's being ready when only its row counts
pub record IsSteady (t : TaskState) : Type 0 where
  pub at_to : t.row.at ≤ t.row.hi
  pub redo_to : t.row.redo ≤ t.row.hi
  pub waiting : t.row.state ≡ state.Waiting → t.row.at < t.row.hi
  pub count : HasItemCount t.item_count

pub steady : (t : TaskState) → IsReady t → IsSteady t
steady t ready = record {
  at_to = ready.sound.placed.at_to;
  redo_to = ready.sound.placed.redo_to;
  waiting = left-waiting t.row ready.sound;
  count = ready.item_counted;
}

-- a table of the step, of which the rows alone count
abbrev pub IsSteadyIn : Setup → TaskState → Type 0
IsSteadyIn s t = IsSteady t × (t.item_count ≡ s.item_count)

pub record IsSteadyTable (s : Setup) (table : Table) : Type 0 where
  pub tasks : AllByRecursion (IsSteadyIn s) (held_in table)
  pub placed : ArePlaced 0 table
  pub unfinished : Pairwise HasItsTask s.rows table

steady-tasks : (s : Setup) (ts : List TaskState) → AreTasksOf s ts → AllByRecursion (IsSteadyIn s) ts
steady-tasks s [] tasks = tt
steady-tasks s (t ∷ ts) tasks = ((steady t tasks.0.0, tasks.0.1), steady-tasks s ts tasks.1)

pub steady-table : (s : Setup) (table : Table) → IsTaskTable s table → IsSteadyTable s table
steady-table s table h = record { tasks = steady-tasks s (held_in table) h.tasks; placed = h.placed; unfinished = h.unfinished }

next-by : ChunkLaws → (t : TaskState) (again : ℕ) (e : Outcome) → IsSteady t → t.row.state ≡ state.Waiting → IsSteady (ending_by t again e).task
next-by law t again (Committed delta) st w =
    let next = law.follow.next t.row.at t.row.redo t.row.hi t.item_count (st.waiting w) st.redo_to st.count.some in
    record { at_to = next.within; redo_to = st.redo_to; waiting = below-at (block_of t).hi t.row.hi next.within; count = st.count }
next-by law t again (Rolled class) st w =
    let next = law.follow.next t.row.at t.row.redo t.row.hi t.item_count (st.waiting w) st.redo_to st.count.some in
    let le = next.within in
    let redo = st.redo_to in
    let top : (block_of t).hi ≤ t.row.hi = le in
    record { at_to = st.at_to; redo_to = omega (arith, top, redo); waiting = λ u. st.waiting w; count = st.count }
next-by law t again (Failed class) st w =
    record { at_to = st.at_to; redo_to = st.redo_to; waiting = λ e. let never : ⊥ = cc in absurd never; count = st.count }
next-by law t again NoMemory st w = record { at_to = st.at_to; redo_to = st.redo_to; waiting = st.waiting; count = st.count }

-- the repeats of a task's next block leave its place and its chunks as they are
steady-after : RepeatsAreRetries → (t : TaskState) → IsSteady t → IsSteady (after_repeats t)
steady-after law t st =
    subst (λ (r : Row). IsSteady (record (after_repeats t) { row = r })) (sym (law t))
    (record { at_to = st.at_to; redo_to = st.redo_to; waiting = st.waiting; count = st.count })

waits-after : RepeatsAreRetries → (t : TaskState) → t.row.state ≡ state.Waiting → (after_repeats t).row.state ≡ state.Waiting
waits-after law t w = ap (λ (r : Row). r.state) (law t) ∙ w

-- after an attempt the task is steady too
pub next-steady : ChunkLaws → (t : TaskState) → IsSteady t → t.row.state ≡ state.Waiting → IsSteady (attempt_of t).task
next-steady law t st w = next-by law (after_repeats t) (again_of t) (end_of (after_repeats t)) (steady-after law.repeats t st) (waits-after law.repeats t w)

-- THE CHUNKS THAT ARE LEFT

abbrev pub listing : TaskState → List Range
listing t = blocks t.row.at t.row.redo t.row.hi t.item_count

-- of a task that waits; else there are none
abbrev pub due : TaskState → List Range
due t = cond (row_waits t) (listing t) []

pub due-waiting : (t : TaskState) → t.row.state ≡ state.Waiting → due t ≡ listing t
due-waiting t w = ap (λ st. cond (is_waiting st) (listing t) []) w

pub due-waits : (t : TaskState) → 1 ≤ length (due t) → t.row.state ≡ state.Waiting
due-waits t some =
    elim (row_waits t) as (λ b. row_waits t ≡ b → 1 ≤ length (cond b (listing t) []) → t.row.state ≡ state.Waiting) [ true ↦ λ e le. waits t.row.state e | false ↦ λ e le. absurd (omega (arith, le)) ] refl some

pub due-number : (t : TaskState) → length (due t) ≡ remaining_of t.item_count t.row t.row.state
due-number t = by t.row.state
  where
    by : (st : RowState) → length (cond (is_waiting st) (listing t) []) ≡ remaining_of t.item_count t.row st
    by state.Waiting = refl
    by (state.Running lane) = refl
    by state.Finished = refl
    by state.Failed = refl

pub next-list : ChunkLaws → (t : TaskState) → IsSteady t → t.row.state ≡ state.Waiting → listing t ≡ block_of t ∷ blocks (block_of t).hi t.row.redo t.row.hi t.item_count
next-list law t st w = (law.follow.next t.row.at t.row.redo t.row.hi t.item_count (st.waiting w) st.redo_to st.count.some).others

-- behind the last of them the task is finished
due-at : ChunkLaws → (b : Bool) (c : ℕ) (row : Row) → (row.at == row.hi) ≡ b → row.redo ≤ row.hi → cond (is_waiting (cond b state.Finished state.Waiting)) (blocks row.at row.redo row.hi c) [] ≡ blocks row.at row.redo row.hi c
due-at law true c row e redo = sym (ap (λ a. blocks a row.redo row.hi c) (eqb-true row.at row.hi e) ∙ law.follow.none row.redo row.hi c redo)
due-at law false c row e redo = refl

due-by : ChunkLaws → (t : TaskState) (again : ℕ) (e : Outcome) → IsSteady t → t.row.state ≡ state.Waiting → is_commit (ending_by t again e).outcome ≡ true → due (ending_by t again e).task ≡ drop 1 (listing t)
due-by law t again (Committed delta) st w commit =
    due-at law ((block_of t).hi == t.row.hi) t.item_count (ending_by t again (Committed delta)).task.row refl st.redo_to ∙ ap (drop 1) (sym (next-list law t st w))
due-by law t again (Rolled class) st w commit = let never : ⊥ = cc in absurd never
due-by law t again (Failed class) st w commit = let never : ⊥ = cc in absurd never
due-by law t again NoMemory st w commit = let never : ⊥ = cc in absurd never

-- a chunk that is committed is no longer among them
pub due-next : ChunkLaws → (t : TaskState) → IsSteady t → t.row.state ≡ state.Waiting → is_commit (attempt_of t).outcome ≡ true → due (attempt_of t).task ≡ drop 1 (listing t)
due-next law t st w commit =
    due-by law (after_repeats t) (again_of t) (end_of (after_repeats t)) (steady-after law.repeats t st) (waits-after law.repeats t w) commit
    ∙ ap (λ (r : Row). drop 1 (blocks r.at r.redo r.hi t.item_count)) (law.repeats t)
