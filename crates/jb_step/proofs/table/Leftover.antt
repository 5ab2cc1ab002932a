-- The tasks as a step leaves them, from what it answers.
use Rattle.std.proofs.Common.{◌≡◌, ℕ, suc, zero, ◌+◌, ◌<◌, List, [], ◌∷◌, length, Option, Some, None, refl, ap, ap₂, sym, ◌∙◌, arith, zero-add}
use Rattle.std.specs.Prelude.{slice_index_or}
use Rattle.std.specs.Option.{option_map_or}
use Rattle.std.specs.List.{AllByRecursion}
use Rattle.jb_base.specs.Pairwise.{Pairwise}
use Rattle.jb_rules.specs.declared.row.Row.{Row}
use Rattle.jb_artifacts.specs.Meaning.{ArtifactsMeaning}
use Rattle.jb_chunk.specs.Alone.{IsOnTheWay, IsRunOf}
use Rattle.jb_chunk.specs.Attempt.{AttemptEnd, attempt_of}
use Rattle.jb_chunk.specs.TaskState.{TaskState}
use Rattle.jb_step.specs.Alone.{AreOnTheWay}
use Rattle.jb_step.specs.Answers.{artifacts_of, newer, task_left, tasks_left}
use Rattle.jb_step.specs.Tables.{ArePlaced, Table, held_in, held_at}
use Rattle.jb_step.specs.preparing.Setup.{Setup, rows_now}
use Rattle.jb_step.specs.rounds.PlanLaws.{IsTaskTable}
use Rattle.jb_step.proofs.table.Held.{HasItsTask, none-is}
use Rattle.jb_step.proofs.table.Rows.{artifacts-at, in-at, row_of, rows-are}

-- what an attempt leaves as it is, a way leaves as it is
pub kept : {A : Type 0} (part : TaskState → A) → ((t : TaskState) → part (attempt_of t).task ≡ part t) → (t u : TaskState) → IsOnTheWay t u → part u ≡ part t
kept part law t u way = by t way.attempts way.run
  where
    by : (t : TaskState) (es : List AttemptEnd) → IsRunOf t es u → part u ≡ part t
    by t [] run = ap part run
    by t (e ∷ es) run = by e.task es run.2 ∙ ap (λ (f : AttemptEnd). part f.task) run.1 ∙ law t

-- EACH TASK OF A TABLE

-- it stands in its partition's place, and its partition has a row
pub record IsIn (rows : List Row) (table : Table) (t : TaskState) : Type 0 where
  pub stands : held_at table t.partition ≡ Some t
  pub there : t.partition < length rows

long-as : (rows : List Row) (table : Table) (p : ℕ) (t : TaskState) → Pairwise HasItsTask rows table → held_at table p ≡ Some t → p < length rows
long-as [] [] p t h e = absurd (none-is t e)
long-as [] (place ∷ table) p t h e = absurd h
long-as (row ∷ rows) [] p t h e = absurd h
long-as (row ∷ rows) (place ∷ table) zero t h e = omega arith
long-as (row ∷ rows) (place ∷ table) (suc p) t h e = let lt = long-as rows table p t h.1 e in omega (arith, lt)

are-from : (rows : List Row) (all : Table) → Pairwise HasItsTask rows all → (k : ℕ) (table : Table) → ((i : ℕ) → held_at all (k + i) ≡ held_at table i) → ArePlaced k table → AllByRecursion (IsIn rows all) (held_in table)
are-from rows all its k [] same h = tt
are-from rows all its k (None ∷ table) same h = are-from rows all its (k + 1) table (λ i. let e : (k + 1) + i ≡ k + suc i = omega arith in ap (held_at all) e ∙ same (suc i)) h.1
are-from rows all its k (Some t ∷ table) same h =
    let here : held_at all t.partition ≡ Some t = ap (held_at all) (let p = h.0 in let e : t.partition ≡ k + 0 = omega (arith, p) in e) ∙ same zero in (
      record { stands = here; there = long-as rows all t.partition t its here },
      are-from rows all its (k + 1) table (λ i. let e : (k + 1) + i ≡ k + suc i = omega arith in ap (held_at all) e ∙ same (suc i)) h.1,
    )

pub are-in : (rows : List Row) (table : Table) → ArePlaced 0 table → Pairwise HasItsTask rows table → AllByRecursion (IsIn rows table) (held_in table)
are-in rows table h its = are-from rows table its 0 table (λ i. ap (held_at table) (zero-add i)) h

-- it has its row among the rows now, and its artifacts among those that came back
pub own-row : (rows : List Row) (table : Table) (t : TaskState) (d : Row) → ArePlaced 0 table → IsIn rows table t → slice_index_or (rows_now rows (held_in table)) t.partition d ≡ t.row
own-row rows table t d placed is =
    ap (λ rs. slice_index_or rs t.partition d) (rows-are rows table placed)
    ∙ in-at rows table t.partition d is.there
    ∙ ap (λ (o : Option TaskState). option_map_or row_of o (slice_index_or rows t.partition d)) is.stands

pub own-artifacts : (rows : List Row) (table : Table) (t : TaskState) (artifacts : ArtifactsMeaning) → ArePlaced 0 table → IsIn rows table t → newer (artifacts_of (held_in table)) t.partition artifacts ≡ t.artifacts
own-artifacts rows table t artifacts placed is = artifacts-at table t.partition artifacts placed ∙ ap (λ (o : Option TaskState). option_map_or (λ t. t.artifacts) o artifacts) is.stands

-- ALL

module _ (s : Setup) (table : Table) (h : IsTaskTable s table) where
  task-again : (t u : TaskState) → IsOnTheWay t u → IsIn s.rows table u → task_left (rows_now s.rows (held_in table)) (artifacts_of (held_in table)) t ≡ u
  task-again t u way is =
      let rows = rows_now s.rows (held_in table) in
      let left = artifacts_of (held_in table) in
      let name = sym (kept (λ (s : TaskState). s.partition) (λ s. refl) t u way) in
      let rules = sym (kept (λ (s : TaskState). s.rules) (λ s. refl) t u way) in
      let count = sym (kept (λ (s : TaskState). s.item_count) (λ s. refl) t u way) in
      let row : slice_index_or rows t.partition t.row ≡ u.row = ap (λ p. slice_index_or rows p t.row) name ∙ own-row s.rows table u t.row h.placed is in
      let artifacts : newer left t.partition t.artifacts ≡ u.artifacts = ap (λ p. newer left p t.artifacts) name ∙ own-artifacts s.rows table u t.artifacts h.placed is in
      λ i. record { partition = name i; row = row i; rules = rules i; item_count = count i; artifacts = artifacts i }

  tasks-again : (ts us : List TaskState) → AreOnTheWay ts us → AllByRecursion (IsIn s.rows table) us → tasks_left ts (rows_now s.rows (held_in table)) (artifacts_of (held_in table)) ≡ us
  tasks-again [] [] way all = refl
  tasks-again [] (u ∷ us) way all = absurd way
  tasks-again (t ∷ ts) [] way all = absurd way
  tasks-again (t ∷ ts) (u ∷ us) way all = ap₂ ◌∷◌ (task-again t u way.0 all.0) (tasks-again ts us way.1 all.1)

-- they are those of the table that the plans left
pub left-again : (s : Setup) (rows : List Row) (left : List (ℕ × ArtifactsMeaning)) (ts : List TaskState) (table : Table) → AreOnTheWay ts (held_in table) → IsTaskTable s table → rows ≡ rows_now s.rows (held_in table) → left ≡ artifacts_of (held_in table)
    → tasks_left ts rows left ≡ held_in table
left-again s rows left ts table way h are came_back = ap₂ (tasks_left ts) are came_back ∙ tasks-again s table h ts (held_in table) way (are-in s.rows table h.placed h.unfinished)
