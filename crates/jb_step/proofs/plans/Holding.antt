-- The tables that a step holds.
use Rattle.std.proofs.Common.{◌≡◌, ℕ, suc, zero, ◌+◌, ◌≤◌, true, false, cond, List, [], ◌∷◌, length, take, map, Option, Some, None, refl, ap, ap₂, sym, subst, arith, length-take}
use Rattle.std.specs.Prelude.{nat_eq, filter, slice_get}
use Rattle.std.specs.List.{enumerate_from, zip, AllByRecursion}
use Rattle.jb_rules.specs.declared.row.Row.{Row}
use Rattle.jb_rules.specs.Sound.{IsSoundRow}
use Rattle.jb_base.specs.Limits.{max_retry_limit}
use Rattle.jb_artifacts.specs.Meaning.{ArtifactsMeaning, Fits}
use Rattle.jb_chunk.specs.TaskState.{TaskState, IsReady, HasItemCount, started}
use Rattle.jb_step.specs.rounds.PlanLaws.{AreTasksOf, BeginsWithTable, BeginsWithTasks, PartitionsStay}
use Rattle.jb_step.specs.preparing.Prepare.{FitRows}
use Rattle.jb_step.specs.preparing.Setup.{Setup, IsSetup, first_tasks, row_now, unfinished}
use Rattle.jb_step.specs.inside.rounds.Round.{partitions_of}
use Rattle.jb_step.specs.inside.preparing.Starting.{IsRowBegun, AreBegun}
use Rattle.jb_step.proofs.table.Filters.{filter-all}
use Rattle.jb_step.proofs.table.Held.{stays}
use Rattle.jb_step.proofs.table.Putting.{are-put, is_open}

-- THE FIRST TASKS

abbrev pub first_from : Setup → List (ℕ × Row) → List ArtifactsMeaning → List TaskState
first_from s ns artifacts = map (λ n. started n.0.0 n.0.1 s.rules s.item_count n.1) (zip ns artifacts)

pub first-names : (s : Setup) (ns : List (ℕ × Row)) (artifacts : List ArtifactsMeaning) → FitRows ns artifacts → partitions_of (first_from s ns artifacts) ≡ map (λ (n : ℕ × Row). n.0) ns
first-names s [] [] fits = refl
first-names s [] (w ∷ ws) fits = absurd fits
first-names s (n ∷ ns) [] fits = absurd fits
first-names s (n ∷ ns) (w ∷ ws) fits = ap (λ ms. n.0 ∷ ms) (first-names s ns ws fits.1)

ready-first : (s : Setup) (n : ℕ × Row) (w : ArtifactsMeaning) → IsSoundRow n.1 → HasItemCount s.item_count → s.rules.retry_limit ≤ max_retry_limit → Fits w n.1 → IsReady (started n.0 n.1 s.rules s.item_count w)
ready-first s n w sound count retried fits =
    let few = fits.count in
    let cut : length (take n.1.written w.writer.written) ≡ n.1.written = omega (arith, few, length-take n.1.written w.writer.written) in
    record {
      sound = sound;
      item_counted = count;
      retried = retried;
      fits = record { from = fits.from; to = fits.to; count = omega (arith, cut) };
      place = refl;
      count = cut;
    }

first-ready : (s : Setup) (ns : List (ℕ × Row)) (artifacts : List ArtifactsMeaning) → AllByRecursion (λ (n : ℕ × Row). IsSoundRow n.1) ns → HasItemCount s.item_count → s.rules.retry_limit ≤ max_retry_limit → FitRows ns artifacts → AreTasksOf s (first_from s ns artifacts)
first-ready s [] [] sound count retried fits = tt
first-ready s [] (w ∷ ws) sound count retried fits = absurd fits
first-ready s (n ∷ ns) [] sound count retried fits = absurd fits
first-ready s (n ∷ ns) (w ∷ ws) sound count retried fits = ((ready-first s n w sound.0 count retried fits.0, refl), first-ready s ns ws sound.1 count retried fits.1)

-- what is so of each row is so of all, and of the unfinished ones with their numbers
all-rows : (P : Row → Type 0) (rows : List Row) → ((i : ℕ) (row : Row) → slice_get rows i ≡ Some row → P row) → AllByRecursion P rows
all-rows P [] h = tt
all-rows P (row ∷ rows) h = (h zero row refl, all-rows P rows (λ i r e. h (suc i) r e))

pub all-unfinished : (P : Row → Type 0) (k : ℕ) (rows : List Row) → ((i : ℕ) (row : Row) → slice_get rows i ≡ Some row → P row) → AllByRecursion (λ (n : ℕ × Row). P n.1) (filter is_open (enumerate_from k rows))
all-unfinished P k rows h = filter-all (λ (n : ℕ × Row). P n.1) is_open (enumerate_from k rows) (listed k rows (all-rows P rows h))
  where
    listed : (k : ℕ) (rows : List Row) → AllByRecursion P rows → AllByRecursion (λ (n : ℕ × Row). P n.1) (enumerate_from k rows)
    listed k [] h = tt
    listed k (row ∷ rows) h = (h.0, listed (k + 1) rows h.1)

-- the prepared rows, one by one
pub all-begun : (s : Setup) → IsSetup s → AreBegun s.rows
all-begun s setup = all-rows IsRowBegun s.rows (λ p row e. record { sound = (setup.openable.idle p row e).0; begun = setup.begun p row e })

pub begins_with_tasks : BeginsWithTasks
begins_with_tasks s artifacts setup fits = record {
  tasks = first-ready s (unfinished s.rows) artifacts
      (all-unfinished IsSoundRow 0 s.rows (λ i row e. (setup.openable.idle i row e).0))
      (record { some = setup.openable.some_items; few = setup.openable.few_items })
      setup.retried fits;
  partitions = first-names s (unfinished s.rows) artifacts fits;
}

-- THE FIRST TABLE

pub begins_with_table : BeginsWithTable
begins_with_table s artifacts setup fits =
    let first = begins_with_tasks s artifacts setup fits in
    let put = are-put s.rows (first_tasks s artifacts) first.partitions in
    (record { tasks = subst (AreTasksOf s) (sym put.held) first.tasks; placed = put.placed; unfinished = put.unfinished }, put.held)

pub partitions_stay : PartitionsStay
partitions_stay set [] = refl
partitions_stay set (None ∷ table) = ap (λ (os : List (Option ℕ)). None ∷ os) (partitions_stay set table)
partitions_stay set (Some t ∷ table) = ap₂ (λ (p : ℕ) (os : List (Option ℕ)). Some p ∷ os) (stays set t) (partitions_stay set table)

-- THE ROWS NOW

pub now-sound : (s : Setup) (ts : List TaskState) (p : ℕ) (row : Row) → AreTasksOf s ts → IsSoundRow row → IsSoundRow (row_now ts p row)
now-sound s [] p row tasks sound = sound
now-sound s (t ∷ ts) p row tasks sound =
    elim (nat_eq t.partition p) as (λ b. IsSoundRow (cond b t.row (row_now ts p row))) [ true ↦ tasks.0.0.sound | false ↦ now-sound s ts p row tasks.1 sound ]
