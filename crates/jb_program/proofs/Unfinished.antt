-- The partitions of a step that are to be run, and that what they work with serves their rows.
use Rattle.std.proofs.Common.{◌≡◌, ℕ, ◌+◌, ◌<◌, Bool, true, false, cond, not, List, [], ◌∷◌, length, map, ap, arith}
use Rattle.std.specs.Prelude.{filter}
use Rattle.std.specs.List.{enumerate_from, AllByRecursion}
use Rattle.jb_rules.specs.Rows.{range_of}
use Rattle.jb_rules.specs.States.{is_finished}
use Rattle.jb_rules.specs.declared.row.Row.{Row}
use Rattle.jb_artifacts.specs.Meaning.{Fits, ArtifactsMeaning}
use Rattle.jb_step.specs.preparing.Prepare.{FitRows}
use Rattle.jb_program.specs.declared.run.settings.StepSettings.{StepSettings}
use Rattle.jb_program.specs.PartitionRun.{opening_artifacts_for}
use Rattle.jb_program.proofs.Opening.{AreOpening, IsOpening, counted}

abbrev pub is_open : ℕ × Row → Bool
is_open n = not (is_finished n.1.state)

-- the unfinished of these partitions, the first of which has the number k
abbrev pub open_from : ℕ → List Row → List (ℕ × Row)
open_from k rows = filter is_open (enumerate_from k rows)

pub open-none : (k : ℕ) (row : Row) (rows : List Row) → is_finished row.state ≡ true → open_from k (row ∷ rows) ≡ open_from (k + 1) rows
open-none k row rows e = ap (λ b. cond (not b) ((k, row) ∷ open_from (k + 1) rows) (open_from (k + 1) rows)) e

pub open-more : (k : ℕ) (row : Row) (rows : List Row) → is_finished row.state ≡ false → open_from k (row ∷ rows) ≡ (k, row) ∷ open_from (k + 1) rows
open-more k row rows e = ap (λ b. cond (not b) ((k, row) ∷ open_from (k + 1) rows) (open_from (k + 1) rows)) e

above-one : (b : Bool) (j : ℕ) (n : ℕ × Row) (ns : List (ℕ × Row)) → j < n.0 → AllByRecursion (λ (m : ℕ × Row). j < m.0) ns → AllByRecursion (λ (m : ℕ × Row). j < m.0) (cond b (n ∷ ns) ns)
above-one true j n ns here rest = (here, rest)
above-one false j n ns here rest = rest

-- their numbers are those of the rows
pub open-above : (j k : ℕ) (rows : List Row) → j < k → AllByRecursion (λ (m : ℕ × Row). j < m.0) (open_from k rows)
open-above j k [] below = tt
open-above j k (row ∷ rows) below = above-one (is_open (k, row)) j (k, row) (open_from (k + 1) rows) below (open-above j (k + 1) rows (omega (arith, below)))

-- what a partition works with serves its row
pub fits-row : (settings : StepSettings) (records : List (List ℕ)) (outputs : List (List (List ℕ))) (k : ℕ) (row : Row) → IsOpening (length records) outputs k row → Fits (opening_artifacts_for settings records outputs (k, row)) row
fits-row settings records outputs k row is =
    let order = is.within.0 in
    let long = counted records (range_of row) is.within in
    record {
      from = omega arith;
      to = omega (arith, order, long);
      count = is.served;
    }

fits-one : (b : Bool) (artifacts : ℕ × Row → ArtifactsMeaning) (n : ℕ × Row) (ns : List (ℕ × Row)) → Fits (artifacts n) n.1 → FitRows ns (map artifacts ns) → FitRows (cond b (n ∷ ns) ns) (map artifacts (cond b (n ∷ ns) ns))
fits-one true artifacts n ns here rest = (here, rest)
fits-one false artifacts n ns here rest = rest

pub artifacts-fit : (settings : StepSettings) (records : List (List ℕ)) (outputs : List (List (List ℕ))) (k : ℕ) (rows : List Row) → AreOpening (length records) outputs k rows
    → FitRows (open_from k rows) (map (opening_artifacts_for settings records outputs) (open_from k rows))
artifacts-fit settings records outputs k [] are = tt
artifacts-fit settings records outputs k (row ∷ rows) are =
    fits-one (is_open (k, row)) (opening_artifacts_for settings records outputs) (k, row) (open_from (k + 1) rows)
    (fits-row settings records outputs k row are.0) (artifacts-fit settings records outputs (k + 1) rows are.1)
