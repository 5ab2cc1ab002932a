-- The unfinished partitions: their rows, and the records of their ranges.
use Rattle.std.proofs.Common.{◌≡◌, ℕ, zero, suc, ◌+◌, ◌<◌, List, [], ◌∷◌, ◌++◌, drop, length, map, get_or, slice_get, Some, None, ap, sym, subst, ◌∙◌, arith, append_assoc}
use Rattle.std.specs.Prelude.{All}
use Rattle.std.specs.List.{enumerate_from}
use Rattle.std.proofs.lemmas.List.{drop_more, get_or-map, length-map, map-append}
use Rattle.std.proofs.lemmas.List.Elements.{All-filter}
use Rattle.std.proofs.lemmas.List.FromFn.{get_or-enumerate_from, length-enumerate_from}
use Rattle.std.proofs.lemmas.Option.{get_or_from_slice_get, slice_get-get_or, slice_get_within}
use Rattle.jb_artifacts.specs.Meaning.{ArtifactsMeaning}
use Rattle.jb_plan.specs.Plans.{IsWithin}
use Rattle.jb_rules.specs.Rows.{range_of}
use Rattle.jb_rules.specs.declared.row.Row.{Row}
use Rattle.jb_step.specs.preparing.Setup.{needs, unfinished}
use Rattle.jb_program.specs.declared.run.settings.StepSettings.{StepSettings}
use Rattle.jb_program.specs.PartitionRun.{opening_artifacts_for}

-- the row of an unfinished one is the step's, and its records are there
pub record Stands (rows : List Row) (records : ℕ) (n : ℕ × Row) : Type 0 where
  pub row : slice_get rows n.0 ≡ Some n.1
  pub within : IsWithin records (range_of n.1)

all-stand : (rows : List Row) (records : ℕ) → All (IsWithin records) (map range_of rows) → All (Stands rows records) (enumerate_from 0 rows)
all-stand rows records within k d before =
    let inside : k < length rows = omega (arith, length-enumerate_from 0 rows, before) in
    let none : 0 + k ≡ k = omega arith in
    let here : get_or (enumerate_from 0 rows) k d ≡ (k, get_or rows k d.1) = get_or-enumerate_from 0 rows k d inside ∙ ap (λ i. (i, get_or rows k d.1)) none in
    let counted : k < length (map range_of rows) = rw (length-map rows range_of) inside in
    let own : Stands rows records (k, get_or rows k d.1) = record {
      row = slice_get-get_or rows k d.1 inside;
      within = subst (IsWithin records) (get_or-map range_of rows k d.1 (range_of d.1) inside) (within k (range_of d.1) counted);
    } in
    subst (Stands rows records) (sym here) own

pub unfinished-stand : (rows : List Row) (records : ℕ) → All (IsWithin records) (map range_of rows) → All (Stands rows records) (unfinished rows)
unfinished-stand rows records within = All-filter _ (Stands rows records) (enumerate_from 0 rows) (all-stand rows records within)

-- ---- the unfinished partitions, one after another

at-place : (ns : List (ℕ × Row)) (k p : ℕ) → slice_get (map (λ n. n.0) ns) k ≡ Some p → (row : Row) × (slice_get ns k ≡ Some (p, row))
at-place [] k p h = absurd (cc h)
at-place (n ∷ ns) zero p h = let same : n.0 ≡ p = cc in (n.1, ap (λ q. Some (q, n.1)) same)
at-place (n ∷ ns) (suc k) p h = at-place ns k p h

-- the one at this place: its row is the step's, and its records are there
pub record IsNext (rows : List Row) (records k p : ℕ) (row : Row) : Type 0 where
  pub place : slice_get (unfinished rows) k ≡ Some (p, row)
  pub stands : Stands rows records (p, row)

-- a partition read from the list of the unfinished
pub listed-at : (ps qs : List ℕ) (k d : ℕ) → k < length qs → ps ≡ qs → slice_get qs k ≡ Some (get_or ps k d)
listed-at ps qs k d below same = slice_get-get_or qs k d below ∙ ap (λ list. Some (get_or list k d)) (sym same)

next-one : (rows : List Row) (records k p : ℕ) → All (IsWithin records) (map range_of rows) → slice_get (needs rows) k ≡ Some p → (row : Row) × IsNext rows records k p row
next-one rows records k p within h =
    let at = at-place (unfinished rows) k p h in
    let n : ℕ × Row = (p, at.0) in
    let inside : k < length (unfinished rows) = slice_get_within (unfinished rows) k n at.1 in
    let here : get_or (unfinished rows) k n ≡ n = get_or_from_slice_get (unfinished rows) k n n at.1 in
    (at.0, record { place = at.1; stands = subst (Stands rows records) here (unfinished-stand rows records within k n inside) })

pub no-row : (rows : List Row) (records k p : ℕ) → All (IsWithin records) (map range_of rows) → slice_get (needs rows) k ≡ Some p → slice_get rows p ≡ None → ⊥
no-row rows records k p within h none = let known = (next-one rows records k p within h).1.stands.row in cc

pub next-row : (rows : List Row) (records k p : ℕ) (row : Row) → All (IsWithin records) (map range_of rows) → slice_get (needs rows) k ≡ Some p → slice_get rows p ≡ Some row → IsNext rows records k p row
next-row rows records k p row within h is =
    let next = next-one rows records k p within h in
    let known : slice_get rows p ≡ Some next.0 = next.1.stands.row in
    let same : next.0 ≡ row = cc in
    subst (IsNext rows records k p) same next.1

-- what the partition at this place works with, and the later ones
pub artifacts-more : (settings : StepSettings) (outputs : List (List (List ℕ))) (rows : List Row) (records : List (List ℕ)) (k p : ℕ) (row : Row) → IsNext rows (length records) k p row
    → map (opening_artifacts_for settings records outputs) (drop k (unfinished rows)) ≡ opening_artifacts_for settings records outputs (p, row) ∷ map (opening_artifacts_for settings records outputs) (drop (k + 1) (unfinished rows))
artifacts-more settings outputs rows records k p row next =
    let ns = unfinished rows in
    let n : ℕ × Row = (p, row) in
    let inside : k < length ns = slice_get_within ns k n next.place in
    let here : get_or ns k n ≡ n = get_or_from_slice_get ns k n n next.place in
    ap (map (opening_artifacts_for settings records outputs)) (drop_more ns k n inside ∙ ap (λ m. m ∷ drop (k + 1) ns) here)

-- one partition's artifacts more, before those of the later ones
pub artifacts-added : {A : Type 0} (artifacts : A → ArtifactsMeaning) (all pushed : List A) (own : A) (rest whole : List ArtifactsMeaning) → pushed ≡ all ++ own ∷ [] → whole ≡ artifacts own ∷ rest
    → map artifacts pushed ++ rest ≡ map artifacts all ++ whole
artifacts-added artifacts all pushed own rest whole adds is =
    ap (λ list. map artifacts list ++ rest) adds ∙ ap (λ ws. ws ++ rest) (map-append artifacts all (own ∷ [])) ∙ append_assoc (map artifacts all) (artifacts own ∷ []) rest ∙ ap (λ ws. map artifacts all ++ ws) (sym is)
