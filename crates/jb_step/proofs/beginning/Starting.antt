-- The first table has the prepared rows.
use Rattle.std.proofs.Common.{◌≡◌, ℕ, suc, zero, ◌+◌, List, [], ◌∷◌, Some, None, refl, ap, ap₂, sym, ◌∙◌, subst, arith}
use Rattle.std.specs.Prelude.{slice_get}
use Rattle.std.specs.List.{enumerate_from, AllByRecursion}
use Rattle.jb_rules.specs.declared.row.Row.{Row}
use Rattle.jb_artifacts.specs.Meaning.{ArtifactsMeaning}
use Rattle.jb_chunk.specs.TaskState.{TaskState}
use Rattle.jb_step.specs.rounds.PlanLaws.{BeginsWithRows}
use Rattle.jb_step.specs.Tables.{Table, held_in, in_places, held_at}
use Rattle.jb_step.specs.preparing.Setup.{Setup, first_tasks, rows_now, unfinished}
use Rattle.jb_step.proofs.table.Filters.{filter-all}
use Rattle.jb_step.proofs.table.Held.{member, named}
use Rattle.jb_step.proofs.table.Rows.{rows-are, rows_in}
use Rattle.jb_step.proofs.table.Putting.{are-put, is_open}
use Rattle.jb_step.proofs.plans.Holding.{first-names, first_from}

abbrev pub IsRowAt : List Row → ℕ × Row → Type 0
IsRowAt rows n = slice_get rows n.0 ≡ Some n.1

pub listed : (all : List Row) (k : ℕ) (rows : List Row) → ((i : ℕ) (row : Row) → slice_get rows i ≡ Some row → slice_get all (k + i) ≡ Some row) → AllByRecursion (IsRowAt all) (enumerate_from k rows)
listed all k [] h = tt
listed all k (row ∷ rows) h = (
  (let e : k + 0 ≡ k = omega arith in subst (λ m. slice_get all m ≡ Some row) e (h zero row refl)),
  listed all (k + 1) rows (λ i r get. let e : k + suc i ≡ (k + 1) + i = omega arith in subst (λ m. slice_get all m ≡ Some r) e (h (suc i) r get)),
)

tasks-listed : (s : Setup) (rows : List Row) (ns : List (ℕ × Row)) (artifacts : List ArtifactsMeaning) → AllByRecursion (IsRowAt rows) ns → AllByRecursion (λ (t : TaskState). slice_get rows t.partition ≡ Some t.row) (first_from s ns artifacts)
tasks-listed s rows [] artifacts all = tt
tasks-listed s rows (n ∷ ns) [] all = tt
tasks-listed s rows (n ∷ ns) (w ∷ ws) all = (all.0, tasks-listed s rows ns ws all.1)

same-row : (rows : List Row) (p : ℕ) (row other : Row) → slice_get rows p ≡ Some row → slice_get rows p ≡ Some other → row ≡ other
same-row rows p row other a b = cc

in-same : (rows : List Row) (table : Table) → ((p : ℕ) (row : Row) (t : TaskState) → slice_get rows p ≡ Some row → held_at table p ≡ Some t → t.row ≡ row) → rows_in rows table ≡ rows
in-same [] table h = refl
in-same (row ∷ rows) [] h = refl
in-same (row ∷ rows) (None ∷ table) h = ap (λ (rs : List Row). row ∷ rs) (in-same rows table (λ p. h (suc p)))
in-same (row ∷ rows) (Some t ∷ table) h = ap₂ ◌∷◌ (h zero row t refl refl) (in-same rows table (λ p. h (suc p)))

pub begins_with_rows : BeginsWithRows
begins_with_rows s artifacts fits =
    let rows = s.rows in
    let ts = first_tasks s artifacts in
    let table = in_places rows ts in
    let put = are-put rows ts (first-names s (unfinished rows) artifacts fits) in
    let all = tasks-listed s rows (unfinished rows) artifacts (filter-all (IsRowAt rows) is_open (enumerate_from 0 rows)
    (listed rows 0 rows (λ i row get. let e : i ≡ 0 + i = omega arith in subst (λ m. slice_get rows m ≡ Some row) e get))) in
    let own : AllByRecursion (λ (t : TaskState). slice_get rows t.partition ≡ Some t.row) (held_in table) = subst (AllByRecursion (λ (t : TaskState). slice_get rows t.partition ≡ Some t.row)) (sym put.held) all in
    ap (rows_now rows) (sym put.held)
    ∙ rows-are rows table put.placed
    ∙ in-same rows table (λ p row t get is.
    same-row rows p t.row row (subst (λ q. slice_get rows q ≡ Some t.row) (named table p t put.placed is) (member (λ (u : TaskState). slice_get rows u.partition ≡ Some u.row) table p t own is)) get)
