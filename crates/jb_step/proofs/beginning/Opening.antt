-- Rows that are gone through, one by one.
use Rattle.std.proofs.Common.{◌≡◌, ℕ, ◌+◌, ◌≤◌, ◌<◌, List, [], ◌∷◌, ◌++◌, length, drop, get_or, map, append_assoc, append-nil, ap, sym, ◌∙◌, subst}
use Rattle.std.proofs.lemmas.List.{drop_more, at_drop_all, at_drop_more}
use Rattle.std.proofs.lemmas.List.Elements.{All-from_recursion, All-get_or}
use Rattle.std.specs.List.{enumerate_from}
use Rattle.jb_artifacts.specs.Meaning.{ArtifactsMeaning}
use Rattle.jb_chunk.specs.TaskState.{TaskState}
use Rattle.jb_repo.specs.Rows.{remaining}
use Rattle.jb_rules.specs.Rows.{remaining_of}
use Rattle.jb_rules.specs.Sound.{IsSoundRow}
use Rattle.jb_rules.specs.declared.row.Row.{Row}
use Rattle.jb_step.specs.rounds.PlanLaws.{AreTasksOf}
use Rattle.jb_step.specs.preparing.Prepare.{FitRows}
use Rattle.jb_step.specs.preparing.Setup.{Setup, row_now}
use Rattle.jb_step.specs.inside.preparing.Starting.{IsRowBegun, AreBegun, tasks_from, unfinished_from}
use Rattle.jb_step.proofs.plans.Holding.{now-sound}

-- the artifacts for the rows from the i-th on are for that row and those behind it
pub fit-at : (rows : List Row) (i : ℕ) (d : Row) (len : ℕ) (artifacts : List ArtifactsMeaning) → i < length rows → len ≡ i → FitRows (unfinished_from i (drop i rows)) artifacts → (rest : List Row) × FitRows (unfinished_from len (get_or rows i d ∷ rest)) artifacts
fit-at rows i d len artifacts lt e h = (
  drop (i + 1) rows,
  subst (λ (k : ℕ). FitRows (unfinished_from k (get_or rows i d ∷ drop (i + 1) rows)) artifacts) (sym e)
      (subst (λ (rs : List Row). FitRows (unfinished_from i rs) artifacts) (drop_more rows i d lt) h),
)

pub begun-at : (rows : List Row) (i : ℕ) (d : Row) → i < length rows → AreBegun rows → IsRowBegun (get_or rows i d)
begun-at rows i d lt h = All-get_or IsRowBegun rows i d lt (All-from_recursion IsRowBegun rows h)

-- a partition's row is sound now
pub now-sound-at : (s : Setup) (ts : List TaskState) (rows : List Row) (i : ℕ) (d row : Row) → i < length rows → AreBegun rows → AreTasksOf s ts → row ≡ row_now ts i (get_or rows i d) → IsSoundRow row
now-sound-at s ts rows i d row lt begun tasks is = subst IsSoundRow (sym is) (now-sound s ts i (get_or rows i d) tasks (begun-at rows i d lt begun).sound)

-- past the last row there are no more tasks
pub all-started : (s : Setup) (ts all : List TaskState) (rows : List Row) (i : ℕ) (artifacts : List ArtifactsMeaning) → length rows ≤ i → ts ++ tasks_from s i (drop i rows) artifacts ≡ all → ts ≡ all
all-started s ts all rows i artifacts le e = sym (append-nil ts) ∙ (sym (at_drop_all (λ (rs : List Row). ts ++ tasks_from s i rs artifacts) rows i le) ∙ e)

-- a row more has its task, if it needs one
pub record IsOneMore (s : Setup) (rows : List Row) (i long : ℕ) (ts all : List TaskState) (artifacts : List ArtifactsMeaning) : Type 0 where
  pub long_is : long ≡ i + 1
  pub fit : FitRows (unfinished_from (i + 1) (drop (i + 1) rows)) artifacts
  pub so_far : ts ++ tasks_from s (i + 1) (drop (i + 1) rows) artifacts ≡ all

pub one-more : (s : Setup) (rows : List Row) (i : ℕ) (d : Row) (len long : ℕ) (ts more all : List TaskState) (artifacts left : List ArtifactsMeaning)
    → i < length rows → len ≡ i → long ≡ len + 1 → FitRows (unfinished_from i (drop i rows)) artifacts → ts ++ tasks_from s i (drop i rows) artifacts ≡ all
    → ((rest : List Row) → FitRows (unfinished_from len (get_or rows i d ∷ rest)) artifacts → FitRows (unfinished_from (len + 1) rest) left)
    → ((rest : List Row) → FitRows (unfinished_from len (get_or rows i d ∷ rest)) artifacts → more ++ tasks_from s (len + 1) rest left ≡ ts ++ tasks_from s len (get_or rows i d ∷ rest) artifacts)
    → IsOneMore s rows i long more all left
one-more s rows i d len long ts more all artifacts left lt e is fit so_far fits tasks =
    let rest = drop (i + 1) rows in
    let here : FitRows (unfinished_from len (get_or rows i d ∷ rest)) artifacts = subst (λ (k : ℕ). FitRows (unfinished_from k (get_or rows i d ∷ rest)) artifacts) (sym e)
    (subst (λ (rs : List Row). FitRows (unfinished_from i rs) artifacts) (drop_more rows i d lt) fit) in
    record {
      long_is = is ∙ ap (λ (k : ℕ). k + 1) e;
      fit = subst (λ (k : ℕ). FitRows (unfinished_from (k + 1) rest) left) e (fits rest here);
      so_far = subst (λ (k : ℕ). more ++ tasks_from s (k + 1) rest left ≡ ts ++ tasks_from s k (get_or rows i d ∷ rest) artifacts) e (tasks rest here)
          ∙ (sym (at_drop_more (λ (rs : List Row). ts ++ tasks_from s i rs artifacts) rows i d lt) ∙ so_far);
    }

-- a row more is counted
pub count-more : (item_count : ℕ) (f : ℕ × Row → Row) (rows : List Row) (p : ℕ) (d : Row) (counts more all : List ℕ) (n : ℕ) → p < length rows
    → counts ++ remaining item_count (map f (enumerate_from p (drop p rows))) ≡ all → more ≡ counts ++ n ∷ [] → n ≡ remaining_of item_count (f (p, get_or rows p d)) (f (p, get_or rows p d)).state
    → more ++ remaining item_count (map f (enumerate_from (p + 1) (drop (p + 1) rows))) ≡ all
count-more item_count f rows p d counts more all n lt so_far is one =
    let later = remaining item_count (map f (enumerate_from (p + 1) (drop (p + 1) rows))) in
    ap (λ (ns : List ℕ). ns ++ later) is ∙ append_assoc counts (n ∷ []) later ∙ ap (λ (m : ℕ). counts ++ m ∷ later) one
    ∙ sym (at_drop_more (λ (rs : List Row). counts ++ remaining item_count (map f (enumerate_from p rs))) rows p d lt) ∙ so_far

-- past the last row no count is missing
pub all-counted : (item_count : ℕ) (f : ℕ × Row → Row) (rows : List Row) (p : ℕ) (counts all : List ℕ) → length rows ≤ p → counts ++ remaining item_count (map f (enumerate_from p (drop p rows))) ≡ all → counts ≡ all
all-counted item_count f rows p counts all le e =
    sym (append-nil counts) ∙ (sym (at_drop_all (λ (rs : List Row). counts ++ remaining item_count (map f (enumerate_from p rs))) rows p le) ∙ e)
