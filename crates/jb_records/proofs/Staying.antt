-- The rows of finished partitions stay, whatever comes back of the others.
use Rattle.std.proofs.Common.{◌≡◌, ℕ, ◌+◌, ◌≤◌, ◌<◌, Bool, true, false, not, cond, List, [], ◌∷◌, map, refl, ap, ap₂, sym, subst, ◌∙◌, arith}
use Rattle.std.specs.Prelude.{nat_eq}
use Rattle.std.specs.List.{AllByRecursion, enumerate_from}
use Rattle.std.proofs.lemmas.Bool.Decides.{nat_tests}
use Rattle.jb_base.specs.Pairwise.{Pairwise}
use Rattle.jb_rules.specs.declared.row.Row.{Row}
use Rattle.jb_rules.specs.States.{is_finished}
use Rattle.jb_chunk.specs.TaskState.{TaskState}
use Rattle.jb_step.specs.Alone.{AreOnTheWay}
use Rattle.jb_step.specs.Answers.{artifacts_of}
use Rattle.jb_step.specs.preparing.Setup.{row_now}
use Rattle.jb_records.specs.Runs.{PartsStay}
use Rattle.jb_records.specs.Intervals.{numbers_in}
use Rattle.jb_records.proofs.Steps.{left-of}

-- ---- THE NUMBERS OF THE UNFINISHED PARTITIONS

abbrev pub left-numbers : ℕ → List Row → List ℕ
left-numbers k rows = map (λ n. n.0) (left-of (enumerate_from k rows))

abbrev pub AreFrom : ℕ → List ℕ → Type 0
AreFrom k ns = AllByRecursion (λ n. k ≤ n) ns

from-one : (k j : ℕ) (row : Row) (ns : List (ℕ × Row)) (b : Bool) → k ≤ j → AreFrom k (map (λ n. n.0) ns) → AreFrom k (map (λ n. n.0) (cond b ((j, row) ∷ ns) ns))
from-one k j row ns true le are = (le, are)
from-one k j row ns false le are = are

-- they are no less than the first number
pub numbers-from : (k j : ℕ) (rows : List Row) → k ≤ j → AreFrom k (left-numbers j rows)
numbers-from k j [] le = tt
numbers-from k j (row ∷ rows) le = from-one k j row (left-of (enumerate_from (j + 1) rows)) (not (is_finished row.state)) le (numbers-from k (j + 1) rows (omega (arith, le)))

abbrev pub partitions-of : List TaskState → List ℕ
partitions-of ts = map (λ t. t.partition) ts

-- the same partitions come back
pub same-partitions : PartsStay → (ts now : List TaskState) → AreOnTheWay ts now → partitions-of now ≡ partitions-of ts
same-partitions law [] [] ways = refl
same-partitions law [] (x ∷ xs) ways = absurd ways
same-partitions law (t ∷ ts) [] ways = absurd ways
same-partitions law (t ∷ ts) (x ∷ xs) ways = ap₂ (λ (n : ℕ) (ns : List ℕ). n ∷ ns) (law t x ways.0).partition (same-partitions law ts xs ways.1)

pub numbers-left : (ts : List TaskState) → numbers_in (artifacts_of ts) ≡ partitions-of ts
numbers-left [] = refl
numbers-left (t ∷ ts) = ap (λ (ns : List ℕ). t.partition ∷ ns) (numbers-left ts)

-- ---- A ROW WITHOUT A TASK

pub head-is : (n m : ℕ) (ns ms : List ℕ) → n ∷ ns ≡ m ∷ ms → n ≡ m
head-is n m ns ms e = cc

pub tail-is : (n m : ℕ) (ns ms : List ℕ) → n ∷ ns ≡ m ∷ ms → ns ≡ ms
tail-is n m ns ms e = cc

none-there : (ts : List TaskState) (p : ℕ) (row : Row) → AreFrom (p + 1) (partitions-of ts) → row_now ts p row ≡ row
none-there [] p row above = refl
none-there (t ∷ ts) p row above =
    let le = above.0 in
    let other : nat_eq t.partition p ≡ false = grind (arith, nat_tests) in
    ap (λ (b : Bool). cond b t.row (row_now ts p row)) other ∙ none-there ts p row above.1

-- a task of an earlier partition
later-rows : (t : TaskState) (ts : List TaskState) (k : ℕ) (rows : List Row) → t.partition < k
    → map (λ n. row_now (t ∷ ts) n.0 n.1) (enumerate_from k rows) ≡ map (λ n. row_now ts n.0 n.1) (enumerate_from k rows)
later-rows t ts k [] lt = refl
later-rows t ts k (row ∷ rows) lt =
    let other : nat_eq t.partition k ≡ false = grind (arith, nat_tests) in
    ap₂ (λ (b : Bool) (rest : List Row). cond b t.row (row_now ts k row) ∷ rest) other (later-rows t ts (k + 1) rows (omega (arith, lt)))

abbrev pub Stays : Row → Row → Type 0
Stays row now = is_finished row.state ≡ true → now ≡ row

abbrev now-from : List TaskState → ℕ → List Row → List Row
now-from ts k rows = map (λ n. row_now ts n.0 n.1) (enumerate_from k rows)

never : true ≡ false → ⊥
never e = cc

stay-by : (b : Bool) (ts : List TaskState) (k : ℕ) (row : Row) (rows : List Row) → is_finished row.state ≡ b
    → partitions-of ts ≡ map (λ n. n.0) (cond (not b) ((k, row) ∷ left-of (enumerate_from (k + 1) rows)) (left-of (enumerate_from (k + 1) rows)))
    → ((us : List TaskState) → partitions-of us ≡ left-numbers (k + 1) rows → Pairwise Stays rows (now-from us (k + 1) rows))
    → Pairwise Stays (row ∷ rows) (now-from ts k (row ∷ rows))
stay-by true ts k row rows is named more =
    (λ _. none-there ts k row (subst (AreFrom (k + 1)) (sym named) (numbers-from (k + 1) (k + 1) rows (omega arith))), more ts named)
stay-by false [] k row rows is named more = let none : ⊥ = cc in absurd none
stay-by false (t ∷ ts) k row rows is named more =
    let here = head-is t.partition k (partitions-of ts) (left-numbers (k + 1) rows) named in
    let others = tail-is t.partition k (partitions-of ts) (left-numbers (k + 1) rows) named in
    (λ finished. absurd (never (sym finished ∙ is)), subst (Pairwise Stays rows) (sym (later-rows t ts (k + 1) rows (omega (arith, here)))) (more ts others))

pub rows-stay : (ts : List TaskState) (k : ℕ) (rows : List Row) → partitions-of ts ≡ left-numbers k rows → Pairwise Stays rows (map (λ n. row_now ts n.0 n.1) (enumerate_from k rows))
rows-stay ts k [] named = tt
rows-stay ts k (row ∷ rows) named = stay-by (is_finished row.state) ts k row rows refl named (λ us is. rows-stay us (k + 1) rows is)
