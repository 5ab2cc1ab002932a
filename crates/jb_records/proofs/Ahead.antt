-- Attempts lead a row ahead, and never back.
use Rattle.std.proofs.Common.{◌≡◌, ℕ, ◌+◌, ◌≤◌, Bool, true, false, cond, List, [], ◌∷◌, map, refl, ap, sym, subst, ◌∙◌, arith}
use Rattle.std.specs.Prelude.{◌==◌, nat_eq}
use Rattle.std.specs.List.{enumerate_from}
use Rattle.jb_base.specs.Pairwise.{Pairwise}
use Rattle.jb_rules.specs.declared.row.Row.{Row}
use Rattle.jb_rules.specs.declared.row.RowState.TheVariants as state
use Rattle.jb_rules.specs.States.{is_running}
use Rattle.jb_chunk.specs.declared.outcome.Outcome.{Outcome}
use Rattle.jb_chunk.specs.declared.outcome.Outcome.TheVariants.{Committed, Rolled, Failed, NoMemory}
use Rattle.jb_chunk.specs.Alone.{IsOnTheWay, IsRunOf}
use Rattle.jb_chunk.specs.Attempt.{AttemptEnd, again_of, block_of, end_of, ending_by}
use Rattle.jb_chunk.specs.Laws.{RepeatsAreRetries, TasksStandAtCheckpoints, WaysJoin}
use Rattle.jb_chunk.specs.TaskState.{IsReady, TaskState}
use Rattle.jb_step.specs.Alone.{AreOnTheWay}
use Rattle.jb_step.specs.rounds.PlanLaws.{AreTasksOf}
use Rattle.jb_step.specs.preparing.Setup.{Setup, row_now}
use Rattle.jb_records.specs.Runs.{PartsStay}
use Rattle.jb_records.proofs.Going.{repeated-task, same-task, way-on}

-- the same range, from a checkpoint on, and no lane runs it if none did
pub record IsAhead (row other : Row) : Type 0 where
  pub lo : other.lo ≡ row.lo
  pub hi : other.hi ≡ row.hi
  pub at : row.at ≤ other.at
  pub still : is_running row.state ≡ false → is_running other.state ≡ false

ahead-same : (row : Row) → IsAhead row row
ahead-same row = record { lo = refl; hi = refl; at = omega arith; still = λ e. e }

ahead-join : (a b c : Row) → IsAhead a b → IsAhead b c → IsAhead a c
ahead-join a b c first later =
    let one = first.at in
    let two = later.at in
    record { lo = later.lo ∙ first.lo; hi = later.hi ∙ first.hi; at = omega (arith, one, two); still = λ e. later.still (first.still e) }

-- ---- A PARTITION

ended-still : (b : Bool) → is_running (cond b state.Finished state.Waiting) ≡ false
ended-still true = refl
ended-still false = refl

attempt-ahead : (t : TaskState) (again : ℕ) (e : Outcome) → t.row.at ≤ (block_of t).hi → IsAhead t.row (ending_by t again e).task.row
attempt-ahead t again (Committed delta) le = record { lo = refl; hi = refl; at = le; still = λ _. ended-still ((block_of t).hi == t.row.hi) }
attempt-ahead t again (Rolled class) le = record { lo = refl; hi = refl; at = omega arith; still = λ e. e }
attempt-ahead t again (Failed class) le = record { lo = refl; hi = refl; at = omega arith; still = λ e. refl }
attempt-ahead t again NoMemory le = record { lo = refl; hi = refl; at = omega arith; still = λ e. e }

repeats-ahead : (t : TaskState) → IsAhead t.row (repeated-task t).row
repeats-ahead t = record { lo = refl; hi = refl; at = omega arith; still = λ e. e }

run-ahead : TasksStandAtCheckpoints → WaysJoin → RepeatsAreRetries → (start : TaskState) → IsReady start
    → (es : List AttemptEnd) (t s : TaskState) → IsOnTheWay start t → IsRunOf t es s → IsAhead t.row s.row
run-ahead stand join law start ready [] t s way run = subst (λ (x : TaskState). IsAhead t.row x.row) (sym run) (ahead-same t.row)
run-ahead stand join law start ready (e ∷ es) t s way run =
    let waiting = run.0 in
    let on = way-on join start t e.task e way waiting run.1 refl in
    let again = again_of t in
    let u = repeated-task t in
    let is : e ≡ ending_by u again (end_of u) = run.1 ∙ ap (λ (x : TaskState). ending_by x again (end_of x)) (same-task law t) in
    let block = ((stand start t ready way).chunk waiting).0 in
    let end = ending_by u again (end_of u) in
    let once = ahead-join t.row u.row end.task.row (repeats-ahead t) (attempt-ahead u again (end_of u) (omega (arith, block))) in
    ahead-join t.row e.task.row s.row (subst (λ (x : AttemptEnd). IsAhead t.row x.task.row) (sym is) once) (run-ahead stand join law start ready es e.task s on run.2)

abbrev pub GoAhead : Type 0
GoAhead = (t s : TaskState) → IsReady t → IsOnTheWay t s → IsAhead t.row s.row

pub go-ahead : TasksStandAtCheckpoints → WaysJoin → RepeatsAreRetries → GoAhead
go-ahead stand join law t s ready way = run-ahead stand join law t ready way.attempts t s (record { attempts = []; run = refl }) way.run

-- ---- ALL PARTITIONS

ahead-by : (b : Bool) (first now row other : Row) → IsAhead first now → IsAhead row other → IsAhead (cond b first row) (cond b now other)
ahead-by true first now row other is others = is
ahead-by false first now row other is others = others

row-ahead : GoAhead → PartsStay → (s : Setup) (ts now : List TaskState) (p : ℕ) (row : Row) → AreTasksOf s ts → AreOnTheWay ts now → IsAhead (row_now ts p row) (row_now now p row)
row-ahead go law s [] [] p row ready ways = ahead-same row
row-ahead go law s [] (x ∷ xs) p row ready ways = absurd ways
row-ahead go law s (t ∷ ts) [] p row ready ways = absurd ways
row-ahead go law s (t ∷ ts) (x ∷ xs) p row ready ways =
    let same = law t x ways.0 in
    let others = row-ahead go law s ts xs p row ready.1 ways.1 in
    let now = ahead-by (nat_eq t.partition p) t.row x.row (row_now ts p row) (row_now xs p row) (go t x ready.0.0 ways.0) others in
    subst (λ q. IsAhead (cond (nat_eq t.partition p) t.row (row_now ts p row)) (cond (nat_eq q p) x.row (row_now xs p row))) (sym same.partition) now

pub rows-ahead : GoAhead → PartsStay → (s : Setup) (ts now : List TaskState) (k : ℕ) (rows : List Row) → AreTasksOf s ts → AreOnTheWay ts now
    → Pairwise IsAhead (map (λ n. row_now ts n.0 n.1) (enumerate_from k rows)) (map (λ n. row_now now n.0 n.1) (enumerate_from k rows))
rows-ahead go law s ts now k [] ready ways = tt
rows-ahead go law s ts now k (row ∷ rows) ready ways = (row-ahead go law s ts now k row ready ways, rows-ahead go law s ts now (k + 1) rows ready ways)
