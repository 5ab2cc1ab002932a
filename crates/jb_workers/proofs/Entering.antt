-- An attempt's event takes the row to the attempt's own.
use Rattle.std.proofs.Common.{◌≡◌, ℕ, refl, ap, sym, ◌∙◌, subst}
use Rattle.jb_rules.specs.declared.row.Row.{Row}
use Rattle.jb_rules.specs.declared.row.RowState.TheVariants.{Waiting}
use Rattle.jb_rules.specs.Rows.{row_block, begun_row, repeated_row, committed_row, rolled_row, failed_row, dropped_row}
use Rattle.jb_chunk.specs.declared.outcome.Outcome.{Outcome}
use Rattle.jb_chunk.specs.declared.outcome.Outcome.TheVariants.{Committed, Rolled, Failed, NoMemory}
use Rattle.jb_chunk.specs.TaskState.{TaskState}
use Rattle.jb_chunk.specs.Attempt.{AttemptEnd, IsAttemptBy, attempt_of, ending_by, end_of, after_repeats, again_of}
use Rattle.jb_chunk.specs.Laws.{RepeatsAreRetries}
use Rattle.jb_repo.specs.Laws.{next_row}
use Rattle.jb_workers.specs.Events.{event_of}
use Rattle.jb_workers.specs.Entering.{RowsAgree}

-- the row that the table has after the attempt's event
abbrev entered : TaskState → ℕ → AttemptEnd → Row
entered t lane e = next_row t.item_count (begun_row t.row lane) (event_of lane e.outcome e.task.row.written e.again)

waiting-roll : (row : Row) (lane hi again : ℕ) → row.state ≡ Waiting → dropped_row (rolled_row (repeated_row (begun_row row lane) again) hi) ≡ rolled_row (repeated_row row again) hi
waiting-roll row lane hi again waits = rw waits refl

-- so it is where the event takes the row to what this end leaves, from the task after its repeats
attempted : (t : TaskState) (lane : ℕ) (e : AttemptEnd) (o : Outcome) → o ≡ e.outcome → e ≡ attempt_of t
    → (let left = ending_by (after_repeats t) (again_of t) o in entered t lane left ≡ left.task.row) → entered t lane e ≡ e.task.row
attempted t lane e o h is own =
    let ends : end_of (after_repeats t) ≡ o = sym (h ∙ ap (λ (x : AttemptEnd). x.outcome) is) in
    subst (λ (u : AttemptEnd). entered t lane u ≡ u.task.row) (sym (is ∙ ap (ending_by (after_repeats t) (again_of t)) ends)) own

-- a chunk that is given up leaves the row that waited
given-up : (row : Row) (lane : ℕ) → row.state ≡ Waiting → dropped_row (begun_row row lane) ≡ row
given-up row lane waits = rw waits refl

by-outcome : RepeatsAreRetries → (t : TaskState) (lane : ℕ) (e : AttemptEnd) (o : Outcome) → o ≡ e.outcome → t.row.state ≡ Waiting → IsAttemptBy o t e → entered t lane e ≡ e.task.row
by-outcome law t lane e (Committed delta) h waits is =
    attempted t lane e (Committed delta) h is (λ i. committed_row (sym (law t) i) (row_block t.item_count (sym (law t) i)).hi delta)
by-outcome law t lane e (Rolled class) h waits is =
    attempted t lane e (Rolled class) h is (waiting-roll t.row lane (row_block t.item_count t.row).hi (again_of t) waits ∙ (λ i. rolled_row (sym (law t) i) (row_block t.item_count (sym (law t) i)).hi))
by-outcome law t lane e (Failed class) h waits is = attempted t lane e (Failed class) h is (λ i. failed_row (sym (law t) i))
by-outcome law t lane e NoMemory h waits is =
    subst (λ o. next_row t.item_count (begun_row t.row lane) (event_of lane o e.task.row.written e.again) ≡ e.task.row) h
    (given-up t.row lane waits ∙ sym (ap (λ (u : TaskState). u.row) is.2.task))

pub rows_agree : RepeatsAreRetries → RowsAgree
rows_agree law t lane e waits is = by-outcome law t lane e e.outcome refl waits is
