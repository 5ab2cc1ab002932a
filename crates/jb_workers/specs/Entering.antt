-- What the table makes of an attempt's event, where its row of the partition is the task's own.
use Rattle.std.specs.Prelude.{◌≡◌, ℕ}
use Rattle.jb_rules.specs.declared.row.RowState.TheVariants.{Waiting}
use Rattle.jb_rules.specs.Rows.{begun_row}
use Rattle.jb_chunk.specs.TaskState.{TaskState}
use Rattle.jb_chunk.specs.Attempt.{AttemptEnd, IsAttempt}
use Rattle.jb_repo.specs.Laws.{next_row}
use Rattle.jb_workers.specs.Events.{event_of}

-- A lane begins a waiting row, and the event of the task's attempt takes it one step further. The result is the row that the
-- attempt leaves the task with.
abbrev pub RowsAgree : Type 0
RowsAgree =
    (task : TaskState) (lane : ℕ) (end : AttemptEnd) → task.row.state ≡ Waiting → IsAttempt task end
    → next_row task.item_count (begun_row task.row lane) (event_of lane end.outcome end.task.row.written end.again) ≡ end.task.row
