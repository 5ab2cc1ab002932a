use Rattle.std.proofs.Common.{rules, ◌≡◌, Err, ap, refl}
use Rattle.jb_rules.specs.declared.row.Row.{Row}
use Rattle.jb_chunk.specs.Attempt.{AttemptEnd, ending_of}
use Rattle.jb_collect.proofs.Delivering.{IsRead, attempt_told, attempt_stopped}
use Rattle.jb_collect.proofs.delivery.tell_done.Goals as goal

pub returns-in_err-tell_texts : goal.returns-in_err-tell_texts
returns-in_err-tell_texts g c =
    let done = c.args.done.now in
    let e : AttemptEnd = ending_of (g.T.PartitionTask.task_state done.task) done.outcome done.values.items done.again in
    let told : c.from_residual.result ≡ Err c.in_err-tell_texts.field-0.0 = search rules in
    let read : IsRead e c.partition-partition.result c.as_slice.result.now e.task.row.state =
    record { partition = c.partition-partition.ensures; texts_are = c.as_slice.ensures.value; state = refl } in
    attempt_stopped _ _ e c.partition-partition.result c.as_slice.result.now c.in_err-tell_texts.field-0.0 c.from_residual.result read c.in_err-tell_texts.ensures told

pub returns : goal.returns
returns g c =
    let done = c.args.done.now in
    let e : AttemptEnd = ending_of (g.T.PartitionTask.task_state done.task) done.outcome done.values.items done.again in
    let read : IsRead e c.partition-partition.result c.as_slice.result.now c.row.result.now.state =
    record { partition = c.partition-partition.ensures; texts_are = c.as_slice.ensures.value; state = ap (λ (r : Row). r.state) c.row.ensures } in
    attempt_told _ _ _ e c.partition-partition.result c.as_slice.result.now c.row.result.now.state c.in_ok-tell_texts.field-0 c.tell_end.result read c.in_ok-tell_texts.ensures c.tell_end.ensures
