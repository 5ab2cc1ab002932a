use Rattle.std.proofs.Common.{rules, ◌≡◌, Err, refl, ap}
use Rattle.jb_rules.specs.declared.row.Row.{Row}
use Rattle.jb_chunk.specs.Attempt.{AttemptEnd, ending_of}
use Rattle.jb_chunk.specs.declared.outcome.Outcome.TheVariants.{NoMemory}
use Rattle.jb_collect.proofs.Delivering.{IsRead, attempt_told, attempt_stopped}
use Rattle.jb_collect.proofs.delivery.deliver_one.Goals as goal

pub returns-in_err-hand_over : goal.returns-in_err-hand_over
returns-in_err-hand_over g c =
    let e : AttemptEnd = ending_of (g.T.PartitionTask.task_state c.args.task.now) NoMemory c.args.texts.items 0 in
    let told : c.from_residual.result ≡ Err c.in_err-hand_over.field-0.0 = search rules in
    let read : IsRead e c.partition-partition.result c.args.texts.items e.task.row.state =
    record { partition = c.partition-partition.ensures; texts_are = refl; state = refl } in
    attempt_stopped _ _ e c.partition-partition.result c.args.texts.items c.in_err-hand_over.field-0.0 c.from_residual.result read c.in_err-hand_over.ensures told

pub returns : goal.returns
returns g c =
    let e : AttemptEnd = ending_of (g.T.PartitionTask.task_state c.args.task.now) NoMemory c.args.texts.items 0 in
    let read : IsRead e c.partition-partition.result c.args.texts.items c.row.result.now.state =
    record { partition = c.partition-partition.ensures; texts_are = refl; state = ap (λ (r : Row). r.state) c.row.ensures } in
    attempt_told _ _ _ e c.partition-partition.result c.args.texts.items c.row.result.now.state c.in_ok-hand_over.field-0 c.tell_end.result read c.in_ok-hand_over.ensures c.tell_end.ensures
