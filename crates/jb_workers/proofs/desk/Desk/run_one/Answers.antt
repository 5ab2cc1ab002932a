use Rattle.std.proofs.Common.{rules, ◌≡◌, Err}
use Rattle.jb_workers.specs.Turns.{IsDoneOf, IsKeptOut}
use Rattle.jb_workers.proofs.SingleWork.{kept-out-error, closing-refused}
use Rattle.jb_workers.proofs.desk.Desk.run_one.Goals as goal

pub returns-in_err-done-clause-error : goal.returns-in_err-done-clause-error
returns-in_err-done-clause-error g c =
    let is : c.from_residual.result ≡ Err c.in_err-done.field-0.0 = search rules in
    let kept : IsKeptOut g.T.PartitionTask.task_state c.args.only c.in_err-done.field-0.0 = search rules in
    rw is (kept-out-error g.T.PartitionTask.task_state c.args.only _ kept)

pub returns-in-Err-clause-error : goal.returns-in-Err-clause-error
returns-in-Err-clause-error g c =
    let is : IsDoneOf g.T.PartitionTask.task_state c.args.only c.in_ok-done.done = search rules in
    closing-refused g.T.PartitionTask.task_state c.args.only c.in_ok-done.done c.in-Err.refused is c.in-Err.ensures.refused
