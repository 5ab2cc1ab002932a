use Rattle.std.proofs.Common.{arith}
use Rattle.jb_repo.proofs.Tables.{read_row}
use Rattle.jb_repo.proofs.projection.step_rows.Goals as goal

pub step-requires-clause-can : goal.step-requires-clause-can
step-requires-clause-can c =
    let h = rw c.in-Some.is at c.requires.can in
    let k = rw c.in-Some.is at c.requires.inside in
    h _ (read_row c.args.rows.now c.in-Some.partition _ (omega arith))
