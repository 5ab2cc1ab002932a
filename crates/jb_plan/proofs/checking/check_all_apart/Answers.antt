use Rattle.std.proofs.Common.{rules, arith}
use Rattle.jb_plan.proofs.NoFaults.{overlap-first}
use Rattle.jb_plan.proofs.checking.check_all_apart.Goals as goal

pub returns-in_err-check_apart : goal.returns-in_err-check_apart
returns-in_err-check_apart c =
    let found = overlap-first c.loop-i.i c.args.ranges.now _ c.in_err-check_apart.field-0.0 (omega arith) c.in_err-check_apart.ensures in
    rw c.loop-i.invariant (search (rules, found))
