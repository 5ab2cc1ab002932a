use Rattle.std.proofs.Common.{option_map}
use Rattle.jb_slice_run.{specs.Held.{fault_in}, proofs.Faulted.{stop-agrees}}
use Rattle.jb_slice_run.proofs.faults.stop_in.Goals as goal

pub returns : goal.returns
returns g c follows within =
    stop-agrees (g.F.RowFunction.answer c.args.function.now) c.args.first c.args.items.now c.rules_are_kept.ensures.stopped c.args.rules.now c.args.row.now c.in_ok-note.note (option_map fault_in c.fault_of.result) follows within
    (c.in_ok-note.ensures follows) c.fault_of.ensures
