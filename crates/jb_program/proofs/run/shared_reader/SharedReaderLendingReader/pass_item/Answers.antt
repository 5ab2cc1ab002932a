use Rattle.std.proofs.Common.{arith}
use Rattle.std.specs.Arc.{arc_value}
use Rattle.jb_program.proofs.Opening.{counted}
use Rattle.jb_program.proofs.run.shared_reader.SharedReaderLendingReader.pass_item.Goals as goal

pub overflow_add-self : goal.overflow_add-self
overflow_add-self c =
    let reader = c.args.self.now in
    let before = c.requires in
    let within = reader.within in
    omega (arith, counted (arc_value reader.records) reader.range reader.within, before)
