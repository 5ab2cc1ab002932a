use Rattle.jb_artifacts.specs.declared.faults.FaultPlan.TheVariants.{Sound}
use Rattle.jb_artifacts.proofs.Writing.{IsWrittenTo}
use Rattle.bills.proofs.writer.BillWriterItemWriter.write_items.Given as goal

-- the results so far are appended
abbrev pub invariant-loop-result : goal.invariant-loop-result
invariant-loop-result l =
    IsWrittenTo (record { written = l.fn.self.bills; faults = λ _. Sound }) l.results l.result-index (record { written = l.self.bills; faults = λ _. Sound })
