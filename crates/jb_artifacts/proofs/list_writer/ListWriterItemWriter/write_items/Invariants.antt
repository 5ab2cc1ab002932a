use Rattle.jb_artifacts.specs.Faults.{plans_of}
use Rattle.jb_artifacts.proofs.Writing.{IsWrittenTo}
use Rattle.jb_artifacts.proofs.list_writer.ListWriterItemWriter.write_items.Given as goal

-- the results so far are appended, and none of their records has a live fault
abbrev pub invariant-loop-result : goal.invariant-loop-result
invariant-loop-result l =
    IsWrittenTo (record { written = l.fn.self.written; faults = plans_of l.fn.self.faults }) l.results l.result-index
    (record { written = l.self.written; faults = plans_of l.self.faults })
