use Rattle.jb_artifacts.specs.Faults.{plans_of}
use Rattle.jb_artifacts.proofs.Writing.{IsWrittenTo}
use Rattle.jb_artifacts.proofs.list_writer.ListWriterPackedWriter.write_packed.Given as goal

-- the results so far are appended, and none of their records has a live fault
abbrev pub invariant-loop-index : goal.invariant-loop-index
invariant-loop-index l =
    IsWrittenTo (record { written = l.fn.self.written; faults = plans_of l.fn.self.faults }) l.results l.index
    (record { written = l.self.written; faults = plans_of l.self.faults })
