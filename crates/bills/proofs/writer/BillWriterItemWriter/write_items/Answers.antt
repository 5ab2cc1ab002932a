use Rattle.std.proofs.Common.{rules}
use Rattle.jb_artifacts.proofs.Writing.{stopped, written-more, all-written}
use Rattle.bills.proofs.writer.BillWriterItemWriter.write_items.Goals as goal

pub returns-in_err-append-clause-faulted : goal.returns-in_err-append-clause-faulted
returns-in_err-append-clause-faulted c =
    (stopped _ _ _ _ c.loop-result.invariant _ _ _ _ (search rules) c.loop-result-test.true c.result-item.is c.in_err-append.ensures).0

pub returns-in_err-append-clause-no_memory : goal.returns-in_err-append-clause-no_memory
returns-in_err-append-clause-no_memory c =
    (stopped _ _ _ _ c.loop-result.invariant _ _ _ _ (search rules) c.loop-result-test.true c.result-item.is c.in_err-append.ensures).1

pub loop-result-preserved : goal.loop-result-preserved
loop-result-preserved c = written-more _ _ _ _ c.loop-result.invariant _ _ _ c.loop-result-test.true c.result-item.is c.in_ok-append.ensures

pub returns-clause-written : goal.returns-clause-written
returns-clause-written c = all-written _ _ _ _ c.loop-result.invariant c.loop-result-test.false c.loop-result.auto.result-index-end
