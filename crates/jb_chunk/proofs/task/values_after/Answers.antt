use Rattle.jb_chunk.proofs.task.values_after.Goals as goal

pub returns-in-Committed : goal.returns-in-Committed
returns-in-Committed g c = rw c.in-Committed.is (c.collect_values.ensures c.in-Committed.field-0)
