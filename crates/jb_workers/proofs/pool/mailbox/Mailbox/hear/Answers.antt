use Rattle.jb_workers.proofs.Mailing.{hears}
use Rattle.jb_workers.proofs.pool.mailbox.Mailbox.hear.Goals as goal

pub try_pop_as-requires-clause-rule : goal.try_pop_as-requires-clause-rule
try_pop_as-requires-clause-rule g c = hears g.T.PartitionTask.task_state _ _ c.requires.end.1.0 c.requires.end.1.1
