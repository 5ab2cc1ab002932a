use Rattle.jb_workers.proofs.Mailing.{takes}
use Rattle.jb_workers.proofs.pool.mailbox.Mailbox.take.Goals as goal

pub try_pop_as-requires-clause-rule : goal.try_pop_as-requires-clause-rule
try_pop_as-requires-clause-rule g c = takes g.T.PartitionTask.task_state _ _ c.requires.end.1
