use Rattle.jb_workers.proofs.Mailing.{asks, idle-learns}
use Rattle.jb_workers.proofs.pool.mailbox.Mailbox.ask.Goals as goal

pub push_as-requires-clause-rule : goal.push_as-requires-clause-rule
push_as-requires-clause-rule g c = (asks g.T.PartitionTask.task_state _ _ _ _ c.requires.end.1 c.requires.can, idle-learns g.T.PartitionTask.task_state _ _ c.requires.end.1)
