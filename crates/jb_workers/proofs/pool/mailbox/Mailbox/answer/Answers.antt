use Rattle.jb_workers.proofs.Mailing.{answers, busy-learns}
use Rattle.jb_workers.proofs.pool.mailbox.Mailbox.answer.Goals as goal

pub push_as-requires-clause-rule : goal.push_as-requires-clause-rule
push_as-requires-clause-rule g c = (answers g.T.PartitionTask.task_state _ _ _ _ _ c.requires.end.1 c.requires.meets, busy-learns g.T.PartitionTask.task_state _ _ _ c.requires.end.1)
