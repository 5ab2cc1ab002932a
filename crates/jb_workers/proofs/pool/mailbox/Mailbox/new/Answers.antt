use Rattle.std.proofs.Common.{rules}
use Rattle.jb_workers.proofs.Mailing.{begins, forks}
use Rattle.jb_workers.proofs.pool.mailbox.Mailbox.new.Goals as goal

pub ruled-requires-clause-rule : goal.ruled-requires-clause-rule
ruled-requires-clause-rule g c = begins g.T.PartitionTask.task_state

pub another-worker-requires-clause-rule : goal.another-worker-requires-clause-rule
another-worker-requires-clause-rule g c = forks g.T.PartitionTask.task_state _ _ (search rules) (search rules)
