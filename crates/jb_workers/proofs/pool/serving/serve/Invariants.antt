use Rattle.std.proofs.Common.{◌≡◌, true, false, None}
use Rattle.crossbeam_queue.specs.Passes.{view, IsPassOf}
use Rattle.jb_workers.specs.inside.Mailboxes.{known}
use Rattle.jb_workers.proofs.pool.serving.serve.Given as goal

-- no work is being done
abbrev pub invariant-loop : goal.invariant-loop
invariant-loop g l = IsPassOf l.mailbox.queue l.end × (view l.end ≡ known false true None) × (l.share.parts ≡ 1)
