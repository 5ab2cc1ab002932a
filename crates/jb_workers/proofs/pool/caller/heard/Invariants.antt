use Rattle.std.proofs.Common.{◌≡◌, true, false, Some}
use Rattle.crossbeam_queue.specs.Passes.{view, IsPassOf}
use Rattle.jb_workers.specs.inside.Mailboxes.{known}
use Rattle.jb_workers.proofs.pool.caller.heard.Given as goal

-- the work is still asked for
abbrev pub invariant-loop : goal.invariant-loop
invariant-loop g l = IsPassOf l.mailbox.queue l.end × (view l.end ≡ known true false (Some l.work.value))
