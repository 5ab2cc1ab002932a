use Rattle.std.specs.Prelude.{◌≡◌}
use Rattle.jb_workers.proofs.pool.start_pool.Given as goal

abbrev pub invariant-loop : goal.invariant-loop
invariant-loop g l = l.pool ≡ l.counter
