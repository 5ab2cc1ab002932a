use Rattle.std.proofs.Common.{◌≡◌, refl}
use Rattle.jb_plan.specs.Blocks.{blocks}
use Rattle.jb_repo.specs.Table.{own_events}
use Rattle.jb_repo.specs.Worked.{two_partitions, walk, journal_after}
use Rattle.jb_tests.proofs.repo.worked_own_events.Goals as goal

first : own_events (journal_after two_partitions (walk 0 1)) 0 ≡ 2
unfolding blocks
first = refl

second : own_events (journal_after two_partitions (walk 0 1)) 1 ≡ 2
unfolding blocks
second = refl

none : own_events (journal_after two_partitions (walk 0 1)) 2 ≡ 0
unfolding blocks
none = refl

pub returns : goal.returns
returns c = record { first = first; second = second; none = none }
