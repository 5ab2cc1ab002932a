use Rattle.std.proofs.Common.{refl}
use Rattle.jb_base.proofs.limits.limits_are_as_defined.Goals as goal

pub returns-clause-threads_asked : goal.returns-clause-threads_asked
returns-clause-threads_asked c = refl

pub returns-clause-partitions : goal.returns-clause-partitions
returns-clause-partitions c = refl

pub returns-clause-threads : goal.returns-clause-threads
returns-clause-threads c = refl

pub returns-clause-in_place : goal.returns-clause-in_place
returns-clause-in_place c = refl

pub returns-clause-rollbacks : goal.returns-clause-rollbacks
returns-clause-rollbacks c = refl

pub returns-clause-events : goal.returns-clause-events
returns-clause-events c = refl
