use Rattle.jb_collect.proofs.Apart.{heard_apart}
use Rattle.jb_collect.proofs.laws.partitions_are_heard_apart.Goals as goal

pub returns : goal.returns
returns c = heard_apart
