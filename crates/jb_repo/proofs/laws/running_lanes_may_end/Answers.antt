use Rattle.jb_repo.proofs.Judging.{running_lanes_may_end}
use Rattle.jb_repo.proofs.laws.running_lanes_may_end.Goals as goal

pub returns : goal.returns
returns c = running_lanes_may_end
