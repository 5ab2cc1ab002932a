use Rattle.jb_plan.proofs.Following.{chunks_follow}
use Rattle.jb_plan.proofs.blocks.chunks_follow_one_another.Goals as goal

pub returns : goal.returns
returns c = chunks_follow
