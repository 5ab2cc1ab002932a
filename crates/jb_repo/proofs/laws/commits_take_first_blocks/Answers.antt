use Rattle.jb_repo.proofs.FirstBlocks.{commits_take_first_blocks}
use Rattle.jb_repo.proofs.laws.commits_take_first_blocks.Goals as goal

pub returns : goal.returns
returns c = commits_take_first_blocks c.lower_laws.ensures
