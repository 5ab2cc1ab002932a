use Rattle.std.proofs.Common.{rules}
use Rattle.jb_artifacts.proofs.item.Item.into_vec.Goals as goal

pub returns : goal.returns
returns c = search rules
