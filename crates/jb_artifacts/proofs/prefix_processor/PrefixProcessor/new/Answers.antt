use Rattle.std.proofs.Common.{refl}
use Rattle.jb_artifacts.proofs.prefix_processor.PrefixProcessor.new.Goals as goal

pub returns : goal.returns
returns c = refl
