use Rattle.std.proofs.Common.{rules}
use Rattle.jb_artifacts.proofs.prefix_processor.PrefixProcessorItemProcessor.process_item.Goals as goal

pub returns-clause-answered : goal.returns-clause-answered
returns-clause-answered c = search rules
