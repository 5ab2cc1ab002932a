use Rattle.std.proofs.Common.{rules}
use Rattle.jb_job.specs.Reading.{text_at}
use Rattle.jb_documents.proofs.kinds.text.Goals as goal

pub returns-else-low-text : goal.returns-else-low-text
unfolding text_at
returns-else-low-text c = search rules
