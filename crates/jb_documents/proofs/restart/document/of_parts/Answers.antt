use Rattle.std.proofs.Common.{rules}
use Rattle.jb_documents.specs.inside.Parts.{parts_at}
use Rattle.jb_documents.proofs.restart.document.of_parts.Goals as goal

pub returns-in_err-left : goal.returns-in_err-left
unfolding parts_at
returns-in_err-left c = search rules
