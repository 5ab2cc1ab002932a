use Rattle.std.proofs.Common.{rules}
use Rattle.jb_documents.specs.ResumeFields.{held_outputs_at}
use Rattle.jb_documents.proofs.restart.resume_fields.held.Goals as goal

pub returns-then-as_slice-rows : goal.returns-then-as_slice-rows
unfolding held_outputs_at
returns-then-as_slice-rows c = search rules
