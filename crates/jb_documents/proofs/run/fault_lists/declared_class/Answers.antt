use Rattle.jb_documents.proofs.Classes.{known_class-place}
use Rattle.jb_documents.proofs.run.fault_lists.declared_class.Goals as goal

pub returns-in-Some : goal.returns-in-Some
returns-in-Some c = known_class-place c.class.result _ c.in-Some.class c.in-Some.is c.class.ensures
