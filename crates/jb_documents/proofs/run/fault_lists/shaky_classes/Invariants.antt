use Rattle.jb_base.specs.declared.class.ClassId.{ClassId}
use Rattle.jb_documents.specs.FaultLists.{named_class_at}
use Rattle.jb_documents.proofs.run.fault_lists.shaky_classes.Given as goal

abbrev pub ghosts-each : goal.ghosts-each
ghosts-each a = record { Shown = ClassId; shown = λ class. class; kind = λ done. named_class_at a.read.0.now.classes a.read.1.now }
