use Rattle.std.proofs.Common.{sym}
use Rattle.jb_base.proofs.Classes.{class_of-number}
use Rattle.jb_base.proofs.class.ClassId.new.Goals as goal

pub returns-clause-class : goal.returns-clause-class
returns-clause-class c = sym (class_of-number _)
