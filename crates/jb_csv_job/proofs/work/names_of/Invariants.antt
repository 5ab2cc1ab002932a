use Rattle.std.proofs.Common.{◌≡◌, map, take}
use Rattle.jb_csv_job.proofs.work.names_of.Given as goal

abbrev pub invariant-loop-class : goal.invariant-loop-class
invariant-loop-class l = map (λ name. name.now) l.names.items ≡ map (λ class. class.name.now) (take l.class-index l.classes)
