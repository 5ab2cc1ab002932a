-- What a raised limit keeps.
use Rattle.std.specs.Prelude.{List, ℕ}
use Rattle.jb_base.specs.declared.class.ClassId.{ClassId}
use Rattle.jb_slices.specs.Folder.{Folder, IsJobWhole}
use Rattle.jb_slices.specs.Function.{Function, Pass}
use Rattle.jb_slices.specs.Job.{AreRaised, Job, Limits, rules_of}
use Rattle.jb_slices.specs.Passing.{AllPass}
use Rattle.jb_slices.specs.Slice.{Functions}

-- THE LAW: faults that pass still pass under raised limits
abbrev pub RaisedLimitsPass : Type 0
RaisedLimitsPass =
    (job : Job) (before after : Limits) (classes : List ClassId) → AreRaised before after → Pass (rules_of job before) classes → Pass (rules_of job after) classes

-- THE LAW: items that pass still pass
abbrev pub RaisedLimitsPassAll : Type 0
RaisedLimitsPassAll =
    (job : Job) (before after : Limits) (f : Function) (items : List (List ℕ)) → AreRaised before after → AllPass job before f items → AllPass job after f items

-- THE LAW: a whole job stays whole under raised limits, so none of it is run again
abbrev pub RaisedJobsStayWhole : Type 0
RaisedJobsStayWhole =
    (job : Job) (functions : Functions) (before after : Limits) (items : List (List ℕ)) (folder : Folder)
    → AreRaised before after → IsJobWhole job functions before items folder → IsJobWhole job functions after items folder
