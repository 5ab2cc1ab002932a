-- How the errors of a partition plan are printed.
use Rattle.std.specs.Prelude.{ℕ, List, ◌++◌, codes, decimal}
use Rattle.jb_plan.specs.declared.fault.PlanError.{PlanError}
use Rattle.jb_plan.specs.declared.fault.PlanError.TheVariants.{NoPartition, TooMany, Reversed, PastEnd, Overlap, Threads, Memory}

-- the name, and the partitions in parentheses
abbrev pub error_text : PlanError → List ℕ
error_text NoPartition = codes "NoPartition"
error_text TooMany = codes "TooMany"
error_text (Reversed i) = codes "Reversed(" ++ (decimal i ++ codes ")")
error_text (PastEnd i) = codes "PastEnd(" ++ (decimal i ++ codes ")")
error_text (Overlap i j) = codes "Overlap(" ++ (decimal i ++ (codes "," ++ (decimal j ++ codes ")")))
error_text Threads = codes "Threads"
error_text Memory = codes "no memory"
