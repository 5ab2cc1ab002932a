use Rattle.std.proofs.Common.{◌≡◌, ◌++◌, map, take}
use Rattle.jb_csv_job.proofs.skipped.all_faults.Given as goal

-- the faults so far are those that were skipped and those of the failures that have been passed
abbrev pub invariant-loop-failure : goal.invariant-loop-failure
invariant-loop-failure l = l.listed.items ≡ l.fn.skips ++ map (λ one. one.fault) (take l.failure-index l.failures)
