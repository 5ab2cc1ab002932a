use Rattle.std.proofs.Common.{◌++◌, ℕ, List, take}
use Rattle.jb_records.specs.PartitionResults.{joined}
use Rattle.jb_csv_job.proofs.giving.give_all.Given as goal

-- it took the shares so far
abbrev pub invariant-loop-share : goal.invariant-loop-share
invariant-loop-share g l = (start : g.row.N.Denot) (before : List (List ℕ)) → g.N.Sink.took start l.initial.sink before
    → g.N.Sink.took start l.sink (before ++ joined (take l.share-index l.partition_results))
