use Rattle.std.proofs.Common.{◌≡◌, take}
use Rattle.jb_records.specs.PartitionResults.{joined}
use Rattle.jb_records.proofs.partition_results.joined.Given as goal

-- the shares so far are appended
abbrev pub invariant-loop-share : goal.invariant-loop-share
invariant-loop-share l = l.all ≡ joined (take l.share-index l.partition_results)
