use Rattle.std.proofs.Common.{◌≡◌, take}
use Rattle.jb_records.specs.PartitionResults.{joined}
use Rattle.jb_slice_run.proofs.durable.end.SliceEnd.all_results.Given as goal

-- the shares so far are appended
abbrev pub invariant-loop-share : goal.invariant-loop-share
invariant-loop-share l = l.all ≡ joined (take l.share-index l.self.results.items)
