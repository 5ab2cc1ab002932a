use Rattle.std.{proofs.Common.{◌++◌, take}, specs.Prelude.{slice_index_or}, proofs.lemmas.List.{append-nil, flat_map_more, take_all, take_more}}
use Rattle.jb_records.specs.PartitionResults.{joined}
use Rattle.jb_csv_job.proofs.giving.give_all.Goals as goal

pub loop-share-init : goal.loop-share-init
loop-share-init g c start before took = rw append-nil took

pub loop-share-preserved : goal.loop-share-preserved
loop-share-preserved g c start before took =
    let all = c.args.partition_results.now in
    let i = c.loop-share.share-index in
    let share = c.share-item.result in
    rw (take_more all i share c.loop-share-test.true, ← flat_map_more (λ share. share) before (take i all) (slice_index_or all i share), ← c.share-item.is)
    (c.in_ok-take.ensures.taken start (before ++ joined (take i all)) (c.loop-share.invariant start before took))

pub returns-clause-taken : goal.returns-clause-taken
returns-clause-taken g c start before took = rw (take_all c.loop-share.share-index c.args.partition_results.now c.loop-share-test.false) at (c.loop-share.invariant start before took)
