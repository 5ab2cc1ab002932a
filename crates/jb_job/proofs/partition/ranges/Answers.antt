use Rattle.std.proofs.Common.{◌≡◌, Ok, ap, ◌∙◌}
use Rattle.std.proofs.lemmas.List.{map-id}
use Rattle.serde_json.specs.View.{items_view}
use Rattle.jb_job.specs.JobRecord.{range_pair_at}
use Rattle.jb_job.specs.Reading.{each_at}
use Rattle.jb_job.proofs.Kept.{ranges-numbered}
use Rattle.jb_job.proofs.partition.ranges.Goals as goal

pub returns-clause-numbered : goal.returns-clause-numbered
returns-clause-numbered c =
    let read : each_at (λ _. range_pair_at) (items_view c.args.items.now.items) ≡ Ok c.in_ok-ranges.ranges.items = c.in_ok-ranges.ensures.exact ∙ ap Ok (map-id _) in
    rw c.new.ensures (ranges-numbered _ _ read)
