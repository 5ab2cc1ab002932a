use Rattle.std.proofs.Common.{◌≡◌, Ok, ap, ◌∙◌, arith}
use Rattle.std.proofs.lemmas.List.{map-id}
use Rattle.serde_json.specs.View.{items_view}
use Rattle.jb_job.specs.JobRecord.{step_at}
use Rattle.jb_job.specs.Reading.{each_at}
use Rattle.jb_job.proofs.Kept.{steps-apart}
use Rattle.jb_job.proofs.reading.steps.Goals as goal

pub new-requires : goal.new-requires
new-requires c =
    let steps = c.in_ok-steps.steps.items in
    let read : each_at (step_at c.args.classes.now) (items_view c.args.items.now.items) ≡ Ok steps = c.in_ok-steps.ensures.exact ∙ ap Ok (map-id _) in
    record {
      some = omega (arith, c.in_ok-steps.ensures.long, c.requires.some);
      few = omega (arith, c.in_ok-steps.ensures.long, c.requires.few);
      own_ids = steps-apart _ _ steps read;
    }
