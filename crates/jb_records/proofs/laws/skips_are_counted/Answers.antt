use Rattle.jb_records.proofs.Counting.{new-counted, skips-counted}
use Rattle.jb_records.proofs.laws.skips_are_counted.Goals as goal

pub returns : goal.returns
returns c =
    let going = c.results_go_on.ensures in
    let plans = c.plans_can_be_run.ensures in record {
      counted = skips-counted c.tasks_stand_at_checkpoints.ensures c.runs_lead_to_an_end.ensures.join c.attempts_are_steps.ensures.repeats going.results going.part plans.tasks plans.rows;
      begun = new-counted;
    }
