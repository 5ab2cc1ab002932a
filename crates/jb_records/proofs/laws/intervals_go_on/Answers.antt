use Rattle.jb_records.proofs.Ahead.{go-ahead}
use Rattle.jb_records.proofs.RunningOn.{rows-are-saved, intervals-on, artifacts-do-fit}
use Rattle.jb_records.proofs.laws.intervals_go_on.Goals as goal

pub returns : goal.returns
returns c =
    let ahead = go-ahead c.tasks_stand_at_checkpoints.ensures c.runs_lead_to_an_end.ensures.join c.attempts_are_steps.ensures.repeats in
    let going = c.results_go_on.ensures in
    let plans = c.plans_can_be_run.ensures in
    let rules = c.rules_are_kept.ensures in record {
      fit = artifacts-do-fit;
      saved = rows-are-saved going.results going.part plans.tasks plans.rows c.steps_keep_results.ensures.kept ahead rules.kept rules.raised rules.ranges;
      on = intervals-on going.results going.part plans.tasks plans.rows c.steps_keep_results.ensures.kept ahead rules.kept rules.raised rules.ranges;
    }
