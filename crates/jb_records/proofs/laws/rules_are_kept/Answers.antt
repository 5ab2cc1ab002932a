use Rattle.jb_records.proofs.Following.{failed-dont, finished-pass, new-follow, one-stop, ranges-stay, restarts-keep, rules-kept, rules-raised, stop-fails}
use Rattle.jb_records.proofs.Items.{classes-items}
use Rattle.jb_records.proofs.laws.rules_are_kept.Goals as goal

pub returns : goal.returns
returns c =
    let choices = c.choices_are_the_rules.ensures in
    let going = c.results_go_on.ensures in
    let plans = c.plans_can_be_run.ensures in record {
      kept = rules-kept choices.skip choices.fail c.tasks_stand_at_checkpoints.ensures c.runs_lead_to_an_end.ensures.join c.attempts_are_steps.ensures.repeats going.results going.part plans.tasks plans.rows;
      begun = new-follow;
      finished = finished-pass;
      failed = failed-dont;
      one = one-stop;
      stopped = stop-fails;
      raised = rules-raised;
      items = classes-items;
      ranges = ranges-stay going.part plans.rows;
      restarted = restarts-keep;
    }
