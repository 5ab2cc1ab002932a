use Rattle.jb_records.proofs.Going.{parts-stay, results-go}
use Rattle.jb_records.proofs.laws.results_go_on.Goals as goal

pub returns : goal.returns
returns c = record {
  results = results-go c.tasks_stand_at_checkpoints.ensures c.runs_lead_to_an_end.ensures.join c.attempts_are_steps.ensures.repeats;
  part = parts-stay c.attempts_are_steps.ensures.repeats;
}
