use Rattle.jb_records.proofs.Joining.{partition_results-are-joined}
use Rattle.jb_records.proofs.LeavingOut.{others-left-out}
use Rattle.jb_records.proofs.Steps.{partition_results-kept, steps-begin}
use Rattle.jb_records.proofs.laws.steps_keep_results.Goals as goal

pub returns : goal.returns
returns c = record {
  kept = partition_results-kept c.results_go_on.ensures.results c.results_go_on.ensures.part c.plans_can_be_run.ensures.tasks c.plans_can_be_run.ensures.rows;
  begun = steps-begin;
  joined = partition_results-are-joined;
  left_out = others-left-out;
}
