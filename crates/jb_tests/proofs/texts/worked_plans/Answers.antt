use Rattle.std.proofs.Common.{refl}
use Rattle.std.specs.Fmt.{digits}
use Rattle.jb_texts.specs.PlanText.{lane_text, round_line, heading, plan_text}
use Rattle.jb_tests.proofs.texts.worked_plans.Goals as goal

pub returns : goal.returns
unfolding lane_text round_line heading plan_text digits
returns c = record { three_equal = refl; one_long = refl; nothing = refl }
