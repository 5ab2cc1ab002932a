use Rattle.jb_rules.proofs.Deltas.{deltas_are_tested}
use Rattle.jb_rules.proofs.counts.deltas_are_tested.Goals as goal

pub returns : goal.returns
returns c = deltas_are_tested
