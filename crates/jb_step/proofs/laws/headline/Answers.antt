use Rattle.jb_step.proofs.Heading.{headline_holds, unstopped_runs_agree}
use Rattle.jb_step.proofs.laws.headline.Goals as goal

pub returns-clause-holds : goal.returns-clause-holds
returns-clause-holds c = headline_holds c.lower_laws.ensures

pub returns-clause-agree : goal.returns-clause-agree
returns-clause-agree c = unstopped_runs_agree c.runs_end_alike.ensures.one
