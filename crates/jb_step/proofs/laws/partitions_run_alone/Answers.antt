use Rattle.jb_step.proofs.run.Leading.{steps_are_on_the_way, steps_end_alone, alone_is_one_place, calm_steps_are_plain}
use Rattle.jb_step.proofs.laws.partitions_run_alone.Goals as goal

pub returns-clause-on_the_way : goal.returns-clause-on_the_way
returns-clause-on_the_way c = steps_are_on_the_way

pub returns-clause-alone : goal.returns-clause-alone
returns-clause-alone c = steps_end_alone c.runs_lead_to_an_end.ensures.end

pub returns-clause-one_place : goal.returns-clause-one_place
returns-clause-one_place c = alone_is_one_place c.runs_end_alike.ensures.one

pub returns-clause-plain : goal.returns-clause-plain
returns-clause-plain c = calm_steps_are_plain c.runs_end_alike.ensures.plain
