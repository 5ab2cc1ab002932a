use Rattle.jb_step.proofs.restarts.Restarting.{restarts-fit, restarts-are-on-the-way, restarts-end-alone, restarts-end-as-unstopped}
use Rattle.jb_step.proofs.laws.restarts_go_on.Goals as goal

pub returns-clause-fit : goal.returns-clause-fit
returns-clause-fit c = restarts-fit c.answers_are_computed.ensures.tree c.tasks_go_on.ensures.place c.runs_lead_to_an_end.ensures.join c.tasks_stay_ready.ensures

pub returns-clause-on_the_way : goal.returns-clause-on_the_way
returns-clause-on_the_way c = restarts-are-on-the-way c.answers_are_computed.ensures.tree c.tasks_go_on.ensures.place c.runs_lead_to_an_end.ensures.join

pub returns-clause-alone : goal.returns-clause-alone
returns-clause-alone c =
    restarts-end-alone c.answers_are_computed.ensures.tree c.tasks_go_on.ensures.place c.runs_lead_to_an_end.ensures.join c.runs_lead_to_an_end.ensures.end

pub returns-clause-unstopped : goal.returns-clause-unstopped
returns-clause-unstopped c =
    restarts-end-as-unstopped c.answers_are_computed.ensures.tree c.tasks_go_on.ensures.place c.runs_lead_to_an_end.ensures.join c.runs_lead_to_an_end.ensures.end c.runs_end_alike.ensures.one
