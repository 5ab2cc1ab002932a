use Rattle.jb_workers.proofs.desk.Desk.begin.Goals as goal

pub returns-clause-accepted : goal.returns-clause-accepted
returns-clause-accepted g c = c.begin.ensures.accepted

pub returns-clause-refused : goal.returns-clause-refused
returns-clause-refused g c = c.begin.ensures.refused
