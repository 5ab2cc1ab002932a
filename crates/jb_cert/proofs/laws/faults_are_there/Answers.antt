use Rattle.jb_cert.proofs.FaultsSaid.{lane_range_says, stranger_says, twice_says, out_of_order_says, missing_says}
use Rattle.jb_cert.proofs.laws.faults_are_there.Goals as goal

pub returns-clause-lane_range : goal.returns-clause-lane_range
returns-clause-lane_range c = lane_range_says

pub returns-clause-stranger : goal.returns-clause-stranger
returns-clause-stranger c = stranger_says

pub returns-clause-twice_in_round : goal.returns-clause-twice_in_round
returns-clause-twice_in_round c = twice_says

pub returns-clause-out_of_order : goal.returns-clause-out_of_order
returns-clause-out_of_order c = out_of_order_says

pub returns-clause-missing : goal.returns-clause-missing
returns-clause-missing c = missing_says
