use Rattle.jb_cert.proofs.Lanes.{lane_found}
use Rattle.jb_cert.proofs.Rising.{slots_rise}
use Rattle.jb_cert.proofs.laws.lanes_are_found.Goals as goal

pub returns-clause-found : goal.returns-clause-found
returns-clause-found c = lane_found

pub returns-clause-rise : goal.returns-clause-rise
returns-clause-rise c = slots_rise
