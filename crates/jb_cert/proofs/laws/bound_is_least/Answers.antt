use Rattle.jb_cert.proofs.Planned.{bound_is_least_number}
use Rattle.jb_cert.proofs.Certified.{bound_certificate-holds}
use Rattle.jb_cert.proofs.laws.bound_is_least.Goals as goal

pub returns-clause-least : goal.returns-clause-least
returns-clause-least c = bound_is_least_number

pub returns-clause-certified : goal.returns-clause-certified
returns-clause-certified c = bound_certificate-holds
