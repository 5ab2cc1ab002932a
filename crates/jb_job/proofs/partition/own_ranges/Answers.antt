use Rattle.std.proofs.Common.{rules}
use Rattle.jb_job.specs.JobRecord.{own_ranges_at}
use Rattle.jb_job.proofs.partition.own_ranges.Goals as goal

pub returns-in_err-list-clause-exact : goal.returns-in_err-list-clause-exact
unfolding own_ranges_at
returns-in_err-list-clause-exact c = search rules

pub returns-clause-exact : goal.returns-clause-exact
unfolding own_ranges_at
returns-clause-exact c = search rules

pub returns-clause-alone : goal.returns-clause-alone
unfolding own_ranges_at
returns-clause-alone c = search rules
