use Rattle.jb_step.proofs.table.Apart.{others_dont_count, heard_of_partition, attempts_are_alone}
use Rattle.jb_step.proofs.laws.others_dont_count.Goals as goal

pub returns-clause-others : goal.returns-clause-others
returns-clause-others c = others_dont_count

pub returns-clause-heard : goal.returns-clause-heard
returns-clause-heard c = heard_of_partition c.partitions_are_heard_apart.ensures

pub returns-clause-attempts : goal.returns-clause-attempts
returns-clause-attempts c = attempts_are_alone
