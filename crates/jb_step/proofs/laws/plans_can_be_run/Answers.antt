use Rattle.jb_step.proofs.plans.ChunksInOrder.{chunks_are_blocks, next_can_run, runs_in_order, runs_all}
use Rattle.jb_step.proofs.plans.Holding.{begins_with_table, begins_with_tasks, partitions_stay}
use Rattle.jb_step.proofs.plans.Whole.{ends_whole}
use Rattle.jb_step.proofs.beginning.Starting.{begins_with_rows}
use Rattle.jb_step.proofs.laws.plans_can_be_run.Goals as goal

pub returns-clause-next : goal.returns-clause-next
returns-clause-next c = next_can_run c.lower_laws.ensures.chunks

pub returns-clause-order : goal.returns-clause-order
returns-clause-order c = runs_in_order c.lower_laws.ensures.chunks

pub returns-clause-all : goal.returns-clause-all
returns-clause-all c = runs_all c.lower_laws.ensures.chunks

pub returns-clause-tasks : goal.returns-clause-tasks
returns-clause-tasks c = begins_with_tasks

pub returns-clause-begins : goal.returns-clause-begins
returns-clause-begins c = begins_with_table

pub returns-clause-stay : goal.returns-clause-stay
returns-clause-stay c = partitions_stay

pub returns-clause-whole : goal.returns-clause-whole
returns-clause-whole c = ends_whole c.lower_laws.ensures.chunks

pub returns-clause-rows : goal.returns-clause-rows
returns-clause-rows c = begins_with_rows

pub returns-clause-blocks : goal.returns-clause-blocks
returns-clause-blocks c = chunks_are_blocks c.lower_laws.ensures.chunks
