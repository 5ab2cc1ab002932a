use Rattle.jb_collect.proofs.Taking.{all_are_taken, taken_up_to_the_fault, some_are_taken, taken_one_after_another, none_after_a_fault}
use Rattle.jb_collect.proofs.laws.calls_end_at_a_fault.Goals as goal

pub returns-clause-well : goal.returns-clause-well
returns-clause-well c = all_are_taken

pub returns-clause-fault : goal.returns-clause-fault
returns-clause-fault c = taken_up_to_the_fault

pub returns-clause-memory : goal.returns-clause-memory
returns-clause-memory c = some_are_taken

pub returns-clause-one_after_another : goal.returns-clause-one_after_another
returns-clause-one_after_another c = taken_one_after_another

pub returns-clause-none_after : goal.returns-clause-none_after
returns-clause-none_after c = none_after_a_fault
