use Rattle.jb_documents.proofs.FaultOrder.{planned-in-order}
use Rattle.jb_documents.proofs.run.fault_lists.planned_faults.Goals as goal

pub new-requires : goal.new-requires
new-requires c = planned-in-order c.args.job.now.classes c.args.field c.args.records _ c.in_ok-faults.faults.items c.in_ok-faults.ensures
