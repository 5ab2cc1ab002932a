-- The plan that a mapper answered.
use Rattle.std.proofs.Common.{◌≡◌, Result, Ok, Err, ap, sym}
use Rattle.jb_base.specs.declared.class.ClassId.{ClassId}
use Rattle.jb_plan.specs.declared.plan.PartitionPlan.{PartitionPlan}

plan_in : PartitionPlan → Result PartitionPlan ClassId → PartitionPlan
plan_in other (Ok plan) = plan
plan_in other (Err class) = other

pub same_plan : (plan other : PartitionPlan) → ◌≡◌ {A = Result PartitionPlan ClassId} (Ok plan) (Ok other) → other ≡ plan
unfolding plan_in
same_plan plan other e = sym (ap (plan_in plan) e)
