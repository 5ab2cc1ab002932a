use Rattle.std.proofs.Common.{refl}
use Rattle.jb_repo.specs.declared.events.Event.TheVariants.{Roll, Fail, Drop, Stop}
use Rattle.jb_repo.proofs.PlanEnds.{plan_ends}
use Rattle.jb_repo.proofs.laws.plans_end.Goals as goal

pub returns : goal.returns
returns c = record {
  rolled = λ lane class again. plan_ends (Roll lane class again) refl refl;
  failed = λ lane class again. plan_ends (Fail lane class again) refl refl;
  dropped = λ lane. plan_ends (Drop lane) refl refl;
  stopped = plan_ends Stop refl refl;
}
