use Rattle.std.proofs.Common.{refl}
use Rattle.jb_plan.specs.Blocks.{blocks}
use Rattle.jb_tests.proofs.repo.worked_refusals.Goals as goal

pub returns : goal.returns
unfolding blocks
returns c = record {
  answers = λ class. refl;
  rows = λ class. refl;
  first = λ class. refl;
  second = λ class. refl;
}
