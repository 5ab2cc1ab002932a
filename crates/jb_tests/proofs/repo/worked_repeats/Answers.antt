use Rattle.std.proofs.Common.{refl}
use Rattle.jb_plan.specs.Blocks.{blocks}
use Rattle.jb_tests.proofs.repo.worked_repeats.Goals as goal

pub returns : goal.returns
unfolding blocks
returns c = record {
  few = λ class. refl;
  many = λ class. refl;
  room = refl;
  no_room = refl;
  below_limit = refl;
  most = λ class. refl;
  counted = λ class. refl;
}
