use Rattle.std.proofs.Common.{refl}
use Rattle.jb_mapper.specs.EvenCover.{even_ranges}
use Rattle.jb_tests.proofs.mapper.worked_covers.Goals as goal

pub returns-clause-seven : goal.returns-clause-seven
unfolding even_ranges
returns-clause-seven c = refl

pub returns-clause-two : goal.returns-clause-two
unfolding even_ranges
returns-clause-two c = refl

pub returns-clause-none : goal.returns-clause-none
unfolding even_ranges
returns-clause-none c = refl
