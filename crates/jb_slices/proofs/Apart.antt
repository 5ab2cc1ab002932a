-- One slice's list.
use Rattle.std.proofs.Common.{arith}
use Rattle.std.proofs.lemmas.Bool.{eqb-true}
use Rattle.jb_slices.specs.JobLaws.{SlicesAreApart}

pub apart : SlicesAreApart
apart job functions items folder number all so-far has slice = record { each = λ k. grind (arith, eqb-true); none = λ k no. grind (arith, eqb-true) }
