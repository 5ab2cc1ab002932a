use Rattle.std.proofs.Common.{◌≡◌, drop}
use Rattle.jb_program.specs.CommandLine.{rounds_from}
use Rattle.jb_program.proofs.words.line.rounds_of.Given as goal

-- the digits that are left give what all of them give
abbrev pub invariant-loop-digit : goal.invariant-loop-digit
invariant-loop-digit l = rounds_from 0 l.digits ≡ rounds_from l.value (drop l.digit-index l.digits)
