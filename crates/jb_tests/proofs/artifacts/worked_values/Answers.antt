use Rattle.std.proofs.Common.{◌++◌, [], refl, codes, arith}
use Rattle.std.proofs.lemmas.Fmt.{decimal_digit}
use Rattle.jb_artifacts.specs.Faults.{used_at}
use Rattle.jb_tests.proofs.artifacts.worked_values.Goals as goal

pub returns-clause-read_fault_passed : goal.returns-clause-read_fault_passed
unfolding used_at
returns-clause-read_fault_passed c = (refl, refl, refl)

pub returns-clause-collected : goal.returns-clause-collected
returns-clause-collected c =
    let zero_is = decimal_digit 0 (omega arith) in
    let two_is = decimal_digit 2 (omega arith) in
    λ i. zero_is i ++ codes ":" ++ two_is i ++ codes ":" ++ two_is i ++ []

pub returns-clause-collected_last : goal.returns-clause-collected_last
returns-clause-collected_last c =
    let zero_is = decimal_digit 0 (omega arith) in
    let three_is = decimal_digit 3 (omega arith) in
    λ i. zero_is i ++ codes ":" ++ three_is i ++ codes ":" ++ three_is i ++ codes ":end"
