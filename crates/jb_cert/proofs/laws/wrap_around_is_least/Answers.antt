use Rattle.jb_cert.proofs.EndToEnd.{has_chunk_from_slot}
use Rattle.jb_cert.proofs.Planned.{length-wrapped_rounds, wrapped_rounds_are_least, chunk_in_partition}
use Rattle.jb_cert.proofs.laws.wrap_around_is_least.Goals as goal

pub returns-clause-bound : goal.returns-clause-bound
returns-clause-bound c = length-wrapped_rounds

pub returns-clause-least : goal.returns-clause-least
returns-clause-least c = wrapped_rounds_are_least

pub returns-clause-known : goal.returns-clause-known
returns-clause-known c = λ counts threads r l p j is.
    let has = has_chunk_from_slot counts threads r l (p, j) is in
    (has.lies.known, chunk_in_partition counts threads r l p j has)
