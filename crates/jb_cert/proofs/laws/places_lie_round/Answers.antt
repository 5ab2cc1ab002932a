use Rattle.jb_cert.proofs.EndToEnd.{partition_at_place-is}
use Rattle.jb_cert.proofs.laws.places_lie_round.Goals as goal

pub returns : goal.returns
returns c = λ counts p x known from until. partition_at_place-is counts p x (record { known = known; from = from; until = until })
