use Rattle.std.proofs.Common.{◌≡◌, sum, take}
use Rattle.jb_rounds.specs.inside.Starts.{starts_from}
use Rattle.jb_rounds.proofs.places.starts_of.Given as goal

abbrev pub invariant-loop-count : goal.invariant-loop-count
invariant-loop-count l =
    (l.end ≡ sum (take l.count-index l.counts)) × (l.starts.items ≡ starts_from 0 (take l.count-index l.counts))
