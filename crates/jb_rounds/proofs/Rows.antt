-- Worked prefix sums, computed from the definitions alone.
use Rattle.std.proofs.Common.{◌≡◌, ◌∷◌, [], refl}
use Rattle.jb_rounds.specs.inside.Starts.{starts_from, counts_between}

starts_gap : starts_from 0 (2 ∷ 0 ∷ 2 ∷ []) ≡ 0 ∷ 2 ∷ 2 ∷ 4 ∷ []
starts_gap = refl

counts_gap : counts_between (0 ∷ 2 ∷ 2 ∷ 4 ∷ []) ≡ 2 ∷ 0 ∷ 2 ∷ []
counts_gap = refl
