-- Numbers that rise.
use Rattle.std.specs.Prelude.{ℕ, ◌+◌, ◌≤◌, List, [], ◌∷◌}

-- each number is higher than the one before it, and the first is `k` or higher
abbrev pub RiseFrom : ℕ → List ℕ → Type 0
RiseFrom k [] = Unit {0}
RiseFrom k (n ∷ ns) = (k ≤ n) × RiseFrom (n + 1) ns

-- each number is higher than the one before it
abbrev pub Rise : List ℕ → Type 0
Rise ns = RiseFrom 0 ns
