-- What idle lanes have.
use Rattle.std.specs.Prelude.{ℕ, zero, suc, List, [], ◌∷◌}

-- for each a space and a dash
abbrev pub idle_text : ℕ → List ℕ
idle_text zero = []
idle_text (suc n) = 32 ∷ 45 ∷ idle_text n
