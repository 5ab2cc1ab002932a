-- What the callbacks of a step answered (this project's choice).
use Rattle.std.specs.Prelude.{◌≡◌, ◌⊎◌, Bool, List, [], ◌∷◌, is_some}
use Rattle.std.specs.List.{list_any}
use Rattle.jb_collect.specs.AnsweredCalls.{AnsweredCall}

-- some call was answered with a fault
abbrev pub has_fault : {C : Type 0} → List (AnsweredCall C) → Bool
has_fault calls = list_any (λ t. is_some t.fault) calls

-- some of these, in their order
abbrev pub AreSome : {A : Type 0} → (some all : List A) → Type 0
AreSome some [] = some ≡ []
AreSome some (x ∷ xs) = AreSome some xs ⊎ (rest : List _) × (some ≡ x ∷ rest) × AreSome rest xs
