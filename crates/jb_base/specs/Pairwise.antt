-- Two lists of one length, compared place by place.
use Rattle.std.specs.Prelude.{List, [], ◌∷◌}

-- the lists have one length, and this relation holds between the two members at each place
abbrev pub Pairwise : {A B : Type 0} → (A → B → Type 0) → List A → List B → Type 0
Pairwise R [] [] = Unit {0}
Pairwise R [] (y ∷ ys) = ⊥
Pairwise R (x ∷ xs) [] = ⊥
Pairwise R (x ∷ xs) (y ∷ ys) = R x y × Pairwise R xs ys
