-- Lists whose members stand in a relation, each to the one at its place.
use Rattle.std.proofs.Common.{◌≡◌, List, [], ◌∷◌, ◌++◌, refl, ap₂}
use Rattle.jb_base.specs.Pairwise.{Pairwise}

-- a list to itself
pub pairwise-itself : {A : Type 0} (R : A → A → Type 0) → ((x : A) → R x x) → (xs : List A) → Pairwise R xs xs
pairwise-itself R law [] = tt
pairwise-itself R law (x ∷ xs) = (law x, pairwise-itself R law xs)

-- one more member in each
pub pairwise-push : {A B : Type 0} (R : A → B → Type 0) (xs : List A) (ys : List B) (x : A) (y : B) → Pairwise R xs ys → R x y → Pairwise R (xs ++ x ∷ []) (ys ++ y ∷ [])
pairwise-push R [] [] x y r last = (last, tt)
pairwise-push R [] (z ∷ ys) x y r last = absurd r
pairwise-push R (z ∷ xs) [] x y r last = absurd r
pairwise-push R (z ∷ xs) (w ∷ ys) x y r last = (r.0, pairwise-push R xs ys x y r.1 last)

-- a list to a third one, over the second
pub pairwise-join : {A B C : Type 0} (R : A → B → Type 0) (S : B → C → Type 0) (T : A → C → Type 0) → ((x : A) (y : B) (z : C) → R x y → S y z → T x z)
    → (xs : List A) (ys : List B) (zs : List C) → Pairwise R xs ys → Pairwise S ys zs → Pairwise T xs zs
pairwise-join R S T law [] [] [] r s = tt
pairwise-join R S T law [] [] (z ∷ zs) r s = absurd s
pairwise-join R S T law [] (y ∷ ys) zs r s = absurd r
pairwise-join R S T law (x ∷ xs) [] zs r s = absurd r
pairwise-join R S T law (x ∷ xs) (y ∷ ys) [] r s = absurd s
pairwise-join R S T law (x ∷ xs) (y ∷ ys) (z ∷ zs) r s = (law x y z r.0 s.0, pairwise-join R S T law xs ys zs r.1 s.1)

-- where the relation leads to one member only, the list is one only
pub pairwise-one : {A B : Type 0} (R : A → B → Type 0) → ((x : A) (y z : B) → R x y → R x z → y ≡ z)
    → (xs : List A) (ys zs : List B) → Pairwise R xs ys → Pairwise R xs zs → ys ≡ zs
pairwise-one R law [] [] [] r s = refl
pairwise-one R law [] [] (z ∷ zs) r s = absurd s
pairwise-one R law [] (y ∷ ys) zs r s = absurd r
pairwise-one R law (x ∷ xs) [] zs r s = absurd r
pairwise-one R law (x ∷ xs) (y ∷ ys) [] r s = absurd s
pairwise-one R law (x ∷ xs) (y ∷ ys) (z ∷ zs) r s = ap₂ ◌∷◌ (law x y z r.0 s.0) (pairwise-one R law xs ys zs r.1 s.1)
