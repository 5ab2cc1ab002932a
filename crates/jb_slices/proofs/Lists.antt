-- Fronts of lists.
use Rattle.std.proofs.Common.{◌≡◌, ℕ, ◌+◌, ◌≤◌, List, take, drop, ap, sym, ◌∙◌}
use Rattle.std.proofs.lemmas.List.{drop-drop as drop_twice, drop-take, take-take}

pub take-less : {A : Type 0} → (n m : ℕ) (xs : List A) → n ≤ m → take n (take m xs) ≡ take n xs
take-less n m xs few = take-take n m xs few

pub drop-drop : {A : Type 0} → (a b c : ℕ) (xs : List A) → a + b ≡ c → drop b (drop a xs) ≡ drop c xs
drop-drop a b c xs e = drop_twice b a xs ∙ ap (λ n. drop n xs) e

-- a front of a whole front, after those before it
pub drop-front : {A : Type 0} → (a b c : ℕ) (xs : List A) → a + b ≡ c → drop a (take c xs) ≡ take b (drop a xs)
drop-front a b c xs e = let same : c ≡ a + b = sym e in rw same (drop-take a b xs)
