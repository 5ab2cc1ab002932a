-- Texts that are written one behind another.
use Rattle.std.proofs.Common.{◌≡◌, ℕ, zero, suc, ◌<◌, List, [], ◌∷◌, ◌++◌, map, length, get_or, take, drop, refl, ap, sym, ◌∙◌, append_assoc, append-nil, arith}
use Rattle.std.specs.List.{concat}

module _ {X : Type 0} (text : X → List ℕ) where
  -- the texts so far, this one and the later ones
  pub joined-at : (xs : List X) (k : ℕ) (d : X) → k < length xs → (concat (map text (take k xs)) ++ text (get_or xs k d)) ++ concat (map text (drop (suc k) xs)) ≡ concat (map text xs)
  joined-at [] k d below = absurd (omega (arith, below))
  joined-at (x ∷ xs) zero d below = refl
  joined-at (x ∷ xs) (suc k) d below =
      let before = concat (map text (take k xs)) in
      let this = text (get_or xs k d) in
      ap (λ zs. zs ++ concat (map text (drop (suc k) xs))) (append_assoc (text x) before this) ∙ append_assoc (text x) (before ++ this) (concat (map text (drop (suc k) xs)))
      ∙ ap (λ zs. text x ++ zs) (joined-at xs k d (omega (arith, below)))

  -- one text more
  pub joined-more : (xs : List X) (k : ℕ) (d : X) → k < length xs → concat (map text (take (suc k) xs)) ≡ concat (map text (take k xs)) ++ text (get_or xs k d)
  joined-more [] k d below = absurd (omega (arith, below))
  joined-more (x ∷ xs) zero d below = append-nil (text x)
  joined-more (x ∷ xs) (suc k) d below = ap (λ zs. text x ++ zs) (joined-more xs k d (omega (arith, below))) ∙ sym (append_assoc (text x) (concat (map text (take k xs))) (text (get_or xs k d)))
