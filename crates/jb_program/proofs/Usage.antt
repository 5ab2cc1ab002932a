-- The lines on a wrong word, put together.
use Rattle.std.proofs.Common.{◌≡◌, ℕ, List, [], ◌∷◌, ◌++◌, codes, ap, ◌∙◌, append-nil}
use Rattle.std.specs.List.{concat}
use Rattle.jb_program.specs.UsageText.{wrong_text}

pub wrong-joined : (front word back rest given right : List ℕ) → front ≡ codes "wrong word: `" → word ≡ given → back ≡ codes "`\n" → rest ≡ right
    → concat (front ∷ word ∷ back ∷ rest ∷ []) ≡ wrong_text given right
wrong-joined front word back rest given right begins is ends advised =
    ap (λ zs. zs ++ (word ++ (back ++ (rest ++ [])))) begins ∙ ap (λ zs. codes "wrong word: `" ++ (zs ++ (back ++ (rest ++ [])))) is
    ∙ ap (λ zs. codes "wrong word: `" ++ (given ++ (zs ++ (rest ++ [])))) ends ∙ ap (λ zs. codes "wrong word: `" ++ (given ++ (codes "`\n" ++ zs))) (append-nil rest ∙ advised)
