-- Text that is written from its end on.
use Rattle.std.proofs.Common.{◌≡◌, ℕ, ◌+◌, ◌-◌, ◌≤◌, ◌<◌, ◌^◌, List, ◌∷◌, length, set, decimal, drop, ap, ◌∙◌, arith}
use Rattle.std.proofs.lemmas.Fmt.{length-decimal-le}
use Rattle.std.proofs.lemmas.List.{drop-set}

pub count-length : (n : ℕ) → n < 2 ^ 64 → length (decimal n) ≤ 20
count-length n fits = length-decimal-le 20 n (omega arith) (omega (arith, fits)) fits

-- one byte before the text from a place on
pub byte-before : (xs : List ℕ) (at b : ℕ) (text : List ℕ) → 1 ≤ at → at ≤ length xs → drop at xs ≡ text → drop (at - 1) (set xs (at - 1) b) ≡ b ∷ text
byte-before xs at b text some within is =
    let next : at - 1 + 1 ≡ at = omega arith in
    drop-set xs (at - 1) b (omega arith) ∙ ap (λ rest. b ∷ rest) (ap (λ n. drop n xs) next ∙ is)
