-- Numbers of partitions, compared.
use Rattle.std.proofs.Common.{◌≡◌, ℕ, ◌+◌, ◌≤◌, ◌<◌, true, false, List, ◌∷◌, refl, arith, eq-eqb}
use Rattle.std.specs.Prelude.{nat_eq}
use Rattle.std.proofs.lemmas.Bool.Decides.{nat_tests}

pub itself : (n : ℕ) → nat_eq n n ≡ true
itself n = eq-eqb n n refl

pub differ : (m n : ℕ) → m < n → nat_eq m n ≡ false
differ m n lt = grind (arith, nat_tests)

pub differ-back : (m n : ℕ) → n < m → nat_eq m n ≡ false
differ-back m n lt = grind (arith, nat_tests)

pub below-of : (m n : ℕ) → nat_eq m n ≡ false → m ≤ n → m + 1 ≤ n
below-of m n e le = grind (arith, nat_tests)

pub head-of : (m n : ℕ) (ms ns : List ℕ) → m ∷ ms ≡ n ∷ ns → m ≡ n
head-of m n ms ns e = cc

pub tail-of : (m n : ℕ) (ms ns : List ℕ) → m ∷ ms ≡ n ∷ ns → ms ≡ ns
tail-of m n ms ns e = cc
