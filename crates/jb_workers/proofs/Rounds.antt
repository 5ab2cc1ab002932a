-- A history has no more Rounds than events.
use Rattle.std.proofs.Common.{ℕ, ◌+◌, ◌≤◌, Bool, true, false, if◌then◌else◌, List, [], ◌∷◌, length, suc, arith}
use Rattle.jb_repo.specs.declared.events.Event.{Event}
use Rattle.jb_repo.specs.History.{number, is_round}

one-more : (b : Bool) (n m : ℕ) → n ≤ m → (if b then 1 else 0) + n ≤ suc m
one-more true n m le = omega (arith, le)
one-more false n m le = omega (arith, le)

pub few_rounds : (past : List Event) → number is_round past ≤ length past
few_rounds [] = omega arith
few_rounds (e ∷ past) = one-more (is_round e) (number is_round past) (length past) (few_rounds past)
