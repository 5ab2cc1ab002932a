-- A disk that is clean behind a call was so before it.
use Rattle.std.proofs.Common.{◌≡◌, ◌≤◌, ℕ, arith}

pub clean_before : (old new : ℕ) → old ≤ new → new ≡ 0 → old ≡ 0
clean_before old new doubts none = omega arith
