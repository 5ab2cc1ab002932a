-- The number of a text, by whether a minus sign stands before its digits.
use Rattle.std.proofs.Common.{◌≡◌, ℕ, ◌==◌, List, true, false, get_or, drop, refl}
use Rattle.fast_float.specs.Text.{scan}
use Rattle.serde_json.specs.Read.{number_from, number_of}

pub below-zero : (text : List ℕ) → (get_or text 0 0 == 45) ≡ true → number_from true (scan (drop 1 text)) ≡ number_of text
unfolding number_of
below-zero text signed = rw signed refl

pub from-zero : (text : List ℕ) → (get_or text 0 0 == 45) ≡ false → number_from false (scan text) ≡ number_of text
unfolding number_of
from-zero text unsigned = rw unsigned refl
