-- Byte strings, one after another in one buffer.
use Rattle.std.specs.Prelude.{ℕ, zero, suc, ◌≡◌, ◌≤◌, List, [], ◌∷◌, slice_range}

-- the strings that end at `ends`; the first one begins at `from`
abbrev pub strings_from : (from : ℕ) → (ends bytes : List ℕ) → List (List ℕ)
strings_from from [] bytes = []
strings_from from (end ∷ ends) bytes = slice_range bytes from end ∷ strings_from end ends bytes

-- no end is below the one before it, beginning with `from`, and the last one is `last`
abbrev pub EndAt : (from : ℕ) → (ends : List ℕ) → (last : ℕ) → Type 0
EndAt from [] last = from ≡ last
EndAt from (end ∷ ends) last = (from ≤ end) × EndAt end ends last

-- where the string of an index begins
abbrev pub start_of : (from : ℕ) → (ends : List ℕ) → (index : ℕ) → ℕ
start_of from [] index = from
start_of from (end ∷ ends) zero = from
start_of from (end ∷ ends) (suc index) = start_of end ends index
