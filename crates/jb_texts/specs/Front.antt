-- A text that a writer took in part.
use Rattle.std.specs.Prelude.{◌≡◌, ℕ, List, ◌++◌, Option}
use Rattle.std.specs.Io.KnownBytes.{Appends}

-- The writer holds the front of the text more: nothing of it, some of its bytes, or all.
abbrev pub AppendsFront : (old new : Option (List ℕ)) → (text : List ℕ) → Type 0
AppendsFront old new text = (front : List ℕ) × (rest : List ℕ) × Appends old new front × (text ≡ front ++ rest)
