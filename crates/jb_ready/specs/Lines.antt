-- The lines of a text.
use Rattle.std.specs.Prelude.{ℕ, ◌-◌, ◌==◌, nat_eq, if◌then◌else◌, List, [], ◌∷◌, length, map, take}
use Rattle.std.specs.List.{ends_with, slice_split}

abbrev pub line_feed : ℕ
line_feed = 10

abbrev pub carriage_return : ℕ
carriage_return = 13

-- the text without this byte at its end, if it ends with it
abbrev pub without_last : (byte : ℕ) → List ℕ → List ℕ
without_last byte text = if ends_with nat_eq text (byte ∷ []) then take (length text - 1) text else text

-- the parts between line feeds, each without a carriage return at its end
abbrev pub parts : List ℕ → List (List ℕ)
parts text = map (without_last carriage_return) (slice_split (λ b. b == line_feed) text)

-- THE LINES OF A TEXT: a text of no bytes has none; a line feed at the text's end begins no line
unfoldable pub lines : List ℕ → List (List ℕ)
lines [] = []
lines (byte ∷ more) = parts (without_last line_feed (byte ∷ more))
