-- The parts of a report: texts, and results that follow them.
use Rattle.std.specs.Prelude.{◌≡◌, ℕ, List, ◌++◌, length, map, flat_map, Option}
use Rattle.std.specs.Io.KnownBytes.{Appends}
use Rattle.std.specs.Str.Lossy.{utf8_lossy}
use Rattle.json.specs.Token.{Token, string}
use Rattle.json.specs.Lex.{tokens}
use Rattle.json.specs.Print.{print}
use Rattle.jb_cert.specs.Load.{longest_count}
use Rattle.jb_texts.specs.declared.report.parts.Part.{Part}

-- results as texts
abbrev pub results_tokens : List (List ℕ) → List Token
results_tokens results = map (λ bytes. string (utf8_lossy bytes)) results

abbrev pub part_tokens : Part → List Token
part_tokens part = tokens part.text.items ++ results_tokens part.results

abbrev pub part_text : Part → List ℕ
part_text part = part.text.items ++ print (results_tokens part.results)

-- the bytes of the longest result, or 0 without results
abbrev pub longest : List (List ℕ) → ℕ
longest results = longest_count (map length results)

abbrev pub longest_of_parts : List Part → ℕ
longest_of_parts parts = longest_count (map (λ part. longest part.results) parts)

-- whatever follows, what is printed after the parts continues as if all were printed at once
abbrev pub PrintsOn : List Part → List Token → Type 0
PrintsOn parts next = (rest : List Token) → print (flat_map part_tokens parts ++ (next ++ rest)) ≡ flat_map part_text parts ++ print (next ++ rest)

-- of a block and the text after it the first bytes are passed on, and the others are left in the block
abbrev pub PassesOn : (old new : Option (List ℕ)) → (block text left : List ℕ) → Type 0
PassesOn old new block text left = (passed : List ℕ) × Appends old new passed × (block ++ text ≡ passed ++ left)
