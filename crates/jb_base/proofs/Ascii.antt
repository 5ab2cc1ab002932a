-- Strings in one buffer are ASCII where the buffer is.
use Rattle.std.proofs.Common.{ℕ, ◌<◌, List, [], ◌∷◌, ◌-◌, length, drop, true, false, Bool, sym, subst, arith}
use Rattle.std.proofs.lemmas.List.{drop_all}
use Rattle.std.proofs.lemmas.List.Elements.{All-nil, All-cons, All-head, All-tail, All-take, All-drop, All-append}
use Rattle.std.proofs.lemmas.List.Folds.{drop_split}
use Rattle.std.proofs.lemmas.Str.Ascii.{All-from_ascii, IsAscii-from_all}
use Rattle.std.specs.Prelude.{All, slice_range}
use Rattle.std.specs.Bool.{MatchBool}
use Rattle.std.specs.Str.{IsAscii, IsNotAscii}
use Rattle.jb_base.specs.Packed.{strings_from, EndAt}

ascii_range : (bytes : List ℕ) (from end : ℕ) → IsAscii bytes → IsAscii (slice_range bytes from end)
ascii_range bytes from end ascii =
    let small = All-drop (λ b. b < 128) from bytes (All-from_ascii bytes ascii) in
    IsAscii-from_all (slice_range bytes from end) (All-take (λ b. b < 128) (end - from) (drop from bytes) small)

each : (from : ℕ) (ends bytes : List ℕ) → IsAscii bytes → All IsAscii (strings_from from ends bytes)
each from [] bytes ascii = All-nil IsAscii
each from (end ∷ ends) bytes ascii =
    All-cons IsAscii (slice_range bytes from end) (strings_from end ends bytes) (ascii_range bytes from end ascii) (each end ends bytes ascii)

-- what the strings cover
covered : (from : ℕ) (ends bytes : List ℕ) → EndAt from ends (length bytes) → All IsAscii (strings_from from ends bytes)
    → All (λ b. b < 128) (drop from bytes)
covered from [] bytes ok ascii = subst (All (λ b. b < 128)) (sym (drop_all from bytes (omega (arith, ok)))) (All-nil (λ b. b < 128))
covered from (end ∷ ends) bytes ok ascii =
    let first = slice_range bytes from end in
    let here = All-from_ascii first (All-head IsAscii first (strings_from end ends bytes) ascii) in
    let rest = covered end ends bytes ok.1 (All-tail IsAscii first (strings_from end ends bytes) ascii) in
    subst (All (λ b. b < 128)) (sym (drop_split bytes from end ok.0)) (All-append (λ b. b < 128) first (drop end bytes) here rest)

none : (ends bytes : List ℕ) → EndAt 0 ends (length bytes) → IsNotAscii bytes → ¬ (All IsAscii (strings_from 0 ends bytes))
none ends bytes ok wide ascii =
    let small = IsAscii-from_all bytes (covered 0 ends bytes ok ascii) in
    let below = small wide.0 in
    let above = wide.1 in
    absurd (omega arith)

-- a test of the buffer is one of its strings
pub of_strings : (told : Bool) (ends bytes : List ℕ) → EndAt 0 ends (length bytes) → MatchBool told (IsAscii bytes) (IsNotAscii bytes)
    → MatchBool told (All IsAscii (strings_from 0 ends bytes)) (¬ (All IsAscii (strings_from 0 ends bytes)))
of_strings true ends bytes ok test = each 0 ends bytes test
of_strings false ends bytes ok test = none ends bytes ok test
