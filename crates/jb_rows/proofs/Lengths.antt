-- How long a record is, packed.
use Rattle.std.proofs.Common.{◌≡◌, ◌≤◌, ◌+◌, ◌/◌, ◌%◌, ◌++◌, ◌∷◌, ◌∙◌, [], ℕ, zero, suc, List, refl, ap, length, length-append, arith}
use Rattle.jb_rows.specs.Fields.{Fields, code_of, packed, packed_field, size_code}
use Rattle.jb_rows.proofs.Packing.{packed-append}

code-length : (full_bytes last : ℕ) → length (code_of full_bytes last) ≡ full_bytes + 1
unfolding code_of
code-length zero last = refl
code-length (suc full_bytes) last = let more = code-length full_bytes last in omega arith

field-length : (field : List ℕ) → length (packed_field field) ≡ length field / 255 + 1 + length field
unfolding packed_field size_code
field-length field =
    let both = length-append (size_code (length field)) field in
    let code = code-length (length field / 255) (length field % 255) in
    omega (arith, both, code)

pub one-more-length : (fields : Fields) (field : List ℕ) → length (packed (fields ++ field ∷ [])) ≡ length (packed fields) + (length field / 255 + 1 + length field)
one-more-length fields field =
    let all = ap length (packed-append fields field) ∙ length-append (packed fields) (packed_field field) in
    let one = field-length field in
    omega (arith, all, one)

pub longer-field : (fields : Fields) (field more : List ℕ) → length (packed (fields ++ field ∷ [])) ≤ length (packed (fields ++ (field ++ more) ∷ []))
longer-field fields field more =
    let a = one-more-length fields field in
    let b = one-more-length fields (field ++ more) in
    let c = length-append field more in
    omega arith

pub field-more : (fields : Fields) (field : List ℕ) → length (packed fields) ≤ length (packed (fields ++ field ∷ []))
field-more fields field = let a = one-more-length fields field in omega arith
