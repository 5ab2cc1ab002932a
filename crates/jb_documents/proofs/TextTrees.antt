-- Trees that borrow their text, and the tree of that text.
use Rattle.std.proofs.Common.{◌≡◌, ℕ, Bool, true, false, cond, List, [], ◌∷◌, Option, Some, None, option_and_then, IsUtf8, refl, sym, ap, ◌∙◌, append-nil}
use Rattle.std.proofs.lemmas.Str.{is_utf8-from_IsUtf8, IsUtf8-from_is_utf8}
use Rattle.std.specs.Str.{is_utf8}
use Rattle.json.specs.Json as json
use Rattle.json.specs.Json.{value, if_last}
use Rattle.json.specs.Lex.{tokens}
use Rattle.json.specs.Print.{print}
use Rattle.json.specs.Token.{Token}
use Rattle.json.specs.Tree.{json_tokens, HasNumbers}
use Rattle.json.proofs.Printed.Tokens.{tokens-print}
use Rattle.json.proofs.Printed.Trees.{value-json_tokens, ArePrintable-json_tokens}
use Rattle.serde_json.specs.Data.{Data}
use Rattle.serde_json.specs.Read.{of_json, max_depth, read}
use Rattle.jb_job.specs.Reading.{tree_of}
use Rattle.jb_documents.specs.inside.Borrowed.{data_of, in_range, IsReadable}
use Rattle.jb_documents.proofs.InRange.{given, of_json-is}

-- ---- a text that is read

read_as : (bytes : List ℕ) (o : Option (json.Json × List Token)) → value max_depth (tokens bytes) ≡ o → read bytes ≡ option_and_then of_json (option_and_then (λ p. if_last p.0 p.1) o)
read_as bytes o e = ap (λ o. option_and_then of_json (option_and_then (λ p. if_last p.0 p.1) o)) e

pub text_read : (bytes : List ℕ) (j : json.Json) → IsUtf8 bytes → value max_depth (tokens bytes) ≡ Some (j, []) → in_range j ≡ true → tree_of bytes ≡ Some (data_of j)
text_read bytes j utf8 e inside = rw (is_utf8-from_IsUtf8 bytes utf8) (read_as bytes _ e ∙ of_json-is j ∙ ap (λ b. given b (data_of j)) inside)

either : (b : Bool) (o : Option Data) → o ≡ None → cond b o None ≡ None
either true o e = e
either false o e = refl

not_read : (bytes : List ℕ) → read bytes ≡ None → tree_of bytes ≡ None
not_read bytes e = either (is_utf8 bytes) (read bytes) e

pub past_range : (bytes : List ℕ) (j : json.Json) → value max_depth (tokens bytes) ≡ Some (j, []) → in_range j ≡ false → tree_of bytes ≡ None
past_range bytes j e outside = not_read bytes (read_as bytes _ e ∙ of_json-is j ∙ ap (λ b. given b (data_of j)) outside)

pub more_text : (bytes : List ℕ) (j : json.Json) (t : Token) (ts : List Token) → value max_depth (tokens bytes) ≡ Some (j, t ∷ ts) → tree_of bytes ≡ None
more_text bytes j t ts e = not_read bytes (read_as bytes _ e)

pub no_value : (bytes : List ℕ) → value max_depth (tokens bytes) ≡ None → tree_of bytes ≡ None
no_value bytes e = not_read bytes (read_as bytes _ e)

not_utf8 : (bytes : List ℕ) (b : Bool) → is_utf8 bytes ≡ b → (IsUtf8 bytes → ⊥) → cond b (read bytes) None ≡ None
not_utf8 bytes true e h = absurd (h (IsUtf8-from_is_utf8 bytes e))
not_utf8 bytes false e h = refl

pub no_text : (bytes : List ℕ) → (IsUtf8 bytes → ⊥) → tree_of bytes ≡ None
no_text bytes h = not_utf8 bytes (is_utf8 bytes) refl h

-- ---- a tree, printed and read

printed_tokens : (j : json.Json) → HasNumbers j → tokens (print (json_tokens j)) ≡ json_tokens j
printed_tokens j numbers = tokens-print (json_tokens j) (ArePrintable-json_tokens j numbers)

read_itself : (j : json.Json) → IsReadable j → value max_depth (tokens (print (json_tokens j))) ≡ Some (j, [])
read_itself j r = ap (value max_depth) (printed_tokens j r.numbers ∙ sym (append-nil (json_tokens j))) ∙ value-json_tokens j max_depth [] r.nests

pub printed : (bytes : List ℕ) (j : json.Json) → IsReadable j → IsUtf8 bytes → bytes ≡ print (json_tokens j) → tree_of bytes ≡ Some (data_of j)
printed bytes j r utf8 text = text_read bytes j utf8 (ap (λ b. value max_depth (tokens b)) text ∙ read_itself j r) r.ranges
