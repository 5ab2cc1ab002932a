-- The lines of records, one behind the other.
use Rattle.std.proofs.Common.{◌≡◌, ℕ, ◌+◌, ◌<◌, List, [], ◌∷◌, ◌++◌, Option, None, Some, length, take, ap, map, subst, sym, ◌∙◌}
use Rattle.std.specs.Io.KnownBytes.{Appends, Keeps}
use Rattle.std.specs.List.{concat}
use Rattle.std.specs.Prelude.{IfSome, slice_index_or}
use Rattle.std.proofs.lemmas.List.{append-nil, map-append, map_more}
use Rattle.std.proofs.lemmas.List.Folds.{concat-append}
use Rattle.csv.proofs.WriteFacts.{appends-more}
use Rattle.jb_rows.specs.Fields.{Fields, fields_in}
use Rattle.jb_rows.specs.Streams.{csv_row, csv_rows}

lines-of-both : (delimiter : ℕ) (first later : List Fields) → csv_rows delimiter (first ++ later) ≡ csv_rows delimiter first ++ csv_rows delimiter later
lines-of-both delimiter first later = ap concat (map-append (csv_row delimiter) first later) ∙ concat-append (map (csv_row delimiter) first) (map (csv_row delimiter) later)

-- the lines of the records in the first strings, and then that of the next one
pub one-written : (delimiter : ℕ) (old middle new : Option (List ℕ)) (strings : List (List ℕ)) (index : ℕ) (string : List ℕ) (fields : Fields) → index < length strings
    → string ≡ slice_index_or strings index [] → fields ≡ fields_in string → Appends old middle (csv_rows delimiter (map fields_in (take index strings)))
    → Appends middle new (csv_row delimiter fields) → Appends old new (csv_rows delimiter (map fields_in (take (index + 1) strings)))
one-written delimiter old middle new strings index string fields below is has before one =
    let first = map fields_in (take index strings) in
    let front = map_more fields_in strings index [] below ∙ ap (λ last. first ++ last ∷ []) (sym (has ∙ ap fields_in is)) in
    let lines = ap (csv_rows delimiter) front ∙ lines-of-both delimiter first (fields ∷ []) ∙ ap (λ line. csv_rows delimiter first ++ line) (append-nil (csv_row delimiter fields)) in
    subst (Appends old new) (sym lines) (appends-more old middle new (csv_rows delimiter first) (csv_row delimiter fields) before one)

pub appends-kept : (old middle new : Option (List ℕ)) (bytes : List ℕ) → Appends old middle bytes → Keeps middle new → Appends old new bytes
appends-kept None middle new bytes a k = tt
appends-kept (Some xs) None new bytes a k = absurd a
appends-kept (Some xs) (Some ys) None bytes a k = absurd k
appends-kept (Some xs) (Some ys) (Some zs) bytes a k = k ∙ a

pub known : {A : Type 0} (o : Option A) (P : A → Type 0) (x : A) → o ≡ Some x → IfSome o P → P x
known None P x e h = cc e
known {A} (Some y) P x e h = let same : y ≡ x = cc in subst P same h
