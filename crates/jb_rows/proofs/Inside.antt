-- A reader inside a record comes to its end.
use Rattle.std.proofs.Common.{◌≡◌, ◌≤◌, ◌<◌, ◌==◌, ◌++◌, ◌∷◌, ◌∙◌, [], ℕ, Bool, true, false, List, Some, refl, ap, sym, length, length-append, take, arith, inl, inr}
use Rattle.std.specs.Prelude.{◌&&◌}
use Rattle.std.proofs.lemmas.Bool.{cases_Bool}
use Rattle.std.proofs.lemmas.List.{append-nil, length-take-le}
use Rattle.csv.specs.Machine.{Read, ends_at_end, in_field, next_record, start_field, step}
use Rattle.csv.specs.declared.parser.Config.{Config}
use Rattle.csv.specs.declared.parser.State.{State}
use Rattle.csv.specs.declared.parser.State.TheVariants as st
use Rattle.jb_rows.specs.Bytes.{EndsRecord, ReadsOn, csv_state, csv_turn}
use Rattle.jb_rows.specs.Fields.{Fields, packed}
use Rattle.jb_rows.specs.TextLines.{ends_line}
use Rattle.jb_rows.specs.Texts.{config_with}
use Rattle.jb_rows.specs.declared.machine.Place.{Place}
use Rattle.jb_rows.specs.declared.machine.Place.TheVariants as place
use Rattle.jb_rows.specs.declared.machine.Turn.{Turn}
use Rattle.jb_rows.specs.declared.machine.Turn.TheVariants as turn
use Rattle.jb_rows.proofs.Bytes.{copy-one, field-end, record-end, skip-one}
use Rattle.jb_rows.proofs.Lengths.{field-more, longer-field}

inside : (at : Place) → ends_at_end (csv_state at) ≡ true
inside place.StartField = refl
inside place.InField = refl
inside place.InQuoted = refl
inside place.AfterQuote = refl

in-field-turn : (quoting : Bool) (delimiter byte : ℕ) → (t : Turn) × (csv_turn t byte ≡ in_field (config_with quoting delimiter) byte)
in-field-turn quoting delimiter byte = elim (cases_Bool (byte == delimiter)) [
  | inl is ↦ (turn.EndField, rw is refl)
  | inr other ↦ elim (cases_Bool (ends_line byte)) [
    | inl ends ↦ (turn.EndRecord, rw (other, ends) refl)
    | inr goes ↦ (turn.Copy place.InField, rw (other, goes) refl)
  ]
]

start-field-turn : (quoting : Bool) (delimiter byte : ℕ) → (t : Turn) × (csv_turn t byte ≡ start_field (config_with quoting delimiter) byte)
start-field-turn quoting delimiter byte = elim (cases_Bool (quoting && (byte == 34))) [
  | inl is ↦ (turn.Skip place.InQuoted, rw is refl)
  | inr other ↦ let t = in-field-turn quoting delimiter byte in (t.0, t.1 ∙ rw other refl)
]

quoted-turn : (quoting : Bool) (delimiter byte : ℕ) → (t : Turn) × (csv_turn t byte ≡ step (config_with quoting delimiter) st.InQuoted byte)
quoted-turn false delimiter byte = (turn.Copy place.InQuoted, refl)
quoted-turn true delimiter byte = elim (cases_Bool (byte == 34)) [
  | inl is ↦ (turn.Skip place.AfterQuote, rw is refl)
  | inr other ↦ (turn.Copy place.InQuoted, rw other refl)
]

after-quote-turn : (quoting : Bool) (delimiter byte : ℕ) → (t : Turn) × (csv_turn t byte ≡ step (config_with quoting delimiter) st.AfterQuote byte)
after-quote-turn false delimiter byte = in-field-turn false delimiter byte
after-quote-turn true delimiter byte = elim (cases_Bool (byte == 34)) [
  | inl is ↦ (turn.Copy place.InQuoted, rw is refl)
  | inr other ↦ let t = in-field-turn true delimiter byte in (t.0, t.1 ∙ rw other refl)
]

a-turn : (quoting : Bool) (delimiter : ℕ) (at : Place) (byte : ℕ) → (t : Turn) × (csv_turn t byte ≡ step (config_with quoting delimiter) (csv_state at) byte)
a-turn quoting delimiter place.StartField byte = start-field-turn quoting delimiter byte
a-turn quoting delimiter place.InField byte = in-field-turn quoting delimiter byte
a-turn quoting delimiter place.InQuoted byte = quoted-turn quoting delimiter byte
a-turn quoting delimiter place.AfterQuote byte = after-quote-turn quoting delimiter byte

-- the end of the text ends the record
pub ends-with-text : (config : Config) (at : Place) (fields : Fields) (field : List ℕ) → next_record config (csv_state at) fields field [] ≡ Some (fields ++ field ∷ [], st.StartRecord, [])
unfolding next_record
ends-with-text config at fields field = rw (inside at) refl

-- THE RECORD IS AT LEAST AS LONG as what was read of it
at-most : (a b c : ℕ) → a ≤ b → b ≤ c → a ≤ c
at-most a b c f g = omega arith

same-most : (a : ℕ) → a ≤ a
same-most a = omega arith

abbrev Grows : Config → State → Fields → (field text : List ℕ) → Type 0
Grows config s fields field text = (read : Read) × (next_record config s fields field text ≡ Some read) × (length (packed (fields ++ field ∷ [])) ≤ length (packed read.0))

grows-by : (quoting : Bool) (delimiter : ℕ) (at : Place) (fields : Fields) (field : List ℕ) (byte : ℕ) (text : List ℕ) (t : Turn)
    → csv_turn t byte ≡ step (config_with quoting delimiter) (csv_state at) byte
    → ((next : Place) (fields2 : Fields) (field2 : List ℕ) → Grows (config_with quoting delimiter) (csv_state next) fields2 field2 text)
    → Grows (config_with quoting delimiter) (csv_state at) fields field (byte ∷ text)
grows-by quoting delimiter at fields field byte text (turn.Skip next) e more =
    let h = more next fields field in
    (h.0, skip-one (config_with quoting delimiter) (csv_state at) (csv_state next) fields field byte e text ∙ h.1, h.2)
grows-by quoting delimiter at fields field byte text (turn.Copy next) e more =
    let h = more next fields (field ++ byte ∷ []) in
    (h.0, copy-one (config_with quoting delimiter) (csv_state at) (csv_state next) fields field byte e text ∙ h.1, at-most _ _ _ (longer-field fields field (byte ∷ [])) h.2)
grows-by quoting delimiter at fields field byte text turn.EndField e more =
    let h = more place.StartField (fields ++ field ∷ []) [] in
    (h.0, field-end (config_with quoting delimiter) (csv_state at) st.StartField fields field byte e text ∙ h.1, at-most _ _ _ (field-more (fields ++ field ∷ []) []) h.2)
grows-by quoting delimiter at fields field byte text turn.EndRecord e more =
    let h = record-end (config_with quoting delimiter) (csv_state at) fields field byte e text in
    ((fields ++ field ∷ [], h.0, text), h.1, same-most _)

pub grows : (quoting : Bool) (delimiter : ℕ) (at : Place) (fields : Fields) (field text : List ℕ) → Grows (config_with quoting delimiter) (csv_state at) fields field text
grows quoting delimiter at fields field [] = ((fields ++ field ∷ [], st.StartRecord, []), ends-with-text (config_with quoting delimiter) at fields field, same-most _)
grows quoting delimiter at fields field (byte ∷ text) =
    let t = a-turn quoting delimiter at byte in
    grows-by quoting delimiter at fields field byte text t.0 t.1 (λ next fields2 field2. grows quoting delimiter next fields2 field2 text)

-- one byte that a record begins with is a record
pub one-byte : (quoting : Bool) (delimiter byte : ℕ) → (read : Read) × (next_record (config_with quoting delimiter) st.StartField [] [] (byte ∷ []) ≡ Some read)
    × (read.2 ≡ []) × (ends_at_end read.1 ≡ false)
one-byte quoting delimiter byte = by (a-turn quoting delimiter place.StartField byte).0 (a-turn quoting delimiter place.StartField byte).1
  where
    by : (t : Turn) → csv_turn t byte ≡ step (config_with quoting delimiter) st.StartField byte
        → (read : Read) × (next_record (config_with quoting delimiter) st.StartField [] [] (byte ∷ []) ≡ Some read) × (read.2 ≡ []) × (ends_at_end read.1 ≡ false)
    by (turn.Skip next) e =
        ((_, st.StartRecord, []), skip-one (config_with quoting delimiter) st.StartField (csv_state next) [] [] byte e [] ∙ ends-with-text (config_with quoting delimiter) next [] [], refl, refl)
    by (turn.Copy next) e =
        ((_, st.StartRecord, []), copy-one (config_with quoting delimiter) st.StartField (csv_state next) [] [] byte e [] ∙ ends-with-text (config_with quoting delimiter) next [] (byte ∷ []), refl, refl)
    by turn.EndField e =
        ((_, st.StartRecord, []), field-end (config_with quoting delimiter) st.StartField st.StartField [] [] byte e [] ∙ ends-with-text (config_with quoting delimiter) place.StartField ([] ∷ []) [], refl, refl)
    by turn.EndRecord e =
        let h = record-end (config_with quoting delimiter) st.StartField [] [] byte e [] in
        ((_, h.0, []), h.1, refl, h.2)

-- ---- A RECORD THAT IS LONGER

abbrev pub HasLonger : Config → (left : List ℕ) → (longest : ℕ) → Type 0
HasLonger config left longest = (read : Read) × (next_record config st.StartField [] [] left ≡ Some read) × (longest < length (packed read.0))

-- what was read of it is longer
pub longer-so-far : (quoting : Bool) (delimiter : ℕ) (at : Place) (fields : Fields) (field left bytes rest : List ℕ) (longest : ℕ)
    → ReadsOn (config_with quoting delimiter) st.StartField [] [] bytes (csv_state at) fields field → left ≡ bytes ++ rest
    → longest < length (packed (fields ++ field ∷ [])) → HasLonger (config_with quoting delimiter) left longest
longer-so-far quoting delimiter at fields field left bytes rest longest reads split long =
    let more = grows quoting delimiter at fields field rest in
    (more.0, rw split (reads rest ∙ more.1), at-least longest (length (packed (fields ++ field ∷ []))) (length (packed more.0.0)) long more.2)
  where
    at-least : (a b c : ℕ) → a < b → b ≤ c → a < c
    at-least a b c f g = omega arith

-- all of it is
pub longer-whole : (config : Config) (fields : Fields) (left bytes rest : List ℕ) (longest : ℕ) → EndsRecord config st.StartField [] [] bytes fields → left ≡ bytes ++ rest
    → longest < length (packed fields) → HasLonger config left longest
longer-whole config fields left bytes rest longest ends split long =
    let e = ends rest in
    ((fields, e.0, rest), rw split e.1, long)

-- the end of the text ends it
pub last-is : (config : Config) (at : Place) (fields : Fields) (field bytes : List ℕ) → ReadsOn config st.StartField [] [] bytes (csv_state at) fields field
    → next_record config st.StartField [] [] bytes ≡ Some (fields ++ field ∷ [], st.StartRecord, [])
last-is config at fields field bytes reads =
    ap (next_record config st.StartField [] []) (sym (append-nil bytes)) ∙ reads [] ∙ ends-with-text config at fields field

-- a part of one byte at least is some
pub some-part : (bytes window : List ℕ) (count : ℕ) → 0 < count → count ≤ length window → 0 < length (bytes ++ take count window)
some-part bytes window count some within =
    let both = length-append bytes (take count window) in
    let part = length-take-le count window within in
    omega arith
