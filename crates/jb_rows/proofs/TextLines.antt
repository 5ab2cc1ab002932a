-- The records of a text that is read as lines are its lines.
use Rattle.std.proofs.Common.{◌≡◌, ◌==◌, ◌++◌, ◌∷◌, ◌∙◌, [], ℕ, Bool, true, false, List, Option, Some, None, refl, ap, sym, subst, map, inl, inr}
use Rattle.std.specs.Prelude.{◌⊎◌, ◌||◌}
use Rattle.std.specs.List.{list_any}
use Rattle.std.proofs.lemmas.Bool.{cases_Bool, eqb-true}
use Rattle.csv.specs.Machine.{Read, after_end, next_record}
use Rattle.csv.specs.Reading.{Reached, is_bom, strip_bom}
use Rattle.csv.specs.declared.parser.Config.{Config}
use Rattle.csv.specs.declared.parser.State.{State}
use Rattle.csv.specs.declared.parser.State.TheVariants as st
use Rattle.csv.specs.declared.parser.Terminator.TheVariants as term
use Rattle.jb_rows.specs.Fields.{Fields}
use Rattle.jb_rows.specs.TextLines.{LinesAreRecords, ends_line, line_and, lines_after, one_field}
use Rattle.jb_rows.specs.Texts.{AreFieldsOf, config_by, config_of, config_with, header_of}

-- how lines are read
abbrev by_line : Config
by_line = config_with false 0

-- no byte is 0
abbrev IsPlain : List ℕ → Type 0
IsPlain text = list_any (λ byte. byte == 0) text ≡ false

-- a state before the first byte of a line
abbrev IsStart : State → Type 0
IsStart s = (s ≡ st.StartRecord) ⊎ (s ≡ st.AfterCr)

-- what is read next is the first of these lines, after which come those of the text that is left
abbrev IsFirst : Option Read → List (List ℕ) → Type 0
IsFirst None lines = lines ≡ []
IsFirst (Some p) lines = (line : List ℕ) × (p.0 ≡ line ∷ []) × IsStart p.1 × IsPlain p.2 × (lines ≡ line ∷ lines_after [] p.2)

-- ---- ONE BYTE

or-left : (a b : Bool) → (a || b) ≡ false → a ≡ false
or-left false b e = refl
or-left true b e = cc e

pub or-right : (a b : Bool) → (a || b) ≡ false → b ≡ false
or-right false b e = e
or-right true b e = cc e

end-starts : (byte : ℕ) → IsStart (after_end term.CRLF byte)
end-starts byte = elim (cases_Bool (byte == 13)) [
  | inl is ↦ inr (rw is refl)
  | inr other ↦ inl (rw other refl)
]

field-ends : (field : List ℕ) (byte : ℕ) (text : List ℕ) → (byte == 0) ≡ false → ends_line byte ≡ true
    → next_record by_line st.InField [] field (byte ∷ text) ≡ Some (field ∷ [], after_end term.CRLF byte, text)
unfolding next_record
field-ends field byte text zero ends = rw (zero, ends) refl

field-goes : (field : List ℕ) (byte : ℕ) (text : List ℕ) → (byte == 0) ≡ false → ends_line byte ≡ false
    → next_record by_line st.InField [] field (byte ∷ text) ≡ next_record by_line st.InField [] (field ++ byte ∷ []) text
unfolding next_record
field-goes field byte text zero ends = rw (zero, ends) refl

start-stays : (byte : ℕ) (text : List ℕ) → ends_line byte ≡ true
    → next_record by_line st.StartRecord [] [] (byte ∷ text) ≡ next_record by_line st.StartRecord [] [] text
unfolding next_record
start-stays byte text ends = rw ends refl

start-goes : (byte : ℕ) (text : List ℕ) → (byte == 0) ≡ false → ends_line byte ≡ false
    → next_record by_line st.StartRecord [] [] (byte ∷ text) ≡ next_record by_line st.InField [] (byte ∷ []) text
unfolding next_record
start-goes byte text zero ends = rw (zero, ends) refl

-- after a carriage return a line begins as at the start
after-return : (text : List ℕ) → next_record by_line st.AfterCr [] [] text ≡ next_record by_line st.StartRecord [] [] text
unfolding next_record
after-return [] = refl
after-return (byte ∷ text) = elim (cases_Bool (byte == 10)) [
  | inl is ↦
      subst (λ b. next_record by_line st.AfterCr [] [] (b ∷ text) ≡ next_record by_line st.StartRecord [] [] (b ∷ text)) (sym (eqb-true byte 10 is)) refl
  | inr other ↦ rw other refl
]

lines-end : (begun : List ℕ) (byte : ℕ) (text : List ℕ) → ends_line byte ≡ true → lines_after begun (byte ∷ text) ≡ line_and begun (lines_after [] text)
unfolding lines_after
lines-end begun byte text ends = rw ends refl

lines-go : (begun : List ℕ) (byte : ℕ) (text : List ℕ) → ends_line byte ≡ false → lines_after begun (byte ∷ text) ≡ lines_after (begun ++ byte ∷ []) text
unfolding lines_after
lines-go begun byte text ends = rw ends refl

-- ---- ONE LINE

first-same : (o p : Option Read) (lines others : List (List ℕ)) → o ≡ p → lines ≡ others → IsFirst p others → IsFirst o lines
first-same o p lines others read same first = subst (λ l. IsFirst o l) (sym same) (subst (λ r. IsFirst r others) (sym read) first)

field-read : (front : ℕ) (field text : List ℕ) → IsPlain text
    → IsFirst (next_record by_line st.InField [] (front ∷ field) text) (lines_after (front ∷ field) text)
unfolding next_record lines_after
field-read front field [] plain = (front ∷ field, refl, inl refl, refl, refl)
field-read front field (byte ∷ text) plain =
    let zero = or-left _ _ plain in
    elim (cases_Bool (ends_line byte)) [
      | inl ends ↦ first-same _ _ _ _ (field-ends (front ∷ field) byte text zero ends) (lines-end (front ∷ field) byte text ends)
          (front ∷ field, refl, end-starts byte, or-right _ _ plain, refl)
      | inr other ↦ first-same _ _ _ _ (field-goes (front ∷ field) byte text zero other) (lines-go (front ∷ field) byte text other)
          (field-read front (field ++ byte ∷ []) text (or-right _ _ plain))
    ]

line-read : (text : List ℕ) → IsPlain text → IsFirst (next_record by_line st.StartRecord [] [] text) (lines_after [] text)
unfolding next_record lines_after
line-read [] plain = refl
line-read (byte ∷ text) plain =
    let zero = or-left _ _ plain in
    elim (cases_Bool (ends_line byte)) [
      | inl ends ↦ first-same _ _ _ _ (start-stays byte text ends) (lines-end [] byte text ends) (line-read text (or-right _ _ plain))
      | inr other ↦ first-same _ _ _ _ (start-goes byte text zero other) (lines-go [] byte text other) (field-read byte [] text (or-right _ _ plain))
    ]

start-read : (s : State) (text : List ℕ) → IsStart s → IsPlain text → IsFirst (next_record by_line s [] [] text) (lines_after [] text)
start-read s text (inl is) plain = subst (λ t. IsFirst (next_record by_line t [] [] text) (lines_after [] text)) (sym is) (line-read text plain)
start-read s text (inr is) plain =
    subst (λ t. IsFirst (next_record by_line t [] [] text) (lines_after [] text)) (sym is)
    (subst (λ r. IsFirst r (lines_after [] text)) (sym (after-return text)) (line-read text plain))

-- ---- ALL LINES

all-read : (records : List Fields) (s s2 : State) (text left : List ℕ) → IsStart s → IsPlain text → Reached by_line s text records s2 left
    → next_record by_line s2 [] [] left ≡ None → records ≡ map one_field (lines_after [] text)
unfolding Reached
all-read [] s s2 text left start plain read none =
    let ends : next_record by_line s [] [] text ≡ None = rw (read.0, read.1) none in
    let no_line = subst (λ r. IsFirst r (lines_after [] text)) ends (start-read s text start plain) in
    sym (ap (map one_field) no_line)
all-read (r ∷ rs) s s2 text left start plain read none =
    let first = subst (λ o. IsFirst o (lines_after [] text)) read.1 (start-read s text start plain) in
    let later = all-read rs read.0.1 s2 read.0.2 left first.2 first.3 read.3 none in
    ap (λ fields. fields ∷ rs) (read.2 ∙ first.1) ∙ ap (λ more. one_field first.0 ∷ more) later ∙ sym (ap (map one_field) first.4)

plain-inside : (text : List ℕ) → IsPlain text → IsPlain (strip_bom text)
unfolding strip_bom
plain-inside [] plain = plain
plain-inside (a ∷ []) plain = plain
plain-inside (a ∷ b ∷ []) plain = plain
plain-inside (a ∷ b ∷ c ∷ rest) plain =
    let inside : IsPlain rest = or-right (c == 0) _ (or-right (b == 0) _ (or-right (a == 0) _ plain)) in
    elim (cases_Bool (is_bom a b c)) [
      | inl is ↦ rw is inside
      | inr other ↦ rw other plain
    ]

pub lines-are-records : LinesAreRecords
lines-are-records options text records is plain read =
    let config : config_of options ≡ by_line = ap (λ i. config_by i options.delimiter) is in
    let fields = subst (λ config. AreFieldsOf config text (header_of options text ++ records)) config read in
    all-read (header_of options text ++ records) st.StartRecord fields.0 (strip_bom text) fields.1 (inl refl) (plain-inside text plain) fields.2 fields.3
