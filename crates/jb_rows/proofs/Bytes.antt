-- What bytes do to a reader of records.
use Rattle.std.proofs.Common.{◌≡◌, ◌==◌, ◌++◌, ◌∷◌, ◌∙◌, [], ℕ, Bool, true, false, List, Some, refl, ap, sym, subst, append_assoc, inl, inr}
use Rattle.std.specs.Prelude.{if◌then◌else◌}
use Rattle.std.proofs.lemmas.Bool.{cases_Bool, eqb-true}
use Rattle.csv.specs.Machine.{Runs, after_end, ends_at_end, field_after, fields_after, is_end, next_record, step}
use Rattle.csv.specs.declared.parser.Action.{Action}
use Rattle.csv.specs.declared.parser.Action.TheVariants as act
use Rattle.csv.specs.declared.parser.Config.{Config}
use Rattle.csv.specs.declared.parser.State.{State}
use Rattle.csv.specs.declared.parser.State.TheVariants as st
use Rattle.csv.specs.declared.parser.Terminator.TheVariants as term
use Rattle.csv.proofs.ReadFacts.{run-copies}
use Rattle.jb_rows.specs.Bytes.{BeginsRecord, EndsRecord, ReadsOn}
use Rattle.jb_rows.specs.Fields.{Fields}
use Rattle.jb_rows.specs.TextLines.{ends_line}
use Rattle.jb_rows.specs.Texts.{config_with}

-- ---- ONE BYTE

-- a byte whose state and action are known
by-step : (config : Config) (o : State × Action) (s : State) (fields : Fields) (field : List ℕ) (byte : ℕ) (after : List ℕ) → o ≡ step config s byte
    → next_record config s fields field (byte ∷ after) ≡ (if is_end o.1 then Some (fields_after o.1 fields field, o.0, after) else next_record config o.0 (fields_after o.1 fields field) (field_after o.1 byte field) after)
unfolding next_record
by-step config o s fields field byte after e = rw e refl

pub skip-one : (config : Config) (s s2 : State) (fields : Fields) (field : List ℕ) (byte : ℕ) → (s2, act.Skip) ≡ step config s byte
    → ReadsOn config s fields field (byte ∷ []) s2 fields field
skip-one config s s2 fields field byte e after = by-step config (s2, act.Skip) s fields field byte after e

pub copy-one : (config : Config) (s s2 : State) (fields : Fields) (field : List ℕ) (byte : ℕ) → (s2, act.Copy) ≡ step config s byte
    → ReadsOn config s fields field (byte ∷ []) s2 fields (field ++ byte ∷ [])
copy-one config s s2 fields field byte e after = by-step config (s2, act.Copy) s fields field byte after e

pub field-end : (config : Config) (s s2 : State) (fields : Fields) (field : List ℕ) (byte : ℕ) → (s2, act.EndField) ≡ step config s byte
    → ReadsOn config s fields field (byte ∷ []) s2 (fields ++ field ∷ []) []
field-end config s s2 fields field byte e after = by-step config (s2, act.EndField) s fields field byte after e

end-is-between : (byte : ℕ) → ends_at_end (after_end term.CRLF byte) ≡ false
end-is-between byte = elim (cases_Bool (byte == 13)) [
  | inl is ↦ rw is refl
  | inr other ↦ rw other refl
]

pub record-end : (config : Config) (s : State) (fields : Fields) (field : List ℕ) (byte : ℕ) → (after_end term.CRLF byte, act.EndRecord) ≡ step config s byte
    → EndsRecord config s fields field (byte ∷ []) (fields ++ field ∷ [])
record-end config s fields field byte e after =
    (after_end term.CRLF byte, by-step config (after_end term.CRLF byte, act.EndRecord) s fields field byte after e, end-is-between byte)

-- ---- MANY

pub reads-both : (config : Config) (s s1 s2 : State) (fields fields1 fields2 : Fields) (field field1 field2 x y : List ℕ)
    → ReadsOn config s fields field x s1 fields1 field1 → ReadsOn config s1 fields1 field1 y s2 fields2 field2 → ReadsOn config s fields field (x ++ y) s2 fields2 field2
reads-both config s s1 s2 fields fields1 fields2 field field1 field2 x y first later after = rw (append_assoc x y after) (first (y ++ after) ∙ later after)

pub reads-end : (config : Config) (s s1 : State) (fields fields1 fields2 : Fields) (field field1 x y : List ℕ)
    → ReadsOn config s fields field x s1 fields1 field1 → EndsRecord config s1 fields1 field1 y fields2 → EndsRecord config s fields field (x ++ y) fields2
reads-end config s s1 fields fields1 fields2 field field1 x y first later after =
    let ends = later after in
    (ends.0, rw (append_assoc x y after) (first (y ++ after) ∙ ends.1), ends.2)

-- a byte that joins the field, and a run of such behind it
pub copy-run : (config : Config) (s s2 : State) (fields : Fields) (field : List ℕ) (byte : ℕ) (run : List ℕ) → (s2, act.Copy) ≡ step config s byte → Runs config s2 run
    → ReadsOn config s fields field (byte ∷ run) s2 fields (field ++ byte ∷ run)
copy-run config s s2 fields field byte run e runs after =
    copy-one config s s2 fields field byte e (run ++ after)
    ∙ run-copies config s2 fields (field ++ byte ∷ []) run after runs
    ∙ ap (λ f. next_record config s2 fields f after) (append_assoc field (byte ∷ []) run)

-- ---- BETWEEN RECORDS

-- from two states a byte does the same
same-step : (config : Config) (s t : State) (fields : Fields) (field : List ℕ) (byte : ℕ) (text : List ℕ) → step config s byte ≡ step config t byte
    → next_record config s fields field (byte ∷ text) ≡ next_record config t fields field (byte ∷ text)
unfolding next_record
same-step config s t fields field byte text e = rw e refl

same-none : (config : Config) → next_record config st.AfterCr [] [] [] ≡ next_record config st.StartRecord [] [] []
unfolding next_record
same-none config = refl

-- after a carriage return a record begins as at the start
after-return : (quoting : Bool) (delimiter : ℕ) (text : List ℕ) → next_record (config_with quoting delimiter) st.AfterCr [] [] text ≡ next_record (config_with quoting delimiter) st.StartRecord [] [] text
after-return quoting delimiter [] = same-none (config_with quoting delimiter)
after-return quoting delimiter (byte ∷ text) = same-step (config_with quoting delimiter) st.AfterCr st.StartRecord [] [] byte text (elim (cases_Bool (byte == 10)) [
  | inl is ↦
      subst (λ b. step (config_with quoting delimiter) st.AfterCr b ≡ step (config_with quoting delimiter) st.StartRecord b) (sym (eqb-true byte 10 is)) refl
  | inr other ↦ rw other refl
])

pub between-same : (quoting : Bool) (delimiter : ℕ) (s : State) (text : List ℕ) → ends_at_end s ≡ false
    → next_record (config_with quoting delimiter) s [] [] text ≡ next_record (config_with quoting delimiter) st.StartRecord [] [] text
between-same quoting delimiter st.StartRecord text e = refl
between-same quoting delimiter st.AfterCr text e = after-return quoting delimiter text
between-same quoting delimiter st.StartField text e = cc e
between-same quoting delimiter st.InField text e = cc e
between-same quoting delimiter st.InQuoted text e = cc e
between-same quoting delimiter st.AfterQuote text e = cc e
between-same quoting delimiter st.InEscape text e = cc e
between-same quoting delimiter st.InComment text e = cc e

-- the end of a line between records
pub end-skipped : (quoting : Bool) (delimiter byte : ℕ) → ends_line byte ≡ true → ReadsOn (config_with quoting delimiter) st.StartRecord [] [] (byte ∷ []) st.StartRecord [] []
end-skipped quoting delimiter byte ends = skip-one (config_with quoting delimiter) st.StartRecord st.StartRecord [] [] byte (rw ends refl)

-- the first byte of a record is the first of a field
pub record-starts : (quoting : Bool) (delimiter : ℕ) (text : List ℕ) → BeginsRecord text
    → next_record (config_with quoting delimiter) st.StartRecord [] [] text ≡ next_record (config_with quoting delimiter) st.StartField [] [] text
record-starts quoting delimiter [] begins = absurd begins
record-starts quoting delimiter (byte ∷ text) begins = same-step (config_with quoting delimiter) st.StartRecord st.StartField [] [] byte text (rw begins refl)
