-- The header row, and what a reader has read.
use Rattle.std.proofs.Common.{◌≡◌, ℕ, Bool, true, false, List, [], ◌∷◌, Option, None, Some, ap, refl, subst, sym, ◌∙◌}
use Rattle.std.specs.Prelude.{IfSome}
use Rattle.std.specs.Bool.{MatchBool}
use Rattle.std.proofs.lemmas.List.{append-nil}
use Rattle.csv.specs.Machine.{next_record}
use Rattle.csv.specs.Reading.{Reached, strip_bom}
use Rattle.csv.specs.declared.parser.State.TheVariants as st
use Rattle.csv.specs.declared.parser.Config.{Config}
use Rattle.jb_rows.specs.Fields.{Fields}
use Rattle.jb_rows.specs.Streams.{HasGiven, HasGivenRows, HasRead, kept_header}
use Rattle.jb_rows.specs.Texts.{AreFieldsOf, AreFirst, AreFirstFieldsOf, config_of, copied_by, copied_header, first_record, header_by, header_of}
use Rattle.jb_rows.specs.declared.header.Header.{Header}
use Rattle.jb_rows.specs.declared.header.Header.TheVariants as hd
use Rattle.jb_rows.specs.declared.rows_options.RowsOptions.{RowsOptions}
use Rattle.jb_rows.specs.declared.rows_reader.RowsReader.{RowsReader}
use Rattle.jb_rows.specs.declared.text_reader.TextReader.{TextReader}
use Rattle.jb_rows.proofs.Whole.{first-of}

-- the record that was read first is the first one
pub first-read : (config : Config) (text : List ℕ) (fields : Fields) → AreFirstFieldsOf config text (fields ∷ []) → first_record config text ≡ fields ∷ []
unfolding first_record Reached
first-read config text fields h = rw (h.2.1, h.2.2) refl

-- a text of no record has no first one
pub nothing-read : (config : Config) (text : List ℕ) → AreFieldsOf config text [] → first_record config text ≡ []
unfolding first_record Reached
nothing-read config text h =
    let none : next_record config st.StartRecord [] [] (strip_bom text) ≡ None = rw (← h.2.0, ← h.2.1) at h.3 in
    rw none refl

given-first : {R : Type 0} (config : Config) (remaining : R → Option (List ℕ)) (is_done : Bool) (reader : TextReader R) (text : List ℕ) (records : List Fields)
    → MatchBool is_done (AreFieldsOf config text records) (HasGiven config remaining reader text records) → AreFirstFieldsOf config text records
given-first config remaining true reader text records h = (h.0, h.1, h.2)
given-first config remaining false reader text records h = subst (λ bytes. AreFirst config bytes records) (sym h.2) (first-of config h.0 h.1 records h.4)

-- what was read are the text's first records
pub read-first : {R : Type 0} (config : Config) (remaining : R → Option (List ℕ)) (rows : RowsReader R) (text : List ℕ) (records : List Fields)
    → HasRead config remaining rows text records → AreFirstFieldsOf config text records
read-first config remaining rows text records h = given-first config remaining rows.is_done rows.reader text records h

copied-both : (header : Header) (first : List Fields) → copied_by header (header_by header first) ≡ copied_by header first
copied-both hd.None first = refl
copied-both hd.Skipped first = refl
copied-both hd.Copied first = refl

-- the header row that the reader keeps is the text's, where it is copied
pub copied-is : {R : Type 0} (options : RowsOptions) (remaining : R → Option (List ℕ)) (rows : RowsReader R) (text : List ℕ) (records : List Fields)
    → HasGivenRows options remaining rows text records → copied_by options.header (kept_header rows) ≡ copied_header options text
copied-is options remaining rows text records given = ap (copied_by options.header) given.1 ∙ copied-both options.header (first_record (config_of options) text)

-- a reader that has read the header row, and counts from there
pub started-by : {R : Type 0} (options : RowsOptions) (remaining : R → Option (List ℕ)) (rows : RowsReader R) (text : Option (List ℕ))
    → ((t : List ℕ) → text ≡ Some t → HasRead (config_of options) remaining rows t (header_of options t) × (rows.header ≡ header_of options t)) → rows.given ≡ 0
    → IfSome text (λ t. HasGivenRows options remaining rows t [])
started-by options remaining rows None read none = tt
started-by options remaining rows (Some t) read none =
    let h = read t refl in
    (subst (HasRead (config_of options) remaining rows t) (sym (append-nil (header_of options t))) h.0, h.1, none)
