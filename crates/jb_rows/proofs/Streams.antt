-- What a reader has given.
use Rattle.std.proofs.Common.{◌≡◌, ◌+◌, ℕ, List, [], ◌∷◌, ◌++◌, Option, None, Some, refl, ap, append_assoc, sym, inl, inr, subst, length, length-append, get_or, arith, ◌∙◌}
use Rattle.std.proofs.lemmas.Bool.{cases_lt}
use Rattle.std.proofs.lemmas.List.{get_or_append_left, get_or_push}
use Rattle.std.specs.Prelude.{IfSome, option_map}
use Rattle.csv.specs.Reading.{strip_bom}
use Rattle.csv.specs.declared.parser.Config.{Config}
use Rattle.jb_rows.specs.Bytes.{marks_config}
use Rattle.jb_rows.specs.Fields.{Fields}
use Rattle.jb_rows.specs.Places.{AreLinesFrom, BeginsIn}
use Rattle.jb_rows.specs.Refusals.{IfTooLong}
use Rattle.jb_rows.specs.Source.{unread}
use Rattle.jb_rows.specs.Streams.{HasGiven}
use Rattle.jb_rows.specs.declared.rows_error.RowsError.{RowsError}
use Rattle.jb_rows.specs.declared.rows_error.RowsError.TheVariants as error
use Rattle.jb_rows.specs.declared.rows_options.RowsOptions.{RowsOptions}
use Rattle.jb_rows.specs.declared.text_reader.TextReader.{TextReader}
use Rattle.jb_rows.proofs.Whole.{whole-none}

pub begun : {R : Type 0} (config : Config) (remaining : R → Option (List ℕ)) (reader : TextReader R) (text : Option (List ℕ))
    → unread remaining reader.source ≡ option_map strip_bom text → marks_config reader.marks ≡ config → reader.line ≡ 1 → IfSome text (λ bytes. HasGiven config remaining reader bytes [])
begun config remaining reader None source marks line = tt
begun config remaining reader (Some bytes) source marks line = ([], strip_bom bytes, refl, source, whole-none config, marks, line)

pub joined : (before rows new : List Fields) (row fields : Fields) → new ≡ rows ++ row ∷ [] → row ≡ fields → (before ++ rows) ++ fields ∷ [] ≡ before ++ new
joined before rows new row fields more is = append_assoc before rows (fields ∷ []) ∙ ap (λ later. before ++ later) (sym (more ∙ ap (λ last. rows ++ last ∷ []) is))

pub too-long-weaker : (error : RowsError) (P Q : ℕ → Type 0) → ((number : ℕ) → P number → Q number) → IfTooLong error P → IfTooLong error Q
too-long-weaker (error.TooLong number) P Q more is = more number is
too-long-weaker error.LongHeader P Q more is = tt
too-long-weaker (error.Stream why) P Q more is = tt
too-long-weaker error.Memory P Q more is = tt

-- ---- LINES

-- the line of one record more
pub lines-pushed : (options : RowsOptions) (text : List ℕ) (number : ℕ) (lines lines2 : List ℕ) (line : ℕ) → AreLinesFrom options text number lines
    → BeginsIn options text (number + length lines) line → lines2 ≡ lines ++ line ∷ [] → AreLinesFrom options text number lines2
lines-pushed options text number lines lines2 line so_far begins more index below =
    let size = ap length more ∙ length-append lines (line ∷ []) in
    elim (cases_lt index (length lines)) [
      | inl within ↦
          let same : get_or lines2 index 0 ≡ get_or lines index 0 = rw more (get_or_append_left lines (line ∷ []) 0 index within) in
          subst (BeginsIn options text (number + index)) (sym same) (so_far index within)
      | inr past ↦
          let last : index ≡ length lines = omega (arith, below, size) in
          let same : get_or lines2 index 0 ≡ line = rw more (get_or_push lines line 0 index (sym last)) in
          subst (BeginsIn options text (number + index)) (sym same) (subst (λ place. BeginsIn options text (number + place) line) (sym last) begins)
    ]
