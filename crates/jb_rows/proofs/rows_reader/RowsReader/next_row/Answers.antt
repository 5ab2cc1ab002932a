use Rattle.std.proofs.Common.{◌≡◌, ◌++◌, ◌∷◌, [], append_assoc, arith, false, true, length-append, rules, subst, ◌∙◌}
use Rattle.csv.specs.Reading.{strip_bom}
use Rattle.jb_rows.specs.Places.{BeginsAt}
use Rattle.jb_rows.specs.Streams.{HasRead}
use Rattle.jb_rows.specs.Texts.{config_of, header_of}
use Rattle.jb_rows.proofs.rows_reader.RowsReader.next_row.Goals as goal

pub returns-then-not-found-clause-given : goal.returns-then-not-found-clause-given
returns-then-not-found-clause-given g c options text before given =
    let ends : c.in-Ok.found ≡ false = search rules in
    let all = rw ends at (c.in-Ok.ensures.given (config_of options) text (header_of options text ++ before) given.0) in
    ((all.0, c.in-Ok.ensures.header ∙ given.1, c.in-Ok.ensures.number ∙ given.2), all.1)

pub returns-clause-given : goal.returns-clause-given
returns-clause-given g c options text before given =
    let goes : c.in-Ok.found ≡ true = search rules in
    let one = rw goes at (c.in-Ok.ensures.given (config_of options) text (header_of options text ++ before) given.0) in
    let long = length-append before (c.read_row.new.self.row ∷ []) in (
      subst (λ records. HasRead (config_of options) g.R.Read.remaining c.read_row.new.self text records) (append_assoc (header_of options text) before (c.read_row.new.self.row ∷ [])) one,
      c.in-Ok.ensures.header ∙ given.1,
      omega (arith, given.2, c.in-Ok.ensures.number, c.saturating_add-self.ensures),
    )

pub returns-clause-begins : goal.returns-clause-begins
returns-clause-begins g c found options text before given =
    let goes : c.in-Ok.found ≡ true = search rules in
    subst (λ number. BeginsAt (config_of options) (strip_bom text) number c.read_row.new.self.line) (length-append (header_of options text) before)
    (c.in-Ok.ensures.begins goes (config_of options) text (header_of options text ++ before) given.0)

pub returns-in-Err-clause-too_long : goal.returns-in-Err-clause-too_long
returns-in-Err-clause-too_long g c options text before given = c.in-Err.ensures.too_long (config_of options) text (header_of options text ++ before) given.0
