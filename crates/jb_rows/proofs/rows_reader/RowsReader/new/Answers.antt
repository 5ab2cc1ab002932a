use Rattle.std.proofs.Common.{◌≡◌, ◌++◌, [], ap, inl, inr, subst, sym, ◌∙◌}
use Rattle.jb_rows.specs.Streams.{HasRead}
use Rattle.jb_rows.specs.Texts.{config_of, first_record, header_by, header_of}
use Rattle.jb_rows.proofs.Headers.{started-by}
use Rattle.jb_rows.proofs.Lines.{known}
use Rattle.jb_rows.proofs.rows_reader.RowsReader.new.Goals as goal

pub returns-in-None-clause-given : goal.returns-in-None-clause-given
returns-in-None-clause-given g c =
    let options = c.args.options.now in
    started-by options g.R.Read.remaining c.unread-rows.result (g.R.Read.remaining c.args.from) (λ t is.
    let empty : header_of options t ≡ [] = ap (λ h. header_by h (first_record (config_of options) t)) c.in-None.is in
    let begun = known (g.R.Read.remaining c.args.from) (λ text. HasRead (config_of options) g.R.Read.remaining c.unread-rows.result text []) t is c.unread-rows.ensures.given in
    (subst (HasRead (config_of options) g.R.Read.remaining c.unread-rows.result t) (sym empty) begun, c.unread-rows.ensures.header ∙ sym empty)) c.unread-rows.ensures.number

pub returns-in_ok-take_header-in-Skipped-clause-given : goal.returns-in_ok-take_header-in-Skipped-clause-given
returns-in_ok-take_header-in-Skipped-clause-given g c =
    let options = c.args.options.now in
    started-by options g.R.Read.remaining c.take_header.new.self (g.R.Read.remaining c.args.from) (λ t is.
    let first = first_record (config_of options) t in
    let same : header_of options t ≡ first = elim c.in-Skipped.is [
      | inl e ↦ ap (λ h. header_by h first) e
      | inr e ↦ ap (λ h. header_by h first) e
    ] in
    let begun = known (g.R.Read.remaining c.args.from) (λ text. HasRead (config_of options) g.R.Read.remaining c.unread-rows.result text []) t is c.unread-rows.ensures.given in
    let read = c.in_ok-take_header-in-Skipped.ensures.read (config_of options) t begun in
    let kept = c.in_ok-take_header-in-Skipped.ensures.kept (config_of options) t begun in
    (subst (HasRead (config_of options) g.R.Read.remaining c.take_header.new.self t) (sym same) read, kept ∙ ap (λ header. header ++ first) c.unread-rows.ensures.header ∙ sym same))
    (c.take_header.ensures.number ∙ c.unread-rows.ensures.number)
