use Rattle.std.proofs.Common.{◌++◌, ◌∷◌, [], ap, subst, sym, ◌∙◌}
use Rattle.std.proofs.lemmas.List.{append-nil}
use Rattle.jb_rows.specs.Streams.{HasRead}
use Rattle.jb_rows.proofs.Headers.{first-read, nothing-read, read-first}
use Rattle.jb_rows.proofs.rows_reader.RowsReader.take_header.Goals as goal

pub returns-in_ok-push-in-Ok-true-clause-read : goal.returns-in_ok-push-in-Ok-true-clause-read
returns-in_ok-push-in-Ok-true-clause-read g c config text read =
    let one = rw c.in-Ok-true.field-0-test at (c.in-Ok-true.ensures.given config text [] read) in
    let first = first-read config text c.read_row.new.self.row (read-first config g.R.Read.remaining c.read_row.new.self text (c.read_row.new.self.row ∷ []) one) in
    subst (λ records. HasRead config g.R.Read.remaining c.read_row.new.self text records) (sym first) one

pub returns-in_ok-push-in-Ok-true-clause-kept : goal.returns-in_ok-push-in-Ok-true-clause-kept
returns-in_ok-push-in-Ok-true-clause-kept g c config text read =
    let one = rw c.in-Ok-true.field-0-test at (c.in-Ok-true.ensures.given config text [] read) in
    let first = first-read config text c.read_row.new.self.row (read-first config g.R.Read.remaining c.read_row.new.self text (c.read_row.new.self.row ∷ []) one) in
    c.in_ok-push-in-Ok-true.ensures.ok
    ∙ ap (λ header. header ++ c.read_row.new.self.row ∷ []) c.in-Ok-true.ensures.header
    ∙ ap (λ last. c.args.self.now.header ++ last) (sym first)

pub returns-in-Ok-false-clause-read : goal.returns-in-Ok-false-clause-read
returns-in-Ok-false-clause-read g c config text read =
    let none = rw c.in-Ok-false.field-0-test at (c.in-Ok-false.ensures.given config text [] read) in
    subst (λ records. HasRead config g.R.Read.remaining c.read_row.new.self text records) (sym (nothing-read config text none.1)) none.0

pub returns-in-Ok-false-clause-kept : goal.returns-in-Ok-false-clause-kept
returns-in-Ok-false-clause-kept g c config text read =
    let none = rw c.in-Ok-false.field-0-test at (c.in-Ok-false.ensures.given config text [] read) in
    c.in-Ok-false.ensures.header
    ∙ sym (append-nil c.args.self.now.header)
    ∙ ap (λ last. c.args.self.now.header ++ last) (sym (nothing-read config text none.1))
