use Rattle.std.proofs.Common.{◌≡◌, ◌==◌, ◌++◌, ◌∷◌, ◌∙◌, [], ap, arith, false, get_or, sym, take}
use Rattle.std.specs.Prelude.{◌&&◌}
use Rattle.std.proofs.lemmas.List.{take_more}
use Rattle.jb_rows.proofs.Passing.{feeds-of-both}
use Rattle.jb_rows.proofs.Plain.{field-taken, first-of-front, record-taken}
use Rattle.jb_rows.proofs.tokens.take_field.Goals as goal

pub returns-in_ok-push-in-EndField-clause-read : goal.returns-in_ok-push-in-EndField-clause-read
returns-in_ok-push-in-EndField-clause-read c after =
    let marks = c.args.marks.now in
    let bytes = c.args.bytes.now in
    let run = c.plain_run-run.result in
    let below = c.if-run-bytes.false in
    let first : (marks.quoting && (get_or (take run bytes ++ get_or bytes run 0 ∷ []) 0 0 == 34)) ≡ false = ap (λ byte. marks.quoting && (byte == 34)) (first-of-front bytes run below) ∙ sym c.is_quote.ensures ∙ c.if-is_quote.false in
    rw (take_more bytes run 0 below, c.in_ok-push-in-EndField.ensures)
    (field-taken marks.quoting marks.delimiter c.args.row.now (take run bytes) (get_or bytes run 0) first c.plain_run-run.ensures.runs c.in-EndField.ensures after)

pub returns-in_ok-push-in-EndRecord-clause-read : goal.returns-in_ok-push-in-EndRecord-clause-read
returns-in_ok-push-in-EndRecord-clause-read c after =
    let marks = c.args.marks.now in
    let bytes = c.args.bytes.now in
    let run = c.plain_run-run.result in
    let below = c.if-run-bytes.false in
    let first : (marks.quoting && (get_or (take run bytes ++ get_or bytes run 0 ∷ []) 0 0 == 34)) ≡ false = ap (λ byte. marks.quoting && (byte == 34)) (first-of-front bytes run below) ∙ sym c.is_quote.ensures ∙ c.if-is_quote.false in
    rw (take_more bytes run 0 below, c.in_ok-push-in-EndRecord.ensures)
    (record-taken marks.quoting marks.delimiter c.args.row.now (take run bytes) (get_or bytes run 0) first c.plain_run-run.ensures.runs c.in-EndRecord.ensures after)

pub returns-in_ok-push-in-EndField-clause-lines : goal.returns-in_ok-push-in-EndField-clause-lines
returns-in_ok-push-in-EndField-clause-lines c =
    let bytes = c.args.bytes.now in
    let run = c.plain_run-run.result in
    let both = feeds-of-both (take run bytes) (get_or bytes run 0 ∷ []) in
    let lines = c.line_feeds-lines.ensures in
    rw (take_more bytes run 0 c.if-run-bytes.false) (omega (arith, both, lines, c.plain_run-run.ensures.lines))

pub returns-in_ok-push-in-EndRecord-clause-lines : goal.returns-in_ok-push-in-EndRecord-clause-lines
returns-in_ok-push-in-EndRecord-clause-lines c =
    let bytes = c.args.bytes.now in
    let run = c.plain_run-run.result in
    let both = feeds-of-both (take run bytes) (get_or bytes run 0 ∷ []) in
    let lines = c.line_feeds-lines.ensures in
    rw (take_more bytes run 0 c.if-run-bytes.false) (omega (arith, both, lines, c.plain_run-run.ensures.lines))
