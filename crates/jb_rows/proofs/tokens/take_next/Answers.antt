use Rattle.std.proofs.Common.{◌≡◌, [], subst, sym, take, ◌∙◌}
use Rattle.std.specs.Bool.{MatchBool}
use Rattle.std.proofs.lemmas.Result.{IfOk-weaker}
use Rattle.jb_rows.specs.Bytes.{EndsRecord, ReadsOn, csv_state, marks_config}
use Rattle.jb_rows.proofs.tokens.take_next.Goals as goal

pub returns-in-Some-clause-read : goal.returns-in-Some-clause-read
returns-in-Some-clause-read c =
    let fresh = c.is_fresh.ensures c.if-not-is_fresh.false in
    let empty : c.args.field.now.items ≡ [] = sym c.deref.ensures.value ∙ fresh.1 in
    rw (fresh.0, empty) (rw c.in-Some.is at c.in_ok-taken.ensures.read)

pub returns-in-None-clause-read : goal.returns-in-None-clause-read
returns-in-None-clause-read c =
    let same : c.take_field.new.row ≡ c.args.row.now = rw c.in-None.is at c.in_ok-taken.ensures.read in
    let config = marks_config c.args.marks.now in
    IfOk-weaker c.take_some-in-None.result _ _ (λ taken read.
    subst (λ row. MatchBool taken.is_whole (EndsRecord config (csv_state c.args.place) row c.args.field.now.items (take taken.count c.args.bytes.now) c.take_some-in-None.new.row)
    (ReadsOn config (csv_state c.args.place) row c.args.field.now.items (take taken.count c.args.bytes.now) (csv_state taken.place) c.take_some-in-None.new.row c.take_some-in-None.new.field.items))
    same read) c.take_some-in-None.ensures.read
