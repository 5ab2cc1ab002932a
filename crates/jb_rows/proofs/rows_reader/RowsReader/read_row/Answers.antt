use Rattle.std.proofs.Common.{◌≡◌, false, length, rules, subst, sym, true}
use Rattle.csv.specs.Reading.{strip_bom}
use Rattle.jb_rows.specs.Passing.{IsLonger}
use Rattle.jb_rows.specs.Places.{BeginsAt}
use Rattle.jb_rows.specs.Texts.{IsLongAfter}
use Rattle.jb_rows.proofs.Steps.{all-given, begins-in, ends-passed, long-after, record-passed}
use Rattle.jb_rows.proofs.Streams.{too-long-weaker}
use Rattle.jb_rows.proofs.rows_reader.RowsReader.read_row.Goals as goal

pub returns-then-not-found-clause-given : goal.returns-then-not-found-clause-given
returns-then-not-found-clause-given g c config text before read =
    let none : c.in-Ok.found ≡ false = search rules in
    let (here, nothing) = ends-passed config g.R.Read.remaining c.args.self.now.reader c.skip_ends.new.self false text before (rw c.if-self.false at read) c.skip_ends.ensures.marks
    (rw none at c.in-Ok.ensures.passed) in
    let all = all-given config g.R.Read.remaining c.skip_ends.new.self text before here nothing in
    (all, all)

pub returns-clause-given : goal.returns-clause-given
returns-clause-given g c config text before read =
    let some : c.in-Ok.found ≡ true = search rules in
    let (here, begins) = ends-passed config g.R.Read.remaining c.args.self.now.reader c.skip_ends.new.self true text before (rw c.if-self.false at read) c.skip_ends.ensures.marks
    (rw some at c.in-Ok.ensures.passed) in
    record-passed config g.R.Read.remaining c.skip_ends.new.self c.read_record.new.self c.read_record.new.row c.in-Ok-read_record.is_last text before here begins c.read_record.ensures.marks
    c.in-Ok-read_record.ensures.passed

pub returns-clause-begins : goal.returns-clause-begins
returns-clause-begins g c found config text before read =
    let some : c.in-Ok.found ≡ true = search rules in
    let (here, begins) = ends-passed config g.R.Read.remaining c.args.self.now.reader c.skip_ends.new.self true text before (rw c.if-self.false at read) c.skip_ends.ensures.marks
    (rw some at c.in-Ok.ensures.passed) in
    subst (BeginsAt config (strip_bom text) (length before)) (sym c.line-self.ensures) (begins-in config g.R.Read.remaining c.skip_ends.new.self text before here begins)

pub returns-in-Err-read_record-clause-too_long : goal.returns-in-Err-read_record-clause-too_long
returns-in-Err-read_record-clause-too_long g c config text before read =
    let some : c.in-Ok.found ≡ true = search rules in
    let (here, begins) = ends-passed config g.R.Read.remaining c.args.self.now.reader c.skip_ends.new.self true text before (rw c.if-self.false at read) c.skip_ends.ensures.marks
    (rw some at c.in-Ok.ensures.passed) in
    too-long-weaker c.in-Err-read_record.error (λ number. (number ≡ c.args.self.now.given) × IsLonger g.R.Read.remaining c.skip_ends.new.self c.args.self.now.longest)
    (λ _. IsLongAfter config text before c.args.self.now.longest) (λ number is. long-after config g.R.Read.remaining c.skip_ends.new.self text before c.args.self.now.longest here begins is.1)
    c.in-Err-read_record.ensures.refused

pub returns-in-Err-clause-too_long : goal.returns-in-Err-clause-too_long
returns-in-Err-clause-too_long g c config text before read =
    too-long-weaker c.in-Err.error (λ _. ⊥) (λ _. IsLongAfter config text before c.args.self.now.longest) (λ number none. absurd none) c.in-Err.ensures.refused
