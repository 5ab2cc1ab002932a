use Rattle.std.proofs.Common.{sym, ◌∙◌}
use Rattle.jb_rows.proofs.Opening.{mark-goes, no-mark, short-stays}
use Rattle.jb_rows.proofs.window.mark_len.Goals as goal

pub returns-then-bytes-lt3-clause-strips : goal.returns-then-bytes-lt3-clause-strips
returns-then-bytes-lt3-clause-strips c = short-stays c.args.bytes.now c.if-bytes-lt3.true

pub returns-then-is_mark-clause-strips : goal.returns-then-is_mark-clause-strips
returns-then-is_mark-clause-strips c = mark-goes c.args.bytes.now c.if-bytes-lt3.false (sym c.is_mark.ensures ∙ c.if-is_mark.true)

pub returns-clause-strips : goal.returns-clause-strips
returns-clause-strips c = no-mark c.args.bytes.now c.if-bytes-lt3.false (sym c.is_mark.ensures ∙ c.if-is_mark.false)
