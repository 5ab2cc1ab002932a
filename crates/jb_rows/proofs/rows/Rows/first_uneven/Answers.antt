use Rattle.std.proofs.Common.{[], ap, length, slice_index_or, sym, ◌∙◌}
use borrow.Author.Count.{below_more}
use Rattle.jb_rows.specs.Even.{HasWidthOf}
use Rattle.jb_rows.proofs.rows.Rows.first_uneven.Goals as goal

pub loop-index-preserved : goal.loop-index-preserved
loop-index-preserved c =
    below_more (λ k. HasWidthOf c.args.self.now (slice_index_or c.args.self.now k [])) c.loop-index.index c.loop-index.invariant
    (sym (c.len.ensures ∙ ap length c.row.ensures) ∙ c.if-len.false ∙ c.len-in-loop-index.ensures ∙ ap length c.row-in-loop-index.ensures)
