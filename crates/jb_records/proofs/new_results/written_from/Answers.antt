use Rattle.std.proofs.Common.{sym}
use Rattle.jb_records.proofs.Telling.{copied-more}
use Rattle.jb_records.proofs.new_results.written_from.Goals as goal

pub loop-index-preserved : goal.loop-index-preserved
loop-index-preserved g c =
    copied-more (g.W.ItemWriter.writer c.args.writer.now).written c.args.from c.loop-index.index c.in-Some.result.now _ _ c.loop-index.auto.index (sym c.in-Some.ensures) c.loop-index.invariant c.in_ok-push.ensures.ok
