use Rattle.std.proofs.Common.{ap, arith}
use Rattle.jb_base.specs.declared.range.Range.{Range}
use Rattle.jb_chunk.specs.inside.Gathering.{yield_of}
use Rattle.jb_chunk.specs.inside.TriedChunk.{task_at}
use Rattle.jb_chunk.proofs.RecordCounts.{tally-none, one_if-le}
use Rattle.jb_chunk.proofs.DoneRecords.{gathering-none, gathering-more, gathering-settled, gathering-whole, gathering-torn, gathering-stands}
use Rattle.jb_chunk.proofs.gather.gather.Goals as goal

pub loop-number-init : goal.loop-number-init
loop-number-init g c =
    let old = g.A.Meaning.meaning c.args.artifacts.now in
    let hi = ap (λ (b : Range). b.hi) c.block-block.ensures.block in
    record {
      gathering = λ partition. gathering-none (task_at partition c.args.row.now c.args.rules.now c.args.item_count old) _ c.requires.place (omega (arith, hi)) (tally-none old _ _ c.requires.none c.new-tally.ensures.skips c.new-tally.ensures.read_skips);
      sound = c.requires.sound;
      room = c.requires.room;
      skips = let none = c.new-tally.ensures.skips in omega (arith, none);
      read_skips = let none = c.new-tally.ensures.read_skips in omega (arith, none);
    }

pub settle_record-requires-clause-place : goal.settle_record-requires-clause-place
settle_record-requires-clause-place g c = (gathering-stands _ _ _ _ _ (c.loop-number.invariant.gathering 0)).place

pub settle_record-requires-clause-from : goal.settle_record-requires-clause-from
settle_record-requires-clause-from g c =
    let first = (gathering-stands _ _ _ _ _ (c.loop-number.invariant.gathering 0)).first in
    omega (arith, first, c.requires.from)

pub settle_record-requires-clause-to : goal.settle_record-requires-clause-to
settle_record-requires-clause-to g c =
    let end = (gathering-stands _ _ _ _ _ (c.loop-number.invariant.gathering 0)).end in
    let within = c.block-block.ensures.within in
    omega (arith, end, c.requires.to, within)

pub returns-in-Err-clause-err : goal.returns-in-Err-clause-err
returns-in-Err-clause-err g c =
    let meaning = g.A.Meaning.meaning in
    let t = task_at 0 c.args.row.now c.args.rules.now c.args.item_count (meaning c.args.artifacts.now) in
    let hi = ap (λ (b : Range). b.hi) c.block-block.ensures.block in
    gathering-torn t c.loop-number.number (yield_of c.loop-number.tally (g.A.Results.ChunkResults.pairs c.loop-number.results)) c.loop-number.row (meaning c.loop-number.artifacts) (meaning c.settle_record.new.artifacts) (c.loop-number.invariant.gathering 0) (omega arith) (omega (arith, hi)) c.in-Err.ensures.err

pub returns-in-Ok-Some-clause-ok : goal.returns-in-Ok-Some-clause-ok
returns-in-Ok-Some-clause-ok g c = λ partition.
    let meaning = g.A.Meaning.meaning in
    let pairs = g.A.Results.ChunkResults.pairs in
    let t = task_at partition c.args.row.now c.args.rules.now c.args.item_count (meaning c.args.artifacts.now) in
    let hi = ap (λ (b : Range). b.hi) c.block-block.ensures.block in
    let stepped = rw c.in-Ok-Some.field-0-is at c.in-Ok-Some.ensures.stepped in
    gathering-settled t c.loop-number.number (yield_of c.loop-number.tally (pairs c.loop-number.results)) (yield_of c.settle_record.new.tally (pairs c.settle_record.new.results)) c.loop-number.row c.settle_record.new.row (meaning c.loop-number.artifacts) (meaning c.settle_record.new.artifacts) stepped.0 c.in-Ok-Some.class c.in-Ok-Some.choice (pairs c.settle_record.new.results) (c.loop-number.invariant.gathering partition) (omega arith) (omega (arith, hi)) stepped.1 stepped.2

pub loop-number-preserved : goal.loop-number-preserved
loop-number-preserved g c =
    let meaning = g.A.Meaning.meaning in
    let pairs = g.A.Results.ChunkResults.pairs in
    let hi = ap (λ (b : Range). b.hi) c.block-block.ensures.block in
    let stepped = rw c.in-Ok-None.field-0-is at c.in-Ok-None.ensures.stepped in
    record {
      gathering = λ partition. gathering-more (task_at partition c.args.row.now c.args.rules.now c.args.item_count (meaning c.args.artifacts.now)) c.loop-number.number (yield_of c.loop-number.tally (pairs c.loop-number.results)) (yield_of c.settle_record.new.tally (pairs c.settle_record.new.results)) c.loop-number.row c.settle_record.new.row (meaning c.loop-number.artifacts) (meaning c.settle_record.new.artifacts) stepped.0 (c.loop-number.invariant.gathering partition) (omega arith) (omega (arith, hi)) stepped.1 stepped.2;
      sound = c.in-Ok-None.ensures.sound;
      room = c.in-Ok-None.ensures.room;
      skips = let up = stepped.2.1.skips in omega (arith, up, one_if-le);
      read_skips = let up = stepped.2.1.read_skips in omega (arith, up, one_if-le);
    }

pub returns-clause-ok : goal.returns-clause-ok
returns-clause-ok g c = λ partition.
    let meaning = g.A.Meaning.meaning in
    let hi = ap (λ (b : Range). b.hi) c.block-block.ensures.block in
    gathering-whole (task_at partition c.args.row.now c.args.rules.now c.args.item_count (meaning c.args.artifacts.now)) _ _ _ _ (omega (arith, hi)) (c.loop-number.invariant.gathering partition)
