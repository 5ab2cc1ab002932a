use Rattle.std.proofs.Common.{◌≡◌, ◌-◌, Result, Ok, Err, IfOk, OnErr, length, ap, sym, ◌∙◌, subst, arith}
use Rattle.jb_base.specs.declared.range.Range.{Range}
use Rattle.jb_chunk.specs.inside.Repeats.{IsFinishAfter}
use Rattle.jb_chunk.specs.inside.Gathering.{yield_of}
use Rattle.jb_chunk.specs.inside.TriedChunk.{task_at}
use Rattle.jb_chunk.proofs.RecordCounts.{AreFew}
use Rattle.jb_chunk.proofs.TriedChunk.{few-tally}
use Rattle.jb_chunk.proofs.WriteRepeats.{stopped-tried, finished-tried, settled-within, whole-within, whole-tally, whole-torn}
use Rattle.jb_chunk.proofs.block.try_records.Goals as goal
use Rattle.jb_chunk.proofs.block.try_records.Goals.{After-tally-in-Ok-Whole-1}

if_ok-map : {T E : Type 0} {P Q : T → Type 0} (r : Result T E) → ((v : T) → P v → Q v) → IfOk r P → IfOk r Q
if_ok-map (Ok v) f p = f v p
if_ok-map (Err e) f p = tt

on_err-map : {T E : Type 0} {P Q : Type 0} (r : Result T E) → (P → Q) → OnErr r P → OnErr r Q
on_err-map (Ok v) f p = tt
on_err-map (Err e) f p = f p

-- of a chunk whose records were all tried: how few skips and results it came to, and where its artifacts stand
tried : (g : _) (c : After-tally-in-Ok-Whole-1 g) → (few : AreFew (c.block-block.result.hi - c.args.row.now.at) c.in-Ok-Whole.tally.skips c.in-Ok-Whole.tally.read_skips (length (g.A.Results.ChunkResults.pairs c.gather.new.results)))
    × (c.gather.new.row.at ≡ c.args.row.now.at) × ((g.A.Meaning.meaning c.gather.new.artifacts).reader.place ≡ c.block-block.result.hi)
tried g c =
    let t = task_at 0 c.args.row.now c.args.rules.now c.args.item_count (g.A.Meaning.meaning c.args.artifacts.now) in
    let came_to = yield_of c.in-Ok-Whole.tally (g.A.Results.ChunkResults.pairs c.gather.new.results) in
    let gathered = rw c.in-Ok-Whole.field-0-is at c.in-Ok-Whole.ensures.ok in
    let counted = whole-tally t came_to _ _ (gathered 0) in
    let within = whole-within t came_to _ _ (gathered 0) in
    let hi = ap (λ (b : Range). b.hi) c.block-block.ensures.block in
    let few = few-tally counted.0 c.args.row.now.at _ came_to (omega (arith, hi)) counted.1 in
    (subst (λ n. AreFew (n - c.args.row.now.at) came_to.skips came_to.read_skips (length came_to.found)) (sym hi) few, within.0.at, within.1 ∙ sym hi)

pub finish_block-requires-clause-few : goal.finish_block-requires-clause-few
finish_block-requires-clause-few g c =
    let few = (tried g c).0 in
    let reads = few.reads in
    let all = few.all in
    record { skips = omega (arith, all); read_skips = omega (arith, reads, all) }

pub finish_block-requires-clause-records : goal.finish_block-requires-clause-records
finish_block-requires-clause-records g c =
    let at = (tried g c).1 in
    let all = (tried g c).0.all in
    omega (arith, all, at)

pub finish_block-requires-clause-reads : goal.finish_block-requires-clause-reads
finish_block-requires-clause-reads g c = (tried g c).0.reads

pub finish_block-requires-clause-place : goal.finish_block-requires-clause-place
finish_block-requires-clause-place g c = (tried g c).2

pub returns-in-Ok-Settled-clause-ok : goal.returns-in-Ok-Settled-clause-ok
returns-in-Ok-Settled-clause-ok g c = λ partition.
    let meaning = g.A.Meaning.meaning in
    let t = task_at partition c.args.row.now c.args.rules.now c.args.item_count (meaning c.args.artifacts.now) in
    let gathered = rw c.in-Ok-Settled.field-0-is at c.in-Ok-Settled.ensures.ok in
    stopped-tried t _ c.in-Ok-Settled.class c.in-Ok-Settled.choice c.gather.new.row (meaning c.gather.new.artifacts) _ _ (g.A.Results.ChunkResults.pairs c.gather.new.results) c.requires.count (gathered partition) c.end_by_choice.ensures c.open_reader_at.ensures

pub returns-in-Ok-Whole-clause-ok : goal.returns-in-Ok-Whole-clause-ok
returns-in-Ok-Whole-clause-ok g c = λ partition.
    let meaning = g.A.Meaning.meaning in
    let t = task_at partition c.args.row.now c.args.rules.now c.args.item_count (meaning c.args.artifacts.now) in
    let came_to = yield_of c.in-Ok-Whole.tally (g.A.Results.ChunkResults.pairs c.gather.new.results) in
    let gathered = rw c.in-Ok-Whole.field-0-is at c.in-Ok-Whole.ensures.ok in
    let hi = ap (λ (b : Range). b.hi) c.block-block.ensures.block in
    if_ok-map c.finish_block.result (λ end finish.
    finished-tried t came_to c.gather.new.row c.finish_block.new.row (meaning c.gather.new.artifacts) (meaning c.finish_block.new.artifacts) end (omega (arith, hi)) (gathered partition)
    (subst (λ n. IsFinishAfter c.args.rules.now c.gather.new.row n came_to (meaning c.gather.new.artifacts) end c.finish_block.new.row (meaning c.finish_block.new.artifacts)) hi finish)) c.finish_block.ensures.ok

pub returns-in-Ok-Whole-clause-err : goal.returns-in-Ok-Whole-clause-err
returns-in-Ok-Whole-clause-err g c =
    let meaning = g.A.Meaning.meaning in
    let t = task_at 0 c.args.row.now c.args.rules.now c.args.item_count (meaning c.args.artifacts.now) in
    let came_to = yield_of c.in-Ok-Whole.tally (g.A.Results.ChunkResults.pairs c.gather.new.results) in
    let gathered = rw c.in-Ok-Whole.field-0-is at c.in-Ok-Whole.ensures.ok in
    let hi = ap (λ (b : Range). b.hi) c.block-block.ensures.block in
    on_err-map c.finish_block.result (λ torn. whole-torn t came_to c.gather.new.row (meaning c.gather.new.artifacts) (meaning c.finish_block.new.artifacts) (omega (arith, hi)) (gathered 0) torn) c.finish_block.ensures.err

pub open_reader_at-requires-clause-from : goal.open_reader_at-requires-clause-from
open_reader_at-requires-clause-from g c =
    let t = task_at 0 c.args.row.now c.args.rules.now c.args.item_count (g.A.Meaning.meaning c.args.artifacts.now) in
    let gathered = rw c.in-Ok-Settled.field-0-is at c.in-Ok-Settled.ensures.ok in
    let within = settled-within t _ _ _ _ _ (g.A.Results.ChunkResults.pairs c.gather.new.results) (gathered 0) in
    let at = within.at in
    let first = within.first in
    omega (arith, at, first)

pub open_reader_at-requires-clause-to : goal.open_reader_at-requires-clause-to
open_reader_at-requires-clause-to g c =
    let t = task_at 0 c.args.row.now c.args.rules.now c.args.item_count (g.A.Meaning.meaning c.args.artifacts.now) in
    let gathered = rw c.in-Ok-Settled.field-0-is at c.in-Ok-Settled.ensures.ok in
    let within = settled-within t _ _ _ _ _ (g.A.Results.ChunkResults.pairs c.gather.new.results) (gathered 0) in
    let at = within.at in
    let end = within.end in
    omega (arith, at, end)

pub finish_block-requires-clause-order : goal.finish_block-requires-clause-order
finish_block-requires-clause-order g c =
    let t = task_at 0 c.args.row.now c.args.rules.now c.args.item_count (g.A.Meaning.meaning c.args.artifacts.now) in
    let came_to = yield_of c.in-Ok-Whole.tally (g.A.Results.ChunkResults.pairs c.gather.new.results) in
    let gathered = rw c.in-Ok-Whole.field-0-is at c.in-Ok-Whole.ensures.ok in
    let at = (whole-within t came_to _ _ (gathered 0)).0.at in
    omega (arith, at)

pub finish_block-requires-clause-from : goal.finish_block-requires-clause-from
finish_block-requires-clause-from g c =
    let t = task_at 0 c.args.row.now c.args.rules.now c.args.item_count (g.A.Meaning.meaning c.args.artifacts.now) in
    let came_to = yield_of c.in-Ok-Whole.tally (g.A.Results.ChunkResults.pairs c.gather.new.results) in
    let gathered = rw c.in-Ok-Whole.field-0-is at c.in-Ok-Whole.ensures.ok in
    let within = (whole-within t came_to _ _ (gathered 0)).0 in
    let at = within.at in
    let first = within.first in
    omega (arith, at, first)

pub finish_block-requires-clause-to : goal.finish_block-requires-clause-to
finish_block-requires-clause-to g c =
    let t = task_at 0 c.args.row.now c.args.rules.now c.args.item_count (g.A.Meaning.meaning c.args.artifacts.now) in
    let came_to = yield_of c.in-Ok-Whole.tally (g.A.Results.ChunkResults.pairs c.gather.new.results) in
    let gathered = rw c.in-Ok-Whole.field-0-is at c.in-Ok-Whole.ensures.ok in
    let end = (whole-within t came_to _ _ (gathered 0)).0.end in
    omega (arith, end)

pub finish_block-requires-clause-count : goal.finish_block-requires-clause-count
finish_block-requires-clause-count g c =
    let t = task_at 0 c.args.row.now c.args.rules.now c.args.item_count (g.A.Meaning.meaning c.args.artifacts.now) in
    let came_to = yield_of c.in-Ok-Whole.tally (g.A.Results.ChunkResults.pairs c.gather.new.results) in
    let gathered = rw c.in-Ok-Whole.field-0-is at c.in-Ok-Whole.ensures.ok in
    let within = (whole-within t came_to _ _ (gathered 0)).0 in
    ap length within.written ∙ c.requires.count ∙ sym within.kept
