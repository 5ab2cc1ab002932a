use Rattle.std.proofs.Common.{◌-◌, ◌∷◌, ◌++◌, decimal, drop, sym, ◌∙◌, append_assoc, arith, length-set}
use Rattle.jb_texts.proofs.Digits.{byte-before, chunk-length, partition-length}
use Rattle.jb_texts.proofs.plan.lanes.write_slot.Goals as goal

pub write_digits-dot-requires : goal.write_digits-dot-requires
write_digits-dot-requires c = (omega (arith, chunk-length c.args.chunk c.ranges.chunk.fits, c.requires.0), c.requires.1)

pub overflow_sub-dot : goal.overflow_sub-dot
overflow_sub-dot c = omega (arith, chunk-length c.args.chunk c.ranges.chunk.fits, c.requires.0, c.write_digits-dot.ensures.start)

pub write_digits-begin-requires : goal.write_digits-begin-requires
write_digits-begin-requires c =
    let chunk = chunk-length c.args.chunk c.ranges.chunk.fits in
    let partition = partition-length c.from.result (omega (arith, c.from.ensures, c.ranges.partition.fits)) in (
      omega (arith, chunk, partition, c.requires.0, c.write_digits-dot.ensures.start),
      omega (arith, c.requires.1, c.write_digits-dot.ensures.start, length-set c.write_digits-dot.new.buf (c.write_digits-dot.result - 1) 46),
    )

pub overflow_sub-begin : goal.overflow_sub-begin
overflow_sub-begin c =
    let chunk = chunk-length c.args.chunk c.ranges.chunk.fits in
    let partition = partition-length c.from.result (omega (arith, c.from.ensures, c.ranges.partition.fits)) in
    omega (arith, chunk, partition, c.requires.0, c.write_digits-dot.ensures.start, c.write_digits-begin.ensures.start)

pub returns-clause-begin : goal.returns-clause-begin
returns-clause-begin c =
    let chunk = chunk-length c.args.chunk c.ranges.chunk.fits in
    let partition = partition-length c.from.result (omega (arith, c.from.ensures, c.ranges.partition.fits)) in
    (omega (arith, c.write_digits-dot.ensures.start, c.write_digits-begin.ensures.start), omega (arith, chunk, partition, c.requires.0, c.write_digits-dot.ensures.start, c.write_digits-begin.ensures.start))

pub returns-clause-written : goal.returns-clause-written
returns-clause-written c =
    let chunk = chunk-length c.args.chunk c.ranges.chunk.fits in
    let partition = partition-length c.from.result (omega (arith, c.from.ensures, c.ranges.partition.fits)) in
    let dot = c.write_digits-dot.result in
    let begin = c.write_digits-begin.result in
    let line = c.write_digits-dot.new.buf in
    let behind = byte-before line dot 46 _ (omega (arith, chunk, c.requires.0, c.write_digits-dot.ensures.start)) (omega (arith, c.requires.1, c.write_digits-dot.ensures.start)) c.write_digits-dot.ensures.written in
    byte-before c.write_digits-begin.new.buf begin 32 _ (omega (arith, chunk, partition, c.requires.0, c.write_digits-dot.ensures.start, c.write_digits-begin.ensures.start))
    (omega (arith, c.requires.1, c.write_digits-dot.ensures.start, c.write_digits-begin.ensures.start, length-set line (dot - 1) 46))
    (c.write_digits-begin.ensures.written ∙ (λ i. decimal (c.from.ensures i) ++ behind i) ∙ sym (append_assoc (decimal c.args.partition) (46 ∷ decimal c.args.chunk) (drop c.args.end c.args.line.now)))
