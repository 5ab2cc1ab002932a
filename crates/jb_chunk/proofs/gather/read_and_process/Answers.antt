use Rattle.std.proofs.Common.{arith}
use Rattle.jb_chunk.proofs.DoneRecords.{read-fault-entered, process-fault-entered, processed-entered, read-same, read-there, read-worn, process-worn}
use Rattle.jb_chunk.proofs.gather.read_and_process.Goals as goal

pub returns-in-Err-Fault-clause-done : goal.returns-in-Err-Fault-clause-done
returns-in-Err-Fault-clause-done g c =
    let w = g.A.Meaning.meaning c.args.artifacts.now in
    let read = rw c.in-Err-Fault.field-0-is at c.in-Err-Fault.ensures.read in
    read-fault-entered c.args.rules.now c.args.skips c.args.row.now w c.args.number c.in-Err-Fault.class c.read_in_place.new.row (g.A.Meaning.meaning c.read_in_place.new.artifacts) (g.A.Results.ChunkResults.pairs c.args.results.now) c.requires.place read

pub returns-in-Err-Memory-clause-err : goal.returns-in-Err-Memory-clause-err
returns-in-Err-Memory-clause-err g c =
    let read = rw c.in-Err-Memory.field-0-is at c.in-Err-Memory.ensures.read in
    read-worn c.args.rules.now c.args.skips c.args.row.now c.read_in_place.new.row (g.A.Meaning.meaning c.args.artifacts.now) (g.A.Meaning.meaning c.read_in_place.new.artifacts) c.args.number read

pub process_in_place-requires-clause-from : goal.process_in_place-requires-clause-from
process_in_place-requires-clause-from g c =
    let same = (read-there _ _ _ _ _ _ _ _ c.in-Ok.ensures.read).0 in
    omega (arith, same, c.requires.from)

pub process_in_place-requires-clause-to : goal.process_in_place-requires-clause-to
process_in_place-requires-clause-to g c =
    let same = (read-there _ _ _ _ _ _ _ _ c.in-Ok.ensures.read).1 in
    omega (arith, same, c.requires.to)

pub returns-in-Ok-process_in_place-clause-done : goal.returns-in-Ok-process_in_place-clause-done
returns-in-Ok-process_in_place-clause-done g c =
    let meaning = g.A.Meaning.meaning in
    let pairs = g.A.Results.ChunkResults.pairs in
    let bytes = g.A.PartitionArtifacts.bytes c.in-Ok.item in
    let same = read-same c.args.rules.now c.args.skips c.args.row.now c.read_in_place.new.row (meaning c.args.artifacts.now) (meaning c.read_in_place.new.artifacts) c.args.number _ bytes c.in-Ok.ensures.read in
    processed-entered c.args.rules.now c.args.skips c.args.row.now c.read_in_place.new.row c.process_in_place.new.row (meaning c.args.artifacts.now) (meaning c.read_in_place.new.artifacts) (meaning c.process_in_place.new.artifacts) c.args.number _ _ _ (pairs c.args.results.now) (pairs c.process_in_place.new.results) c.requires.place c.in-Ok.ensures.read same c.in-Ok-process_in_place.ensures.processed c.in-Ok-process_in_place.ensures.results

pub returns-in-Err-Fault-process_in_place-clause-done : goal.returns-in-Err-Fault-process_in_place-clause-done
returns-in-Err-Fault-process_in_place-clause-done g c =
    let meaning = g.A.Meaning.meaning in
    let pairs = g.A.Results.ChunkResults.pairs in
    let bytes = g.A.PartitionArtifacts.bytes c.in-Ok.item in
    let same = read-same c.args.rules.now c.args.skips c.args.row.now c.read_in_place.new.row (meaning c.args.artifacts.now) (meaning c.read_in_place.new.artifacts) c.args.number _ bytes c.in-Ok.ensures.read in
    let processed = rw c.in-Err-Fault-process_in_place.field-0-is at c.in-Err-Fault-process_in_place.ensures.processed in
    process-fault-entered c.args.rules.now c.args.skips c.args.row.now c.read_in_place.new.row c.process_in_place.new.row (meaning c.args.artifacts.now) (meaning c.read_in_place.new.artifacts) (meaning c.process_in_place.new.artifacts) c.args.number _ _ c.in-Err-Fault-process_in_place.class (pairs c.args.results.now) (pairs c.process_in_place.new.results) c.requires.place c.in-Ok.ensures.read same processed c.in-Err-Fault-process_in_place.ensures.results

pub returns-clause-err : goal.returns-clause-err
returns-clause-err g c =
    let meaning = g.A.Meaning.meaning in
    let processed = rw c.in-Err-Memory-process_in_place.field-0-is at c.in-Err-Memory-process_in_place.ensures.processed in
    process-worn c.args.rules.now c.args.skips c.args.row.now c.read_in_place.new.row c.process_in_place.new.row (meaning c.args.artifacts.now) (meaning c.read_in_place.new.artifacts) (meaning c.process_in_place.new.artifacts) c.args.number _ _ c.requires.place c.in-Ok.ensures.read processed
