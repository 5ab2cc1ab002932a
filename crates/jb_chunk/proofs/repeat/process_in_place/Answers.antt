use Rattle.std.proofs.Common.{refl, ◌∙◌, sym, ap}
use Rattle.jb_chunk.specs.inside.Repeats.{fault_answered, process_call, results_behind}
use Rattle.jb_artifacts.specs.Reader.{record_at}
use Rattle.jb_chunk.proofs.RepeatedCalls.{calling-none, processing-more, processing-last, results-kept, results-last, room-more, room-one, fewer-left}
use Rattle.jb_chunk.proofs.repeat.process_in_place.Goals as goal

pub loop-answer-init : goal.loop-answer-init
loop-answer-init g c = record {
  calling = calling-none _ _ _ (process_call (g.A.Meaning.meaning c.args.artifacts.now) c.args.number) (g.A.Meaning.meaning c.args.artifacts.now) refl;
  sound = c.requires.sound;
  room = c.requires.room;
  results = refl;
}

pub returns-then-not-is_repeated-clause-processed : goal.returns-then-not-is_repeated-clause-processed
returns-then-not-is_repeated-clause-processed g c =
    let meaning = g.A.Meaning.meaning in
    let pairs = g.A.Results.ChunkResults.pairs in
    let made = c.process_item-answer.ensures in
    processing-last _ _ _ _ (meaning c.args.artifacts.now) (meaning c.loop-answer.artifacts) (meaning c.process_item-answer.new.self) _ (g.A.PartitionArtifacts.bytes c.args.item.now) (pairs c.loop-answer.results) (pairs c.process_item-answer.new.results) c.process_item-answer.result c.loop-answer.invariant.calling made.answered made.faulted made.no_memory (sym c.is_repeated.ensures ∙ c.if-not-is_repeated.true)

pub returns-then-not-is_repeated-clause-results : goal.returns-then-not-is_repeated-clause-results
returns-then-not-is_repeated-clause-results g c =
    let meaning = g.A.Meaning.meaning in
    let pairs = g.A.Results.ChunkResults.pairs in
    let w = meaning c.args.artifacts.now in
    let bytes = g.A.PartitionArtifacts.bytes c.args.item.now in
    let made = c.process_item-answer.ensures in
    results-last _ _ _ _ w (meaning c.loop-answer.artifacts) (meaning c.process_item-answer.new.self) _ bytes (pairs c.loop-answer.results) (pairs c.process_item-answer.new.results) c.process_item-answer.result c.loop-answer.invariant.calling made.answered made.faulted made.no_memory
    ∙ ap (results_behind c.process_item-answer.result c.args.number (w.processor.answer c.args.number (bytes (record_at w.reader c.args.number)))) c.loop-answer.invariant.results

pub returns-then-not-is_repeated-clause-sound : goal.returns-then-not-is_repeated-clause-sound
returns-then-not-is_repeated-clause-sound g c = c.loop-answer.invariant.sound

pub returns-then-not-is_repeated-clause-room : goal.returns-then-not-is_repeated-clause-room
returns-then-not-is_repeated-clause-room g c = c.loop-answer.invariant.room

pub repeated-requires-clause-room : goal.repeated-requires-clause-room
repeated-requires-clause-room g c = room-one c.args.rules.now c.loop-answer.row (fault_answered c.process_item-answer.result) c.args.skips c.loop-answer.invariant.room (sym c.is_repeated.ensures ∙ c.if-not-is_repeated.false)

pub loop-answer-smaller : goal.loop-answer-smaller
loop-answer-smaller g c = fewer-left c.args.rules.now c.loop-answer.row c.repeated.result (fault_answered c.process_item-answer.result) c.args.skips (sym c.is_repeated.ensures ∙ c.if-not-is_repeated.false) c.repeated.ensures.row

pub loop-answer-preserved : goal.loop-answer-preserved
loop-answer-preserved g c =
    let meaning = g.A.Meaning.meaning in
    let pairs = g.A.Results.ChunkResults.pairs in
    let asked = sym c.is_repeated.ensures ∙ c.if-not-is_repeated.false in
    let kept = results-kept c.args.rules.now c.args.skips c.loop-answer.row (meaning c.loop-answer.artifacts) (meaning c.process_item-answer.new.self) c.args.number (pairs c.loop-answer.results) (pairs c.process_item-answer.new.results) c.process_item-answer.result c.process_item-answer.ensures.faulted asked in
    record {
      results = kept ∙ c.loop-answer.invariant.results;
      calling = processing-more _ _ _ _ _ (meaning c.args.artifacts.now) (meaning c.loop-answer.artifacts) (meaning c.process_item-answer.new.self) _ (pairs c.loop-answer.results) (pairs c.process_item-answer.new.results) c.process_item-answer.result c.loop-answer.invariant.calling c.process_item-answer.ensures.faulted asked c.repeated.ensures.row;
      sound = c.repeated.ensures.sound;
      room = room-more c.args.rules.now c.loop-answer.row c.repeated.result (fault_answered c.process_item-answer.result) c.args.skips c.loop-answer.invariant.room asked c.repeated.ensures.row;
    }
