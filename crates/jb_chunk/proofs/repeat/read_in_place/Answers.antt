use Rattle.std.proofs.Common.{refl, ap, arith, ◌∙◌, sym}
use Rattle.jb_artifacts.specs.Reader.{reader_end}
use Rattle.jb_artifacts.specs.Meaning.{ArtifactsMeaning}
use Rattle.jb_chunk.specs.inside.Repeats.{fault_answered, read_call}
use Rattle.jb_chunk.proofs.RepeatedCalls.{calling-none, reading-more, reading-last, read-bounds, room-more, room-one, fewer-left}
use Rattle.jb_chunk.proofs.repeat.read_in_place.Goals as goal

pub loop-answer-init : goal.loop-answer-init
loop-answer-init g c = record {
  calling = calling-none _ _ _ (read_call (g.A.Meaning.meaning c.args.artifacts.now) c.args.number) (g.A.Meaning.meaning c.args.artifacts.now) refl;
  sound = c.requires.sound;
  room = c.requires.room;
}

pub read_item-answer-requires : goal.read_item-answer-requires
read_item-answer-requires g c =
    let place = ap (λ (v : ArtifactsMeaning). v.reader.place) c.loop-answer.invariant.calling.passes in
    let end = ap (λ (v : ArtifactsMeaning). reader_end v.reader) c.loop-answer.invariant.calling.passes in
    omega (arith, place, end, c.requires.place, c.requires.to)

pub returns-then-not-is_repeated-clause-read : goal.returns-then-not-is_repeated-clause-read
returns-then-not-is_repeated-clause-read g c =
    let meaning = g.A.Meaning.meaning in
    let made = c.read_item-answer.ensures in
    reading-last g.A.PartitionArtifacts.bytes _ _ _ _ (meaning c.args.artifacts.now) (meaning c.loop-answer.artifacts) (meaning c.read_item-answer.new.self) _ c.read_item-answer.result c.requires.place c.loop-answer.invariant.calling made.answered made.faulted made.no_memory (sym c.is_repeated.ensures ∙ c.if-not-is_repeated.true)

pub returns-then-not-is_repeated-clause-sound : goal.returns-then-not-is_repeated-clause-sound
returns-then-not-is_repeated-clause-sound g c = c.loop-answer.invariant.sound

pub returns-then-not-is_repeated-clause-room : goal.returns-then-not-is_repeated-clause-room
returns-then-not-is_repeated-clause-room g c = c.loop-answer.invariant.room

pub repeated-requires-clause-room : goal.repeated-requires-clause-room
repeated-requires-clause-room g c = room-one c.args.rules.now c.loop-answer.row (fault_answered c.read_item-answer.result) c.args.skips c.loop-answer.invariant.room (sym c.is_repeated.ensures ∙ c.if-not-is_repeated.false)

pub open_reader_at-requires-clause-from : goal.open_reader_at-requires-clause-from
open_reader_at-requires-clause-from g c =
    let meaning = g.A.Meaning.meaning in
    let bounds = read-bounds _ _ _ _ (meaning c.args.artifacts.now) (meaning c.loop-answer.artifacts) (meaning c.read_item-answer.new.self) _ c.read_item-answer.result c.loop-answer.invariant.calling c.read_item-answer.ensures.faulted (sym c.is_repeated.ensures ∙ c.if-not-is_repeated.false) in
    let first = bounds.0 in
    omega (arith, first, c.requires.from)

pub open_reader_at-requires-clause-to : goal.open_reader_at-requires-clause-to
open_reader_at-requires-clause-to g c =
    let meaning = g.A.Meaning.meaning in
    let bounds = read-bounds _ _ _ _ (meaning c.args.artifacts.now) (meaning c.loop-answer.artifacts) (meaning c.read_item-answer.new.self) _ c.read_item-answer.result c.loop-answer.invariant.calling c.read_item-answer.ensures.faulted (sym c.is_repeated.ensures ∙ c.if-not-is_repeated.false) in
    let end = bounds.1 in
    omega (arith, end, c.requires.to)

pub loop-answer-smaller : goal.loop-answer-smaller
loop-answer-smaller g c = fewer-left c.args.rules.now c.loop-answer.row c.repeated.result (fault_answered c.read_item-answer.result) c.args.skips (sym c.is_repeated.ensures ∙ c.if-not-is_repeated.false) c.repeated.ensures.row

pub loop-answer-preserved : goal.loop-answer-preserved
loop-answer-preserved g c =
    let meaning = g.A.Meaning.meaning in
    let asked = sym c.is_repeated.ensures ∙ c.if-not-is_repeated.false in
    record {
      calling = reading-more _ _ _ _ _ (meaning c.args.artifacts.now) (meaning c.loop-answer.artifacts) (meaning c.read_item-answer.new.self) (meaning c.open_reader_at.new.self) _ c.read_item-answer.result c.requires.place c.loop-answer.invariant.calling c.read_item-answer.ensures.faulted asked c.repeated.ensures.row c.open_reader_at.ensures;
      sound = c.repeated.ensures.sound;
      room = room-more c.args.rules.now c.loop-answer.row c.repeated.result (fault_answered c.read_item-answer.result) c.args.skips c.loop-answer.invariant.room asked c.repeated.ensures.row;
    }
