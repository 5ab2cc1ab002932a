use Rattle.std.proofs.Common.{refl, ◌≡◌, length, ap, ◌∙◌, sym}
use Rattle.jb_rules.specs.declared.row.Row.{Row}
use Rattle.jb_chunk.specs.inside.Repeats.{fault_answered, write_call}
use Rattle.jb_chunk.proofs.RepeatedCalls.{calling-none, putting-more, putting-last, can-cut, room-more, room-one, fewer-left}
use Rattle.jb_chunk.proofs.repeat.write_in_place.Goals as goal

pub loop-answer-init : goal.loop-answer-init
loop-answer-init g c = record {
  calling = calling-none _ _ _ (write_call (g.A.Meaning.meaning c.args.artifacts.now) (g.A.Results.ChunkResults.pairs c.args.results.now)) (g.A.Meaning.meaning c.args.artifacts.now) refl;
  sound = c.requires.sound;
  room = c.requires.room;
}

pub returns-then-not-is_repeated-clause-put : goal.returns-then-not-is_repeated-clause-put
returns-then-not-is_repeated-clause-put g c =
    let meaning = g.A.Meaning.meaning in
    let made = c.write_found-answer.ensures in
    putting-last _ _ _ _ (meaning c.args.artifacts.now) (meaning c.loop-answer.artifacts) (meaning c.write_found-answer.new.artifacts) _ c.write_found-answer.result c.loop-answer.invariant.calling made.written made.faulted made.no_memory (sym c.is_repeated.ensures ∙ c.if-not-is_repeated.true)

pub returns-then-not-is_repeated-clause-sound : goal.returns-then-not-is_repeated-clause-sound
returns-then-not-is_repeated-clause-sound g c = c.loop-answer.invariant.sound

pub repeated-requires-clause-room : goal.repeated-requires-clause-room
repeated-requires-clause-room g c = room-one c.args.rules.now c.loop-answer.row (fault_answered c.write_found-answer.result) c.args.skips c.loop-answer.invariant.room (sym c.is_repeated.ensures ∙ c.if-not-is_repeated.false)

pub open_writer_at-requires : goal.open_writer_at-requires
open_writer_at-requires g c =
    let meaning = g.A.Meaning.meaning in
    let asked = sym c.is_repeated.ensures ∙ c.if-not-is_repeated.false in
    let count : length (meaning c.args.artifacts.now).writer.written ≡ c.repeated.result.written =
    c.requires.count ∙ sym (ap (λ (r : Row). r.written) c.repeated.ensures.row ∙ ap (λ (r : Row). r.written) c.loop-answer.invariant.calling.grown) in
    can-cut (meaning c.args.artifacts.now) (meaning c.loop-answer.artifacts) (meaning c.write_found-answer.new.artifacts) _ _ _ _ _ _ c.write_found-answer.result count c.loop-answer.invariant.calling c.write_found-answer.ensures.faulted asked

pub loop-answer-smaller : goal.loop-answer-smaller
loop-answer-smaller g c = fewer-left c.args.rules.now c.loop-answer.row c.repeated.result (fault_answered c.write_found-answer.result) c.args.skips (sym c.is_repeated.ensures ∙ c.if-not-is_repeated.false) c.repeated.ensures.row

pub loop-answer-preserved : goal.loop-answer-preserved
loop-answer-preserved g c =
    let meaning = g.A.Meaning.meaning in
    let asked = sym c.is_repeated.ensures ∙ c.if-not-is_repeated.false in
    let count : length (meaning c.args.artifacts.now).writer.written ≡ c.repeated.result.written =
    c.requires.count ∙ sym (ap (λ (r : Row). r.written) c.repeated.ensures.row ∙ ap (λ (r : Row). r.written) c.loop-answer.invariant.calling.grown) in
    record {
      calling = putting-more _ _ _ _ _ (meaning c.args.artifacts.now) (meaning c.loop-answer.artifacts) (meaning c.write_found-answer.new.artifacts) (meaning c.open_writer_at.new.self) _ c.write_found-answer.result _ count c.loop-answer.invariant.calling c.write_found-answer.ensures.faulted asked c.repeated.ensures.row c.open_writer_at.ensures;
      sound = c.repeated.ensures.sound;
      room = room-more c.args.rules.now c.loop-answer.row c.repeated.result (fault_answered c.write_found-answer.result) c.args.skips c.loop-answer.invariant.room asked c.repeated.ensures.row;
    }
