use Rattle.std.proofs.Common.{◌≡◌, ◌∷◌, ap, rules}
use Rattle.std.specs.Vec.Iter.{into_iter_items}
use Rattle.jb_step.specs.Answers.{given_back}
use Rattle.jb_records.specs.inside.InMemory.{is_done, is_left}
use Rattle.jb_records.proofs.Telling.{parted-on}
use Rattle.jb_records.proofs.interval_end.parted.Goals as goal

pub loop-one-preserved : goal.loop-one-preserved
loop-one-preserved g c =
    let meaning = g.A.Meaning.meaning in
    let next : into_iter_items c.loop-one.one-iterator ≡ c.in-Some.one ∷ into_iter_items c.next.new.self = search rules in
    let first = ap (given_back meaning) next in (
      parted-on (is_done c.args.rows.now) (c.in-Some.one.0, meaning c.in-Some.one.1) _ _ _ _ _ first c.in_ok-part_one.ensures.finished c.loop-one.invariant.0,
      parted-on (is_left c.args.rows.now) (c.in-Some.one.0, meaning c.in-Some.one.1) _ _ _ _ _ first c.in_ok-part_one.ensures.left c.loop-one.invariant.1,
    )
