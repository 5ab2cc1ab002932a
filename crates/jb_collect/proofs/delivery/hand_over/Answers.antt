use Rattle.std.proofs.Common.{rules, ◌≡◌, ◌∷◌, Ok, Err, length}
use Rattle.std.specs.Vec.Iter.{into_iter_items}
use Rattle.jb_collect.proofs.Delivering.{more_texts, no_more_texts, no_text}
use Rattle.jb_collect.proofs.delivery.hand_over.Goals as goal

pub loop-text-preserved : goal.loop-text-preserved
loop-text-preserved g c = λ result after then_.
    let next : into_iter_items c.loop-text.text-iterator ≡ c.in-Some.text ∷ into_iter_items c.next.new.self = search rules in
    c.loop-text.invariant result after (rw next (more_texts _ _ after c.args.partition c.in-Some.text _ c.in_ok-take_collected.field-0 result c.in_ok-take_collected.ensures then_))

pub returns-in_err-take_collected : goal.returns-in_err-take_collected
returns-in_err-take_collected g c =
    let told : c.from_residual.result ≡ Err c.in_err-take_collected.field-0.0 = search rules in
    let next : into_iter_items c.loop-text.text-iterator ≡ c.in-Some.text ∷ into_iter_items c.next.new.self = search rules in
    rw told (c.loop-text.invariant (Err c.in_err-take_collected.field-0.0) ((goal.Analyzer-dyn g (c.loop-text.analyzer.now.0, c.take_collected.new.self)).analyzed c.take_collected.new.self) (no_more_texts _ _ c.args.partition _ c.in-Some.text _ c.in_err-take_collected.field-0.0 next c.in_err-take_collected.ensures))

pub returns : goal.returns
returns g c =
    let none : length (into_iter_items c.loop-text.text-iterator) ≡ 0 = search rules in
    c.loop-text.invariant (Ok tt) _ (no_text _ c.args.partition _ none)
