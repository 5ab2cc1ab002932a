use Rattle.std.proofs.Common.{◌∷◌, ◌++◌, [], if◌then◌else◌, take, drop, ap, sym, ◌∙◌, arith}
use Rattle.std.proofs.lemmas.List.{drop_at, drop-drop, length-take-le}
use Rattle.std.proofs.Math.ListN.{drop_of_length-le}
use borrow.Rule.Slice.PartMut.{post_of}
use Rattle.jb_artifacts.proofs.count_collector.write_end.Goals as goal

pub returns-then-last-clause-written : goal.returns-then-last-clause-written
returns-then-last-clause-written c =
    let text = c.args.text.now in
    drop_at (take 62 text) (c.copy_from_slice.new.self ++ post_of 62 4 text) 62 (length-take-le 62 text (omega (arith, c.told-text)))
    ∙ (λ i. c.copy_from_slice.ensures.after i ++ (drop-drop 4 62 text ∙ drop_of_length-le text {i = 66} (omega (arith, c.told-text))) i)
    ∙ sym (ap (λ last. if last then 58 ∷ 101 ∷ 110 ∷ 100 ∷ [] else []) c.if-last.true)

pub returns-clause-written : goal.returns-clause-written
returns-clause-written c =
    drop_of_length-le c.args.text.now {i = 66} (omega (arith, c.told-text)) ∙ sym (ap (λ last. if last then 58 ∷ 101 ∷ 110 ∷ 100 ∷ [] else []) c.if-last.false)
