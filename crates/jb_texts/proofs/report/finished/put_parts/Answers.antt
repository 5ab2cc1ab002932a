use Rattle.std.proofs.Common.{◌≡◌, ◌+◌, ◌++◌, flat_map, take, drop, suc, add-one, ap, sym, subst, ◌∙◌}
use Rattle.jb_texts.specs.inside.Parts.{PassesOn, part_text}
use Rattle.jb_texts.proofs.Fronts.{front-passed, on-err, passes-then}
use Rattle.jb_texts.proofs.Parts.{parts-at, parts-more}
use Rattle.jb_texts.proofs.report.finished.put_parts.Goals as goal

pub returns-in_err-block-clause-front : goal.returns-in_err-block-clause-front
returns-in_err-block-clause-front g c =
    let parts = c.args.parts.now in
    let k = c.loop-part.part-index in
    let part = c.part-item.result in
    let later = flat_map part_text (drop (suc k) parts) in
    on-err c.from_residual.result
    (front-passed _ _ _ c.args.block.items _ _ (part_text part) later _ c.loop-part.invariant c.in_err-block.ensures.front
    (ap (λ one. flat_map part_text (take k parts) ++ (part_text one ++ later)) c.part-item.is ∙ parts-at part_text parts k part c.loop-part-test.true))

pub loop-part-preserved : goal.loop-part-preserved
loop-part-preserved g c =
    let parts = c.args.parts.now in
    let k = c.loop-part.part-index in
    let part = c.part-item.result in
    let next : flat_map part_text (take k parts) ++ part_text part ≡ flat_map part_text (take (k + 1) parts) =
    ap (λ one. flat_map part_text (take k parts) ++ part_text one) c.part-item.is ∙ sym (ap (λ n. flat_map part_text (take n parts)) (add-one k) ∙ parts-more part_text parts k part c.loop-part-test.true) in
    subst (λ text. PassesOn (g.W.Write.contents c.args.writer.now) (g.W.Write.contents c.put_part.new.writer) c.args.block.items text c.in_ok-block.block.items) next (passes-then _ _ _ c.args.block.items _ _ _ _ c.loop-part.invariant c.in_ok-block.ensures.passed)
