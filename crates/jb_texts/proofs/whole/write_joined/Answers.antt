use Rattle.std.proofs.Common.{map, take, ap, sym, subst, ◌∙◌, append-nil, [], add-one}
use Rattle.std.specs.List.{concat}
use Rattle.std.specs.Io.KnownBytes.{Appends}
use Rattle.std.proofs.lemmas.List.{take_all}
use Rattle.std.proofs.KnownBytes.{Appends-trans}
use Rattle.jb_texts.proofs.Fronts.{front-after, front-kept, on-err}
use Rattle.jb_texts.proofs.Joined.{joined-at, joined-more}
use Rattle.jb_texts.proofs.whole.write_joined.Goals as goal

pub returns-in_err-write_bytes-clause-front : goal.returns-in_err-write_bytes-clause-front
returns-in_err-write_bytes-clause-front g c =
    on-err c.from_residual.result (front-after _ _ _ _ _ _ _ c.loop-text.invariant c.in_err-write_bytes.ensures.front (joined-at (λ t. t.now) c.args.texts.now c.loop-text.text-index _ c.loop-text-test.true))

pub loop-text-preserved : goal.loop-text-preserved
loop-text-preserved g c =
    let texts = c.args.texts.now in
    let k = c.loop-text.text-index in
    subst (λ written. Appends (g.W.Write.contents c.args.writer.now) (g.W.Write.contents c.write_bytes.new.writer) written)
    (sym (ap (λ n. concat (map (λ t. t.now) (take n texts))) (add-one k) ∙ joined-more (λ t. t.now) texts k _ c.loop-text-test.true))
    (Appends-trans _ _ _ _ _ c.loop-text.invariant c.in_ok-write_bytes.ensures.whole)

pub returns-clause-front : goal.returns-clause-front
returns-clause-front g c =
    let texts = c.args.texts.now in
    let k = c.loop-text.text-index in
    on-err c.flush.result (front-kept _ _ _ (concat (map (λ t. t.now) (take k texts))) [] _ c.loop-text.invariant c.flush.ensures.bytes
    (append-nil _ ∙ ap (λ all. concat (map (λ t. t.now) all)) (take_all k texts c.loop-text-test.false)))
