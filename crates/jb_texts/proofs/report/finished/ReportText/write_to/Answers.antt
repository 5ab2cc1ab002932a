use Rattle.std.proofs.Common.{◌≡◌, [], ◌++◌, flat_map, append_assoc, append-nil, ap, subst, ◌∙◌}
use Rattle.std.proofs.lemmas.Result.{on_err_weaker, on_ok_weaker}
use Rattle.std.specs.Io.KnownBytes.{Appends}
use Rattle.jb_texts.specs.Front.{AppendsFront}
use Rattle.jb_texts.specs.inside.Parts.{part_text}
use Rattle.jb_texts.proofs.Fronts.{front-left, front-longer, front-passed, on-err, passes-then, whole-passed}
use Rattle.jb_texts.proofs.report.finished.ReportText.write_to.Goals as goal

pub returns-in_err-block-clause-front : goal.returns-in_err-block-clause-front
returns-in_err-block-clause-front g c =
    let block = c.self.inside.block.items in
    let last = c.self.inside.last.items in
    let parts = flat_map part_text c.deref.result.now in
    on-err c.from_residual.result
    (front-longer _ _ (block ++ parts) last _ c.in_err-block.ensures.front
    (append_assoc block parts last ∙ ap (λ ps. block ++ (flat_map part_text ps ++ last)) c.deref.ensures.value ∙ c.self.view_is))

pub returns-in_err-block-2-clause-front : goal.returns-in_err-block-2-clause-front
returns-in_err-block-2-clause-front g c =
    let block = c.self.inside.block.items in
    let last = c.deref-2.result.now in
    let parts = flat_map part_text c.deref.result.now in
    let text : block ++ (parts ++ last) ≡ c.args.self = (λ i. block ++ (flat_map part_text (c.deref.ensures.value i) ++ c.deref-2.ensures.value i)) ∙ c.self.view_is in
    on-err c.from_residual-in_err-block-2.result
    (subst (λ all. AppendsFront (g.W.Write.contents c.args.writer.now) (g.W.Write.contents c.put_text.new.writer) all) text
    (front-passed _ _ _ block parts _ last [] (parts ++ last) c.in_ok-block.ensures.passed c.in_err-block-2.ensures.front (ap (λ zs. parts ++ zs) (append-nil last))))

pub returns-clause-whole : goal.returns-clause-whole
returns-clause-whole g c =
    let block = c.self.inside.block.items in
    let last = c.deref-2.result.now in
    let parts = flat_map part_text c.deref.result.now in
    let text : block ++ (parts ++ last) ≡ c.args.self = (λ i. block ++ (flat_map part_text (c.deref.ensures.value i) ++ c.deref-2.ensures.value i)) ∙ c.self.view_is in
    let passed = passes-then _ _ _ block parts _ last _ c.in_ok-block.ensures.passed c.in_ok-block-2.ensures.passed in
    on_ok_weaker c.write_whole.result
    (λ written. subst (λ all. Appends (g.W.Write.contents c.args.writer.now) (g.W.Write.contents c.write_whole.new.writer) all) text
    (whole-passed _ _ _ block (parts ++ last) _ passed (rw c.deref-3.ensures.value at written)))
    c.write_whole.ensures.whole

pub returns-clause-front : goal.returns-clause-front
returns-clause-front g c =
    let block = c.self.inside.block.items in
    let last = c.deref-2.result.now in
    let parts = flat_map part_text c.deref.result.now in
    let text : block ++ (parts ++ last) ≡ c.args.self = (λ i. block ++ (flat_map part_text (c.deref.ensures.value i) ++ c.deref-2.ensures.value i)) ∙ c.self.view_is in
    let passed = passes-then _ _ _ block parts _ last _ c.in_ok-block.ensures.passed c.in_ok-block-2.ensures.passed in
    on_err_weaker c.write_whole.result
    (λ front. subst (λ all. AppendsFront (g.W.Write.contents c.args.writer.now) (g.W.Write.contents c.write_whole.new.writer) all) text
    (front-left _ _ _ block (parts ++ last) _ passed (rw c.deref-3.ensures.value at front)))
    c.write_whole.ensures.front
