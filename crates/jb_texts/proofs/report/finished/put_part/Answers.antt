use Rattle.std.proofs.Common.{rules, ◌≡◌, [], ◌++◌, append_assoc, append-nil, ap, subst, ◌∙◌}
use Rattle.std.proofs.lemmas.Result.{IfOk-weaker, on_err_weaker}
use Rattle.json.specs.Print.{print}
use Rattle.jb_texts.specs.inside.Parts.{PassesOn, results_tokens}
use Rattle.jb_texts.proofs.Fronts.{front-longer, front-passed, on-err, passes-then}
use Rattle.jb_texts.proofs.report.finished.put_part.Goals as goal

pub returns-in_err-block-clause-front : goal.returns-in_err-block-clause-front
returns-in_err-block-clause-front g c =
    let block = c.args.block.items in
    let results = print (results_tokens c.args.part.now.results) in
    let text : c.deref.result.now ≡ c.args.part.now.text.items = search rules in
    on-err c.from_residual.result
    (front-longer _ _ (block ++ c.deref.result.now) results _ c.in_err-block.ensures.front (append_assoc block c.deref.result.now results ∙ ap (λ zs. block ++ (zs ++ results)) text))

pub returns-clause-passed : goal.returns-clause-passed
returns-clause-passed g c =
    let block = c.args.block.items in
    let results = print (results_tokens c.args.part.now.results) in
    let text : c.deref.result.now ≡ c.args.part.now.text.items = search rules in
    IfOk-weaker c.write_results.result _ _
    (λ rest passed. subst (λ zs. PassesOn (g.W.Write.contents c.args.writer.now) (g.W.Write.contents c.write_results.new.writer) block (zs ++ results) rest.items) text (passes-then _ _ _ block c.deref.result.now _ results rest.items c.in_ok-block.ensures.passed passed))
    c.write_results.ensures.passed

pub returns-clause-front : goal.returns-clause-front
returns-clause-front g c =
    let block = c.args.block.items in
    let results = print (results_tokens c.args.part.now.results) in
    let text : c.deref.result.now ≡ c.args.part.now.text.items = search rules in
    on_err_weaker c.write_results.result
    (λ front. front-passed _ _ _ block c.deref.result.now _ results [] _ c.in_ok-block.ensures.passed front (ap (λ zs. c.deref.result.now ++ zs) (append-nil results) ∙ ap (λ zs. zs ++ results) text))
    c.write_results.ensures.front
