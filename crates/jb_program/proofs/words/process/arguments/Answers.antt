use Rattle.std.proofs.Common.{◌≡◌, Some, IfOk, drop, map, string_bytes, vec_items, refl, ap, sym, subst, ◌∙◌}
use Rattle.std.specs.Vec.Iter.{into_iter_items}
use Rattle.std.proofs.lemmas.Iterator.{items_from_collect}
use Rattle.std.proofs.lemmas.Iterator.Adapters.{YieldsList-from_vec}
use Rattle.jb_program.specs.ProcessWords.{process_words}
use Rattle.jb_program.proofs.words.process.arguments.Goals as goal

pub returns-in_ok-collect-in-Ok-clause-ok : goal.returns-in_ok-collect-in-Ok-clause-ok
returns-in_ok-collect-in-Ok-clause-ok c =
    let args = c.in-Ok.args in
    let all = into_iter_items args in
    let got : c.in_ok-collect-in-Ok.field-0.items ≡ all =
    subst (λ r. IfOk r (λ v. vec_items v ≡ all)) c.in_ok-collect-in-Ok.was (items_from_collect c.collect.result c.collect.ensures.ran (YieldsList-from_vec all refl args.rest.ok.0)) in
    ap process_words c.in-Ok.is ∙ ap (λ items. Some (drop 1 (map string_bytes items))) (sym got)
