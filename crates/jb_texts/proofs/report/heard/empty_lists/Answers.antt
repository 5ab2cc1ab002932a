use Rattle.std.proofs.Common.{◌++◌, ◌∷◌, [], map, arith, ap, sym, ◌∙◌}
use Rattle.std.specs.Prelude.{List}
use Rattle.std.proofs.lemmas.List.{map-append}
use Rattle.std.proofs.lemmas.List.FromFn.{map-range_with_len_more}
use Rattle.jb_collect.specs.declared.calls.AnalyzerCall.{AnalyzerCall}
use Rattle.jb_collect.specs.Heard.{calls_about}
use Rattle.jb_texts.proofs.report.heard.empty_lists.Goals as goal

pub loop-preserved : goal.loop-preserved
loop-preserved c =
    let n = c.loop.counter in
    ap (map (λ list. map (λ one. one.now) list.items)) c.in_ok-push.ensures.items ∙ map-append (λ list. map (λ one. one.now) list.items) c.loop.lists.items _
    ∙ ap (λ calls. map (λ list. map (λ one. one.now) list.items) c.loop.lists.items ++ map (λ one. one.now) calls ∷ []) c.new.ensures.items
    ∙ ap (λ (lists : List (List AnalyzerCall)). lists ++ [] ∷ []) c.loop.invariant ∙ sym (map-range_with_len_more (λ p. calls_about p []) 0 n n (omega arith))
