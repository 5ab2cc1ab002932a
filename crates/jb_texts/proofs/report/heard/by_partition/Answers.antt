use Rattle.std.proofs.Common.{◌++◌, ◌∷◌, [], map, take, ap, sym, ◌∙◌}
use Rattle.std.proofs.lemmas.List.{take_more, with_items_is}
use Rattle.std.specs.List.{range_with_len}
use Rattle.jb_collect.specs.Heard.{calls_about}
use Rattle.jb_texts.specs.inside.Heard.{placed}
use Rattle.jb_texts.proofs.Heard.{placed-more}
use Rattle.jb_texts.proofs.report.heard.by_partition.Goals as goal

pub loop-call-preserved : goal.loop-call-preserved
loop-call-preserved c =
    let calls = c.args.calls.now in
    let i = c.loop-call.call-index in
    let call = c.call-item.result in
    let kept = with_items_is c.loop-call.lists c.place.new.lists (c.place.auto.lists ∙ c.deref_mut.ensures.len) in
    ap (map (λ list. map (λ one. one.now) list.items)) kept ∙ c.in_ok-place.ensures ∙ ap (λ lists. placed call (map (λ list. map (λ one. one.now) list.items) lists)) c.deref_mut.ensures.value
    ∙ ap (placed call) c.loop-call.invariant ∙ placed-more call (take i calls) c.args.partitions
    ∙ ap (λ cs. map (λ p. calls_about p cs) (range_with_len 0 c.args.partitions)) (ap (λ one. take i calls ++ one ∷ []) c.call-item.is ∙ sym (take_more calls i call c.loop-call-test.true))
