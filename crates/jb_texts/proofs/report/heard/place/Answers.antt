use Rattle.std.proofs.Common.{◌++◌, ◌∷◌, [], map, ap, sym, ◌∙◌}
use Rattle.std.proofs.lemmas.List.{map-append}
use Rattle.jb_texts.proofs.Heard.{placed-here}
use Rattle.jb_texts.proofs.report.heard.place.Goals as goal

pub returns-in_ok-push : goal.returns-in_ok-push
returns-in_ok-push c =
    let list = c.index-lists-partition.result in
    placed-here (λ one. map (λ call. call.now) one.items) c.args.lists.now c.partition_of-partition.result list c.push.new.self c.args.call.now
    c.partition_of-partition.ensures c.if-partition-lists.true c.index-lists-partition.is
    (ap (map (λ call. call.now)) (c.in_ok-push.ensures.items ∙ ap (λ one. one.items ++ c.args.call ∷ []) (sym c.index-lists-partition.is)) ∙ map-append (λ call. call.now) list.items (c.args.call ∷ []))
