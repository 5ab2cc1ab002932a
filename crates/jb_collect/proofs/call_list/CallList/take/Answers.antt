use Rattle.std.proofs.Common.{rules, ◌≡◌, ◌++◌, ◌∷◌, [], length, ap, ◌∙◌}
use Rattle.jb_collect.proofs.Listing.{takes_planned}
use Rattle.jb_collect.proofs.call_list.CallList.take.Goals as goal

pub returns-clause-taken : goal.returns-clause-taken
returns-clause-taken g c =
    let pushed : c.push.new.self.items ≡ c.args.self.now.calls ++ c.args.call ∷ [] =
    c.in_ok-push.ensures.items ∙ ap (λ list. list.calls ++ c.args.call ∷ []) c.self.view_is in
    let counted : c.len.result ≡ length c.args.self.now.calls = c.len.ensures ∙ (search rules) ∙ ap (λ list. length list.calls) c.self.view_is in
    takes_planned c.args.self.now c.push.new.self.items c.args.call c.len.result c.fault_at-fault.result c.self.inside.fault c.answer.result
    pushed counted c.fault_at-fault.ensures (ap (λ list. list.fault) c.self.view_is) c.answer.ensures
