use Rattle.std.proofs.Common.{◌≡◌, ◌++◌, ◌∷◌, [], length, ap, ◌∙◌, rules}
use Rattle.jb_base.proofs.Packed.{pushed, pushed_end}
use Rattle.jb_base.proofs.packed_list.PackedList.push_joined.Goals as goal

pub invariant_of-self-2 : goal.invariant_of-self-2
invariant_of-self-2 c =
    let long : c.len.result ≡ length c.append_both.new.bytes.items = search rules in
    pushed_end c.self.inside.ends.items c.self.inside.bytes.items (c.args.first.now ++ c.args.second.now) _ _ c.self.invariant
    (c.push_reserved.ensures.items ∙ ap (λ es. es ++ c.len.result ∷ []) c.reserve.ensures.items ∙ ap (λ k. c.self.inside.ends.items ++ k ∷ []) long)
    c.in_ok-append_both.ensures.ok

pub returns-clause-ok : goal.returns-clause-ok
returns-clause-ok c =
    let long : c.len.result ≡ length c.append_both.new.bytes.items = search rules in
    pushed c.self.inside.ends.items c.self.inside.bytes.items (c.args.first.now ++ c.args.second.now) _ _ c.self.invariant
    (c.push_reserved.ensures.items ∙ ap (λ es. es ++ c.len.result ∷ []) c.reserve.ensures.items ∙ ap (λ k. c.self.inside.ends.items ++ k ∷ []) long)
    c.in_ok-append_both.ensures.ok
    ∙ ap (λ list. list ++ (c.args.first.now ++ c.args.second.now) ∷ []) c.self.view_is
