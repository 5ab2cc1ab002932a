use Rattle.std.proofs.Common.{All, subst, ◌<◌, ◌≡◌, ◌++◌, length, map, ap, sym, ◌∙◌, rules, ◌+◌}
use Rattle.jb_base.proofs.Packed.{appended, appended_end, behind_fit}
use Rattle.jb_base.proofs.packed_list.PackedList.append.Goals as goal

ends : (c : goal.After-append_ends) → c.append_ends.new.ends.items ≡ c.self.inside.ends.items ++ map (λ end. length c.self.inside.bytes.items + end) c.other.inside.ends.items
ends c =
    let first : c.len-base.result ≡ length c.self.inside.bytes.items = search rules in
    c.append_ends.ensures ∙ (λ i. c.reserve.ensures.items i ++ map (λ end. first i + end) (c.deref-2.ensures.value i))

pub append_ends-requires-clause-fits : goal.append_ends-requires-clause-fits
append_ends-requires-clause-fits c =
    let small : length c.extend_from_slice.new.self.items < 18446744073709551616 = search rules in
    let first : c.len-base.result ≡ length c.self.inside.bytes.items = search rules in
    subst (All (λ end. c.len-base.result + end < 18446744073709551616)) (sym c.deref-2.ensures.value)
    (behind_fit c.self.inside.bytes.items c.other.inside.ends.items c.other.inside.bytes.items c.extend_from_slice.new.self.items c.len-base.result _
    c.other.invariant first (c.in_ok-extend_from_slice.ensures.items ∙ ap (λ more. c.self.inside.bytes.items ++ more) c.deref.ensures.value) small)

pub invariant_of-self-2 : goal.invariant_of-self-2
invariant_of-self-2 c = appended_end c.self.inside.ends.items c.self.inside.bytes.items c.other.inside.ends.items c.other.inside.bytes.items _ _ c.self.invariant c.other.invariant (ends c) (c.in_ok-extend_from_slice.ensures.items ∙ ap (λ more. c.self.inside.bytes.items ++ more) c.deref.ensures.value)

pub returns-clause-ok : goal.returns-clause-ok
returns-clause-ok c = appended c.self.inside.ends.items c.self.inside.bytes.items c.other.inside.ends.items c.other.inside.bytes.items _ _ c.self.invariant (ends c) (c.in_ok-extend_from_slice.ensures.items ∙ ap (λ more. c.self.inside.bytes.items ++ more) c.deref.ensures.value) ∙ (λ i. c.self.view_is i ++ c.other.view_is i)
