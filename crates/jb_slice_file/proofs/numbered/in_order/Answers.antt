use Rattle.std.proofs.Common.{◌≡◌, ◌+◌, [], ◌∷◌, length, map, pos, rules, ap, subst, sym, ◌∙◌, arith, true≢false}
use Rattle.std.{proofs.lemmas.List.{length-map, map-append}, specs.Vec.Iter.into_iter_items}
use Rattle.jb_slice_file.specs.{Chain.link_of, CheckpointBytes.checkpoint_bytes, Numbered.{IsAlteredAt, numbered}}
use Rattle.jb_slice_file.proofs.Chains.{altered, last_more, other_number, push_next}
use Rattle.jb_slice_file.proofs.numbered.in_order.Goals as goal

pub returns-then-not-is_under-clause-gap : goal.returns-then-not-is_under-clause-gap
returns-then-not-is_under-clause-gap c same all is =
    let next : into_iter_items c.found.one-iterator ≡ c.in-Some.one ∷ into_iter_items c.next.new.self = search rules in
    let number = other_number _ _ _ _ (rw next at c.found.invariant.list) all is ∙ ap pos (omega (arith, c.len.ensures, length-map c.found.all.items checkpoint_bytes)) in
    true≢false (sym (c.is_under.ensures.1 number) ∙ c.if-not-is_under.true)

pub returns-then-not-has_link-clause-altered : goal.returns-then-not-has_link-clause-altered
returns-then-not-has_link-clause-altered c number same =
    let next : into_iter_items c.found.one-iterator ≡ c.in-Some.one ∷ into_iter_items c.next.new.self = search rules in
    let place : c.len.result + 1 ≡ length (map checkpoint_bytes c.found.all.items) + 1 = omega (arith, c.len.ensures, length-map c.found.all.items checkpoint_bytes) in
    let link = c.right_link-link.ensures ∙ (λ i. link_of (c.found.invariant.last i) (place i) (checkpoint_bytes c.in-Some.one.checkpoint)) in
    let number_is : c.len.result + 1 ≡ number = cc in
    subst (λ n. IsAlteredAt n (map numbered c.args.found.items)) (sym place ∙ number_is)
    (altered _ _ _ _ (rw next at c.found.invariant.list) (c.is_under.ensures.0 c.if-not-is_under.false ∙ ap pos place)
    (λ e. true≢false (sym (c.has_link.ensures.1 (e ∙ sym link)) ∙ c.if-not-has_link.true)))

pub found-preserved : goal.found-preserved
found-preserved c =
    let next : into_iter_items c.found.one-iterator ≡ c.in-Some.one ∷ into_iter_items c.next.new.self = search rules in
    let place : c.len.result + 1 ≡ length (map checkpoint_bytes c.found.all.items) + 1 = omega (arith, c.len.ensures, length-map c.found.all.items checkpoint_bytes) in
    let link = c.right_link-link.ensures ∙ (λ i. link_of (c.found.invariant.last i) (place i) (checkpoint_bytes c.in-Some.one.checkpoint)) in
    let pushed = ap (map checkpoint_bytes) c.in_ok-push.ensures.items ∙ map-append checkpoint_bytes c.found.all.items (c.in-Some.one.checkpoint ∷ []) in
    rw pushed (record {
      list = push_next _ _ _ _ (rw next at c.found.invariant.list) (c.is_under.ensures.0 c.if-not-is_under.false ∙ ap pos place) (c.has_link.ensures.0 c.if-not-has_link.false ∙ link);
      last = link ∙ sym (last_more (map checkpoint_bytes c.found.all.items) (checkpoint_bytes c.in-Some.one.checkpoint));
    })
