use Rattle.std.proofs.Common.{◌≤◌, ◌∙◌, length, ap, sym, subst, arith}
use Rattle.std.specs.Prelude.{All, slice_range}
use Rattle.jb_base.specs.Packed.{start_of}
use Rattle.jb_base.proofs.Parts.{above_base, ordered_bytes, part_end, part_is, within}
use Rattle.jb_base.proofs.packed_list.PackedList.part.Goals as goal

pub start_of-base-requires : goal.start_of-base-requires
start_of-base-requires c =
    let to = within c.self.inside.ends.items c.self.inside.bytes.items c.args.self.now c.args.from c.args.to c.self.view_is c.self.invariant c.requires.order c.requires.to in
    let ends = ap length c.deref.ensures.value in
    let order = c.requires.order in
    omega arith

pub start_of-end-requires : goal.start_of-end-requires
start_of-end-requires c =
    let to = within c.self.inside.ends.items c.self.inside.bytes.items c.args.self.now c.args.from c.args.to c.self.view_is c.self.invariant c.requires.order c.requires.to in
    let ends = ap length c.deref-2.ensures.value in
    omega arith

pub range-requires : goal.range-requires
range-requires c =
    let is = ordered_bytes c.self.inside.ends.items c.self.inside.bytes.items c.args.self.now c.args.from c.args.to c.self.view_is c.self.invariant c.requires.order c.requires.to in
    let from = c.start_of-base.ensures ∙ ap (λ ends. start_of 0 ends c.args.from) c.deref.ensures.value in
    let to = c.start_of-end.ensures ∙ ap (λ ends. start_of 0 ends c.args.to) c.deref-2.ensures.value in
    let bytes = ap length c.deref-3.ensures.value in
    let order = is.0 in
    let end = is.1 in
    record { order = omega arith; end = omega arith }

pub ends_between-requires-clause-to : goal.ends_between-requires-clause-to
ends_between-requires-clause-to c =
    let to = within c.self.inside.ends.items c.self.inside.bytes.items c.args.self.now c.args.from c.args.to c.self.view_is c.self.invariant c.requires.order c.requires.to in
    let ends = ap length c.deref-4.ensures.value in
    omega arith

pub lowered-requires : goal.lowered-requires
lowered-requires c =
    let base = c.start_of-base.ensures ∙ ap (λ ends. start_of 0 ends c.args.from) c.deref.ensures.value in
    let own = c.ends_between.ensures ∙ ap (λ ends. slice_range ends c.args.from c.args.to) c.deref-4.ensures.value in
    subst (λ k. All (λ end. k ≤ end) c.ends_between.result.now) (sym base)
    (subst (All (λ end. start_of 0 c.self.inside.ends.items c.args.from ≤ end)) (sym own)
    (above_base c.self.inside.ends.items c.self.inside.bytes.items c.args.self.now c.args.from c.args.to c.self.view_is c.self.invariant c.requires.order c.requires.to))

pub invariant_of-result : goal.invariant_of-result
invariant_of-result c =
    part_end c.self.inside.ends.items c.self.inside.bytes.items c.args.self.now c.args.from c.args.to c.self.view_is c.self.invariant c.requires.order c.requires.to
    c.start_of-base.result c.start_of-end.result _ _ _
    (c.start_of-base.ensures ∙ ap (λ ends. start_of 0 ends c.args.from) c.deref.ensures.value)
    (c.start_of-end.ensures ∙ ap (λ ends. start_of 0 ends c.args.to) c.deref-2.ensures.value)
    (c.ends_between.ensures ∙ ap (λ ends. slice_range ends c.args.from c.args.to) c.deref-4.ensures.value)
    c.in_ok-ends.ensures
    (c.in_ok-bytes.ensures.items ∙ c.range.ensures ∙ ap (λ bytes. slice_range bytes c.start_of-base.result c.start_of-end.result) c.deref-3.ensures.value)

pub returns : goal.returns
returns c =
    part_is c.self.inside.ends.items c.self.inside.bytes.items c.args.self.now c.args.from c.args.to c.self.view_is c.self.invariant c.requires.order c.requires.to
    c.start_of-base.result c.start_of-end.result _ _ _
    (c.start_of-base.ensures ∙ ap (λ ends. start_of 0 ends c.args.from) c.deref.ensures.value)
    (c.start_of-end.ensures ∙ ap (λ ends. start_of 0 ends c.args.to) c.deref-2.ensures.value)
    (c.ends_between.ensures ∙ ap (λ ends. slice_range ends c.args.from c.args.to) c.deref-4.ensures.value)
    c.in_ok-ends.ensures
    (c.in_ok-bytes.ensures.items ∙ c.range.ensures ∙ ap (λ bytes. slice_range bytes c.start_of-base.result c.start_of-end.result) c.deref-3.ensures.value)
