use Rattle.std.proofs.Common.{take, ap, sym, ◌∙◌, arith}
use Rattle.std.proofs.lemmas.List.{take_all}
use Rattle.jb_base.specs.Packed.{start_of}
use Rattle.jb_base.proofs.Packed.{count_is, cut, cut_end}
use Rattle.jb_base.proofs.packed_list.PackedList.truncate.Goals as goal

pub invariant_of-self : goal.invariant_of-self
invariant_of-self c =
    cut_end c.self.inside.ends.items c.self.inside.bytes.items _ _ c.args.count c.self.invariant c.truncate-then-count-len.ensures.items
    (c.truncate.ensures.items ∙ ap (λ k. take k c.self.inside.bytes.items) (c.start_of.ensures ∙ ap (λ ends. start_of 0 ends c.args.count) c.deref.ensures.value))

pub returns-then-count-len : goal.returns-then-count-len
returns-then-count-len c =
    cut c.self.inside.ends.items c.self.inside.bytes.items _ _ c.args.count c.self.invariant c.truncate-then-count-len.ensures.items
    (c.truncate.ensures.items ∙ ap (λ k. take k c.self.inside.bytes.items) (c.start_of.ensures ∙ ap (λ ends. start_of 0 ends c.args.count) c.deref.ensures.value))
    ∙ ap (take c.args.count) c.self.view_is

pub returns-else-count-len : goal.returns-else-count-len
returns-else-count-len c =
    let count = count_is c.self.inside.ends.items c.self.inside.bytes.items c.args.self.now c.self.view_is in
    sym (take_all c.args.count c.args.self.now (search (arith, count)))
