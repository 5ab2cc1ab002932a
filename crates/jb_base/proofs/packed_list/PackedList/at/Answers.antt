use Rattle.std.proofs.Common.{length, ap, ◌∙◌, arith}
use Rattle.std.specs.Prelude.{slice_range, slice_index}
use Rattle.jb_base.specs.Packed.{start_of}
use Rattle.jb_base.proofs.Packed.{count_is, read}
use Rattle.jb_base.proofs.packed_list.PackedList.at.Goals as goal

pub start_of-requires : goal.start_of-requires
start_of-requires c =
    let count = count_is c.self.inside.ends.items c.self.inside.bytes.items c.args.self.now c.self.view_is in
    let ends = ap length c.deref.ensures.value in
    omega arith

pub end_of-requires : goal.end_of-requires
end_of-requires c =
    let count = count_is c.self.inside.ends.items c.self.inside.bytes.items c.args.self.now c.self.view_is in
    let ends = ap length c.deref-2.ensures.value in
    omega arith

pub range-requires : goal.range-requires
range-requires c =
    let count = count_is c.self.inside.ends.items c.self.inside.bytes.items c.args.self.now c.self.view_is in
    let start = ap (λ ends. start_of 0 ends c.args.index) c.deref.ensures.value in
    let end = ap (λ ends. slice_index ends c.args.index) c.deref-2.ensures.value in
    let bytes = ap length c.as_slice.ensures.value in
    let is = read c.self.inside.ends.items c.self.inside.bytes.items c.args.self.now c.args.index c.self.view_is c.self.invariant (omega arith) in
    let order = is.1.0 in
    let within = is.1.1 in
    record { order = omega arith; end = omega arith }

pub returns : goal.returns
returns c =
    let count = count_is c.self.inside.ends.items c.self.inside.bytes.items c.args.self.now c.self.view_is in
    let start = c.start_of.ensures ∙ ap (λ ends. start_of 0 ends c.args.index) c.deref.ensures.value in
    let end = c.end_of.ensures ∙ ap (λ ends. slice_index ends c.args.index) c.deref-2.ensures.value in
    let is = read c.self.inside.ends.items c.self.inside.bytes.items c.args.self.now c.args.index c.self.view_is c.self.invariant (omega arith) in
    c.range.ensures ∙ (λ i. slice_range (c.as_slice.ensures.value i) (start i) (end i)) ∙ is.0
