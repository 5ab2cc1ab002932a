use Rattle.std.proofs.Common.{ap, arith, length, sym}
use Rattle.jb_rows.proofs.Packing.{few-fields, fields-first, fields-none, first-shorter}
use Rattle.jb_rows.proofs.row.count_fields.Goals as goal

pub fields-smaller : goal.fields-smaller
fields-smaller c = first-shorter c.fields.behind.now (c.in-Some.field-0-0.now, c.in-Some.later.now) (sym c.in-Some.ensures)

pub overflow_add-count : goal.overflow_add-count
overflow_add-count c =
    let all = ap length (fields-first c.fields.behind.now (c.in-Some.field-0-0.now, c.in-Some.later.now) (sym c.in-Some.ensures)) in
    let few = few-fields c.args.bytes.now in
    let so_far = c.fields.invariant in
    record { fits = omega (arith, all, few, so_far) }

pub fields-preserved : goal.fields-preserved
fields-preserved c =
    let all = ap length (fields-first c.fields.behind.now (c.in-Some.field-0-0.now, c.in-Some.later.now) (sym c.in-Some.ensures)) in
    let so_far = c.fields.invariant in
    omega (arith, all, so_far)

pub returns-in-None : goal.returns-in-None
returns-in-None c =
    let none = ap length (fields-none c.fields.behind.now (sym c.in-None.ensures)) in
    let so_far = c.fields.invariant in
    omega (arith, none, so_far)
