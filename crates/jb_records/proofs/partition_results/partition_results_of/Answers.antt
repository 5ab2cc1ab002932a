use Rattle.std.proofs.Common.{◌≡◌, ◌∙◌, ◌+◌, ◌<◌, ◌≤◌, ◌∷◌, ◌++◌, [], None, ap, arith, inr, length, refl, rules, subst, sym}
use Rattle.std.proofs.lemmas.Option.{slice_get_within}
use Rattle.std.specs.Option.{option_copied}
use Rattle.std.specs.Prelude.{slice_get}
use Rattle.jb_records.proofs.Sharing.{joined-on, numbered-more, part-length}
use Rattle.jb_records.specs.PartitionResults.{AreNumbered}
use Rattle.jb_records.proofs.Causes.{too-few, too-many, whole-at}
use Rattle.jb_records.proofs.partition_results.partition_results_of.Goals as goal

pub loop-partition-preserved : goal.loop-partition-preserved
loop-partition-preserved c =
    let pushed : c.push.new.self.items ≡ c.loop-partition.partition_results.items ++ c.in_ok-part.field-0 ∷ [] = search rules in
    let place = c.loop-partition.place in
    let written = c.in-Some.row.now.written in
    let few = c.loop-partition.invariant.2 in
    let inside = slice_get_within c.args.prepared.now.rows c.loop-partition.partition c.in-Some.row.now (sym c.in-Some.ensures) in
    let fits : place + written ≤ length c.args.earlier.now = omega (arith, few) in
    let many = ap length c.in_ok-part.ensures ∙ part-length c.args.earlier.now place written fits in (
      numbered-more c.args.prepared.now.rows c.loop-partition.partition c.in-Some.row.now _ _ _ c.in-Some.ensures many pushed c.loop-partition.invariant.0,
      joined-on _ _ c.in_ok-part.field-0 c.args.earlier.now place written pushed c.in_ok-part.ensures c.loop-partition.invariant.1,
      fits,
      omega (arith, inside),
    )

pub returns-else-place-len-clause-why : goal.returns-else-place-len-clause-why
returns-else-place-len-clause-why c =
    let rows = c.args.prepared.now.rows in
    let none : slice_get rows c.loop-partition.partition ≡ None = sym c.row.ensures ∙ ap option_copied c.in_default.is in
    let are = subst (λ rs. AreNumbered rs c.loop-partition.partition_results.items) (whole-at rows c.loop-partition.partition none) c.loop-partition.invariant.0 in
    inr (refl, too-many rows c.loop-partition.partition_results.items c.args.earlier.now c.loop-partition.place are c.loop-partition.invariant.1 c.loop-partition.invariant.2 (λ e. c.if-place-len.false (e ∙ sym c.len.ensures)))

pub returns-then-row-len-clause-why : goal.returns-then-row-len-clause-why
returns-then-row-len-clause-why c =
    let few = c.loop-partition.invariant.2 in
    let long = c.len-in-loop-partition.ensures in
    let more = c.if-row-len.true in
    let less : length c.args.earlier.now < c.loop-partition.place + c.in-Some.row.now.written = omega (arith, few, long, more) in
    inr (refl, too-few c.args.prepared.now.rows c.loop-partition.partition c.in-Some.row.now c.loop-partition.partition_results.items c.args.earlier.now c.loop-partition.place c.in-Some.ensures c.loop-partition.invariant.0 c.loop-partition.invariant.1 few less)

pub unreachable-requires : goal.unreachable-requires
unreachable-requires c =
    let few = c.requires in
    let past = c.loop-partition-test.false in
    let among = c.loop-partition.invariant.3 in
    omega (arith, few, past, among)
