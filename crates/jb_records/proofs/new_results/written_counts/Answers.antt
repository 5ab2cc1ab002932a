use Rattle.std.proofs.Common.{◌≡◌, ◌∷◌, ◌++◌, [], arith, rules, sym}
use Rattle.std.proofs.lemmas.Option.{slice_get_within}
use Rattle.jb_records.proofs.Telling.{written_before-more}
use Rattle.jb_records.proofs.new_results.written_counts.Goals as goal

pub loop-partition-preserved : goal.loop-partition-preserved
loop-partition-preserved c =
    let rows = c.args.prepared.now.rows in
    let pushed : c.push.new.self.items ≡ c.loop-partition.written_before.items ++ c.in-Some.row.now.written ∷ [] = search rules in
    let inside = slice_get_within rows c.loop-partition.partition c.in-Some.row.now (sym c.in-Some.ensures) in
    (written_before-more rows c.loop-partition.partition c.in-Some.row.now _ _ (sym c.in-Some.ensures) c.loop-partition.invariant.0 pushed, omega (arith, inside))
