use Rattle.std.{proofs.Common.{◌≡◌, ◌++◌, List, length, map}, specs.Vec.Iter.{into_iter_items}}
use Rattle.jb_slice_run.specs.{Held.{new_output_in}, NewOutput.{AreNewOutputsOf, CanAllGrow}, Strings.{NewOutput}}
use Rattle.jb_slice_run.proofs.faults.all_new_output.Given as goal

-- those of the partitions so far, with any of those to come behind them
abbrev pub invariant-results : goal.invariant-results
invariant-results g l =
    let f = g.F.RowFunction.answer l.function in
    let left = into_iter_items l.one-iterator in
    length l.fn.results.items ≡ length l.fn.rows → CanAllGrow f l.rules l.items l.fn.before l.fn.rows → record {
      many : length left ≡ length l.rows;
      can : CanAllGrow f l.rules l.items l.before l.rows;
      new : (ns : List NewOutput) → AreNewOutputsOf f l.rules l.first l.items l.before l.rows left ns
          → AreNewOutputsOf f l.rules l.first l.items l.fn.before l.fn.rows l.fn.results.items (map new_output_in l.all.items ++ ns);
    }
