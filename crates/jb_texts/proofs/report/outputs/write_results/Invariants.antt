use Rattle.std.proofs.Common.{◌≤◌, ◌-◌, length, take}
use Rattle.json.specs.Print.{print}
use Rattle.jb_texts.specs.inside.Parts.{PassesOn, results_tokens}
use Rattle.jb_texts.proofs.report.outputs.write_results.Given as goal

-- the results so far are written, or wait in the block
abbrev pub invariant-loop-from : goal.invariant-loop-from
invariant-loop-from g l = record {
  within : l.from ≤ length l.results;
  passed : PassesOn (g.W.Write.contents l.initial.writer) (g.W.Write.contents l.writer) l.fn.block.items (print (results_tokens (take l.from l.results))) l.block.items;
}

-- each turn leaves fewer of them
abbrev pub decreases-loop-from : goal.decreases-loop-from
decreases-loop-from g l = length l.results - l.from
