use Rattle.std.proofs.Common.{◌≡◌, ◌++◌, flat_map, take}
use Rattle.jb_saved.specs.SavedTree.{row_tree, tokens_of}
use Rattle.jb_saved.proofs.text.write_members.Given as goal

-- the rows so far are written
abbrev pub invariant-loop-row : goal.invariant-loop-row
invariant-loop-row l = record {
  rows : l.out.tokens ≡ l.initial.out.tokens ++ flat_map (λ row. tokens_of (row_tree row)) (take l.row-index l.rows);
  before : l.out.before ≡ l.initial.out.before;
}
