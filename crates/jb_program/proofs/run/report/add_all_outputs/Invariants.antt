use Rattle.std.proofs.Common.{◌≡◌, ◌≤◌, ◌==◌, ◌++◌, ℕ, find, flat_map, take}
use Rattle.std.specs.List.{enumerate_from}
use Rattle.jb_program.specs.inside.Written.{written_at}
use Rattle.jb_program.proofs.run.report.add_all_outputs.Given as goal

-- the outputs of the partitions so far are added, and the lists of the others are there
abbrev pub invariant-loop-place : goal.invariant-loop-place
invariant-loop-place l = record {
  text : l.text ≡ l.initial.text ++ flat_map (written_at l.outputs l.fn.lists.items) (enumerate_from 0 (take l.place l.rows));
  others : (other : ℕ) → l.place ≤ other → find (λ one. one.0 == other) l.lists.items ≡ find (λ one. one.0 == other) l.fn.lists.items;
}
