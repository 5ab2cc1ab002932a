use Rattle.std.proofs.Common.{◌≡◌, ◌∷◌, List, ℕ, length, map, take}
use Rattle.jb_slice_run.specs.{Held.{new_output_grown, new_output_in}, Strings.{AreOutputsSmall, NewOutput, new_output_lists}}
use Rattle.jb_slice_run.proofs.intervals.grow_all.Given as goal

-- the partitions so far have grown
abbrev pub invariant-loop-index : goal.invariant-loop-index
invariant-loop-index l = record {
  number : length l.partitions ≡ length l.initial.partitions;
  grown : (limits : List (List ℕ)) (new : List NewOutput) → AreOutputsSmall new → l.lists ≡ limits ∷ new_output_lists new
      → map new_output_in l.partitions ≡ new_output_grown (map new_output_in l.initial.partitions) (take l.index new);
}
