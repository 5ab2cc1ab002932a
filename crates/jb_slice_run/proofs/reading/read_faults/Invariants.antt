use Rattle.std.proofs.Common.{◌≡◌, ◌++◌, List, map, take}
use Rattle.jb_slices.specs.Function.{Fault}
use Rattle.jb_slice_run.specs.{Held.{faults_in}, Strings.{AreFaultsSmall, fault_string}}
use Rattle.jb_slice_run.proofs.reading.read_faults.Given as goal

-- the faults so far were read
abbrev pub invariant-loop-index : goal.invariant-loop-index
invariant-loop-index l = (new : List Fault) → AreFaultsSmall new → l.list ≡ map fault_string new → faults_in l.faults.items ≡ faults_in l.initial.faults.items ++ take l.index new
