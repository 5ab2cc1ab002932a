use Rattle.std.proofs.Common.{◌≡◌, map, take}
use Rattle.jb_slice_run.specs.{Held.{faults_in}, Strings.{AreFaultsSmall, fault_string}}
use Rattle.jb_slice_run.proofs.strings.faults_list.Given as goal

-- the faults so far are put
abbrev pub invariant-loop-fault : goal.invariant-loop-fault
invariant-loop-fault l = record {
  list : l.list ≡ map fault_string (faults_in (take l.fault-index l.faults));
  small : AreFaultsSmall (faults_in (take l.fault-index l.faults));
}
