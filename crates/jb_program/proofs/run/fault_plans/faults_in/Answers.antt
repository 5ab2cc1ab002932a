use Rattle.std.proofs.Common.{◌≡◌, ◌-◌, ◌≤◌, true, false, List, ltb, take, drop, length, ap, subst, ◌∙◌, arith, rules}
use Rattle.std.specs.List.Sorted.{IsPartitionPoint}
use Rattle.std.proofs.lemmas.List.{length-drop, take_all}
use Rattle.std.proofs.lemmas.List.Sorted.{IsPartitionPoint-from_clause, IsPartitionedBy-ltb, IsNonDecreasingBy-drop, IsNonDecreasingBy-take}
use Rattle.jb_documents.specs.declared.run.faults.PlannedFault.{PlannedFault}
use Rattle.jb_program.proofs.FaultPlans.{in-range}
use Rattle.jb_program.proofs.run.fault_plans.faults_in.Goals as goal

pub returns : goal.returns
returns c =
    let faults : List PlannedFault = c.args.faults.now in
    let range = c.args.range in
    let n = c.partition_point-first.result in
    let m = c.partition_point-count.result in
    let long = length faults - n in
    let later : take long (drop n faults) ≡ drop n faults = take_all long (drop n faults) (omega (arith, length-drop n faults)) in
    let order = IsNonDecreasingBy-take (λ (fault : PlannedFault). fault.number) long (drop n faults) (IsNonDecreasingBy-drop (λ (fault : PlannedFault). fault.number) n faults c.requires) in
    let first : IsPartitionPoint (λ (y : PlannedFault). ltb y.number range.lo ≡ true) (λ (y : PlannedFault). ltb y.number range.lo ≡ false) faults n =
    IsPartitionPoint-from_clause (λ (fault : PlannedFault). ltb fault.number range.lo) faults n c.partition_point-first.ensures.partitioned (IsPartitionedBy-ltb (λ (fault : PlannedFault). fault.number) faults range.lo c.requires) (λ a r q k. search rules) in
    let found : IsPartitionPoint (λ (y : PlannedFault). ltb y.number range.hi ≡ true) (λ (y : PlannedFault). ltb y.number range.hi ≡ false) (take long (drop n faults)) m =
    IsPartitionPoint-from_clause (λ (fault : PlannedFault). ltb fault.number range.hi) (take long (drop n faults)) m c.partition_point-count.ensures.partitioned (IsPartitionedBy-ltb (λ (fault : PlannedFault). fault.number) (take long (drop n faults)) range.hi order) (λ a r q k. search rules) in
    let second = subst (λ (xs : List PlannedFault). IsPartitionPoint (λ y. ltb y.number range.hi ≡ true) (λ y. ltb y.number range.hi ≡ false) xs m) later found in
    let few : m ≤ length (drop n faults) = subst (λ (xs : List PlannedFault). m ≤ length xs) later c.partition_point-count.ensures.bound in
    ap (take m) later ∙ in-range faults range n m c.partition_point-first.ensures.bound few
    (λ k d below. first.0 k d (omega arith) below) (λ k d from below. first.1 k d from below) (λ k d below. second.0 k d (omega arith) below) (λ k d from below. second.1 k d from below)
