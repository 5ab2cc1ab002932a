use Rattle.std.proofs.Common.{ℕ, ltb, arith, rules}
use Rattle.std.proofs.lemmas.Bool.Decides.{nat_tests}
use Rattle.std.proofs.lemmas.List.Sorted.{IsPartitionPoint-from_clause, IsPartitionedBy-ltb}
use Rattle.jb_artifacts.specs.declared.faults.FaultPlan.{FaultPlan}
use Rattle.jb_artifacts.specs.inside.FaultPlaces.{Entries}
use Rattle.jb_artifacts.proofs.FaultPlaces.{rising}
use Rattle.jb_artifacts.proofs.fault_places.place_of.Goals as goal

pub returns : goal.returns
returns c =
    let entries : Entries = c.args.entries.now in
    let up = rising entries c.requires in
    let point = IsPartitionPoint-from_clause (λ (e : ℕ × FaultPlan). ltb e.0 c.args.number) entries c.partition_point.result c.partition_point.ensures.partitioned
    (IsPartitionedBy-ltb (λ (e : ℕ × FaultPlan). e.0) entries c.args.number up) (λ a r q k. search rules) in
    record { bound = c.partition_point.ensures.bound; parts = ((λ k d from below. let low = point.0 k d from below in grind (arith, nat_tests, low)), (λ k d from below. let high = point.1 k d from below in grind (arith, nat_tests, high))) }
