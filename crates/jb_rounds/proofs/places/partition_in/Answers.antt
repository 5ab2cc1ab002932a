use Rattle.std.proofs.Common.{◌≡◌, ◌-◌, ◌<◌, leb, true, false, rules, arith}
use Rattle.std.specs.List.Sorted.{IsPartitionPoint}
use Rattle.std.proofs.lemmas.List.Sorted.{IsPartitionPoint-from_clause, IsPartitionedBy-leb}
use Rattle.jb_rounds.specs.inside.Starts.{LiesBetween}
use Rattle.jb_rounds.proofs.PrefixSums.{between_from_point}
use Rattle.jb_rounds.proofs.places.partition_in.Goals as goal
use Rattle.jb_rounds.proofs.places.partition_in.Goals.{After-partition_point}

between : (c : After-partition_point) → (0 < c.partition_point.result) × LiesBetween c.args.starts.now c.args.place (c.partition_point.result - 1)
between c =
    let starts = c.args.starts.now in
    let place = c.args.place in
    let point : IsPartitionPoint (λ y. leb y place ≡ true) (λ y. leb y place ≡ false) starts c.partition_point.result =
    IsPartitionPoint-from_clause (λ y. leb y place) starts _ c.partition_point.ensures.partitioned (IsPartitionedBy-leb (λ y. y) starts place c.requires.rising) (λ a r q k. search rules) in
    between_from_point starts place c.partition_point.result point c.partition_point.ensures.bound c.requires.some c.requires.from c.requires.until

pub overflow_sub-result : goal.overflow_sub-result
overflow_sub-result c = omega (arith, (between c).0)

pub returns : goal.returns
returns c = (between (goal.at.returns c).After-partition_point).1
