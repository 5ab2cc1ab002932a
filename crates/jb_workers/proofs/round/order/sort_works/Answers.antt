use Rattle.std.proofs.Common.{rules}
use Rattle.std.proofs.lemmas.List.Sorted.{IsNonDecreasingBy-from_sort_by_key}
use Rattle.jb_workers.proofs.round.order.sort_works.Goals as goal

pub returns-in-Ok-clause-rising : goal.returns-in-Ok-clause-rising
returns-in-Ok-clause-rising g c =
    IsNonDecreasingBy-from_sort_by_key (λ w. (g.T.PartitionTask.task_state w.task).partition) _ c.in-Ok.ensures.sorted (λ a r q k. search rules)
