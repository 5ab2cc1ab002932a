use Rattle.std.proofs.lemmas.List.Sorted.{All-permutation, length_permutation}
use Rattle.jb_workers.specs.Works.{CanBegin}
use Rattle.jb_workers.proofs.round.order.in_order.Goals as goal

pub returns-clause-can : goal.returns-clause-can
returns-clause-can g c =
    All-permutation (λ w. CanBegin (g.T.PartitionTask.task_state w.task)) _ _ c.sort_works.ensures.permutation c.requires

pub returns-clause-all : goal.returns-clause-all
returns-clause-all g c = length_permutation _ _ c.sort_works.ensures.permutation
