use Rattle.sqlite_trees.proofs.ListLemmas.{all-get_or}
use Rattle.jb_slice_run.{specs.Coding.{IsCodable}, proofs.Why.{why_on}}
use Rattle.jb_slice_run.proofs.coding.coding_of.Goals as goal

pub returns-in_err-write_list-clause-why : goal.returns-in_err-write_list-clause-why
returns-in_err-write_list-clause-why c =
    why_on c.from_residual.result c.in_err-write_list.field-0.0 c.from_residual.ensures.1
    (λ long all. long (rw c.list-item.is (all-get_or (λ l. IsCodable l) c.args.lists.now c.loop-list.list-index c.list-item.result all c.loop-list-test.true))) c.in_err-write_list.ensures.why
