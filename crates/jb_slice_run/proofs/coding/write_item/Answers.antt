use Rattle.std.proofs.Common.{[], length, ap, arith}
use Rattle.sqlite_trees.proofs.ListLemmas.{all-get_or}
use Rattle.jb_slice_run.{specs.Coding.{IsShort}, proofs.Why.{why_so}}
use Rattle.jb_slice_run.proofs.coding.write_item.Goals as goal

pub returns-clause-why : goal.returns-clause-why
returns-clause-why c =
    why_so c.write_string.result _ (λ long short. omega (arith, long, ap length c.at.ensures, all-get_or (λ s. IsShort s) c.args.list.now c.args.index [] short c.requires)) c.write_string.ensures.why
