use Rattle.jb_slice_file.proofs.Chains.{ends_after}
use Rattle.jb_slice_file.proofs.statements.append.Goals as goal

pub returns-clause-end : goal.returns-clause-end
returns-clause-end g c all ends = ends_after c.args.end.now c.in-Some.longer all _ ends c.in-Some.ensures.after
