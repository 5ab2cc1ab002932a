use Rattle.jb_slice_run.specs.Coding.{AreListsRead}
use Rattle.jb_slice_run.proofs.decoding.read_lists.Given as goal

abbrev pub invariant-loop : goal.invariant-loop
invariant-loop l = AreListsRead l.lists.items l.bytes l.rest l.counter
