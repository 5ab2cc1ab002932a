use Rattle.jb_slice_run.specs.Coding.{AreStringsRead}
use Rattle.jb_slice_run.proofs.decoding.read_strings.Given as goal

abbrev pub invariant-loop : goal.invariant-loop
invariant-loop l = AreStringsRead l.list l.bytes l.rest l.counter
