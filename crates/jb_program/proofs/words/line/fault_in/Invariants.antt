use Rattle.jb_program.proofs.CommandLines.{GoOnUpTo, texts}
use Rattle.jb_program.proofs.words.line.fault_in.Given as goal

-- up to each word that was passed, the words can go on
abbrev pub invariant-loop-place : goal.invariant-loop-place
invariant-loop-place l = GoOnUpTo (texts l.words) l.place
