use Rattle.std.proofs.Common.{◌≡◌, map, take}
use Rattle.jb_program.proofs.words.line.with_a_number.Given as goal

-- the words so far are those that have been passed
abbrev pub invariant-loop-word : goal.invariant-loop-word
invariant-loop-word l = map (λ w. w.now) l.longer.items ≡ map (λ w. w.now) (take l.word-index l.words)
