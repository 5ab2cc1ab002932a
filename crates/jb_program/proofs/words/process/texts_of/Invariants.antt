use Rattle.std.proofs.Common.{◌≡◌, map, take, string_bytes}
use Rattle.jb_program.proofs.words.process.texts_of.Given as goal

-- the texts so far are those of the arguments that have been passed
abbrev pub invariant-loop-arg : goal.invariant-loop-arg
invariant-loop-arg l = map (λ w. w.now) l.texts.items ≡ map string_bytes (take l.arg-index l.args)
