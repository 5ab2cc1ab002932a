use Rattle.std.proofs.Common.{◌≡◌, map, take, string_bytes}
use Rattle.jb_csv_job.proofs.work.texts_of.Given as goal

abbrev pub invariant-loop-string : goal.invariant-loop-string
invariant-loop-string l = map (λ text. text.now) l.texts.items ≡ map string_bytes (take l.string-index l.strings)
