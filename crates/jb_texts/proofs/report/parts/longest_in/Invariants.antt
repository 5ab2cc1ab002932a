use Rattle.std.proofs.Common.{◌≡◌, max, drop}
use Rattle.jb_texts.specs.inside.Parts.{longest}
use Rattle.jb_texts.proofs.report.parts.longest_in.Given as goal

abbrev pub invariant-loop-place : goal.invariant-loop-place
invariant-loop-place l = max l.longest (longest (drop l.place l.results)) ≡ longest l.results
