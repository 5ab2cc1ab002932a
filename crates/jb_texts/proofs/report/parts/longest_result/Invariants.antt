use Rattle.std.proofs.Common.{◌≡◌, max, drop}
use Rattle.jb_texts.specs.inside.Parts.{longest_of_parts}
use Rattle.jb_texts.proofs.report.parts.longest_result.Given as goal

abbrev pub invariant-loop-part : goal.invariant-loop-part
invariant-loop-part l = max l.longest (longest_of_parts (drop l.part-index l.parts)) ≡ longest_of_parts l.parts
