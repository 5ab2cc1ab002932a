use Rattle.std.proofs.Common.{◌≡◌, ◌++◌, slice_range}
use Rattle.jb_texts.specs.inside.Parts.{results_tokens}
use Rattle.jb_texts.proofs.report.outputs.write_range.Given as goal

-- the results so far are written
abbrev pub invariant-loop-place : goal.invariant-loop-place
invariant-loop-place l = record {
  texts : l.out.tokens ≡ l.initial.out.tokens ++ results_tokens (slice_range l.results l.from l.place);
  before : l.out.before ≡ l.initial.out.before;
}
