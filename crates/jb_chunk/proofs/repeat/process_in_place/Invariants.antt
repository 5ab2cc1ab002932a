use Rattle.std.proofs.Common.{◌≡◌, ◌-◌}
use Rattle.jb_rules.specs.Sound.{IsSoundRow}
use Rattle.jb_chunk.specs.TaskState.{HasRepeats}
use Rattle.jb_chunk.specs.inside.Repeats.{IsCalling, process_call}
use Rattle.jb_chunk.proofs.repeat.process_in_place.Given as goal

-- each call so far failed, and was to be repeated
abbrev pub invariant-loop-answer : goal.invariant-loop-answer
invariant-loop-answer g l = record {
  calling : IsCalling l.rules l.skips l.fn.row (process_call (g.A.Meaning.meaning l.fn.artifacts) l.number) l.row (g.A.Meaning.meaning l.artifacts);
  sound : IsSoundRow l.row;
  room : HasRepeats l.rules l.row;
  results : g.A.Results.ChunkResults.pairs l.results ≡ g.A.Results.ChunkResults.pairs l.fn.results;
}

abbrev pub decreases-loop-answer : goal.decreases-loop-answer
decreases-loop-answer g l = l.rules.retry_limit - l.row.retries
