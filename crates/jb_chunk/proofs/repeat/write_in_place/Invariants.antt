use Rattle.std.proofs.Common.{◌-◌}
use Rattle.jb_rules.specs.Sound.{IsSoundRow}
use Rattle.jb_chunk.specs.TaskState.{HasRepeats}
use Rattle.jb_chunk.specs.inside.Repeats.{IsCalling, write_call}
use Rattle.jb_chunk.proofs.repeat.write_in_place.Given as goal

-- each write so far failed, and was to be repeated
abbrev pub invariant-loop-answer : goal.invariant-loop-answer
invariant-loop-answer g l = record {
  calling : IsCalling l.rules l.skips l.fn.row (write_call (g.A.Meaning.meaning l.fn.artifacts) (g.A.Results.ChunkResults.pairs l.results)) l.row (g.A.Meaning.meaning l.artifacts);
  sound : IsSoundRow l.row;
  room : HasRepeats l.rules l.row;
}

abbrev pub decreases-loop-answer : goal.decreases-loop-answer
decreases-loop-answer g l = l.rules.retry_limit - l.row.retries
