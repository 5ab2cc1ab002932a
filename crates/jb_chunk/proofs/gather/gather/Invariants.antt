use Rattle.std.proofs.Common.{◌-◌, ◌≤◌}
use Rattle.jb_rules.specs.Sound.{IsSoundRow}
use Rattle.jb_chunk.specs.TaskState.{HasRepeats}
use Rattle.jb_chunk.specs.inside.TriedChunk.{OfTask}
use Rattle.jb_chunk.specs.inside.Gathering.{yield_of}
use Rattle.jb_chunk.specs.inside.Repeats.{IsGathering}
use Rattle.jb_chunk.proofs.gather.gather.Given as goal

-- the records so far are done, and each of their faults is skipped or its call repeated
abbrev pub invariant-loop-number : goal.invariant-loop-number
invariant-loop-number g l =
    let meaning = g.A.Meaning.meaning in
    record {
      gathering : OfTask l.rules l.fn.row l.item_count (meaning l.fn.artifacts) (λ t. IsGathering t l.number (yield_of l.tally (g.A.Results.ChunkResults.pairs l.results)) l.row (meaning l.artifacts));
      sound : IsSoundRow l.row;
      room : HasRepeats l.rules l.row;
      skips : l.tally.skips ≤ l.number - l.fn.row.at;
      read_skips : l.tally.read_skips ≤ l.number - l.fn.row.at;
    }
