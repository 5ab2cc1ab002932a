use Rattle.jb_chunk.proofs.AfterRepeats.{after_repeats-row}
use Rattle.jb_chunk.proofs.OnCourse.{commits-have-deltas}
use Rattle.jb_chunk.proofs.RunsOfAttempts.{commits-take-one-chunk}
use Rattle.jb_chunk.proofs.laws.attempts_are_steps.Goals as goal

pub returns : goal.returns
returns c = record { chunk = commits-take-one-chunk c.chunks_follow_one_another.ensures; delta = commits-have-deltas c.chunks_follow_one_another.ensures; repeats = after_repeats-row }
