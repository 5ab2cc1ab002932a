use Rattle.jb_chunk.proofs.RunsOfAttempts.{same-place, same-end}
use Rattle.jb_chunk.proofs.laws.tasks_go_on.Goals as goal

pub returns : goal.returns
returns c = record { place = same-place c.chunks_follow_one_another.ensures; end = same-end c.chunks_follow_one_another.ensures }
