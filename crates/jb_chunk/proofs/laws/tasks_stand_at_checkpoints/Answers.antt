use Rattle.jb_chunk.proofs.RunsOfAttempts.{tasks-stand-at-checkpoints}
use Rattle.jb_chunk.proofs.laws.tasks_stand_at_checkpoints.Goals as goal

pub returns : goal.returns
returns c = tasks-stand-at-checkpoints c.chunks_follow_one_another.ensures
