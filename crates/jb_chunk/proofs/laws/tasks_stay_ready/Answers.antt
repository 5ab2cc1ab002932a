use Rattle.jb_chunk.proofs.RunsOfAttempts.{tasks-stay-ready}
use Rattle.jb_chunk.proofs.laws.tasks_stay_ready.Goals as goal

pub returns : goal.returns
returns c = tasks-stay-ready c.chunks_follow_one_another.ensures c.rows_stay_sound.ensures
