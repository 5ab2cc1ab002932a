use Rattle.jb_chunk.proofs.RunsOfAttempts.{one-end, calm-runs-are-plain}
use Rattle.jb_chunk.proofs.laws.runs_end_alike.Goals as goal

pub returns : goal.returns
returns c = record { one = one-end; plain = calm-runs-are-plain c.chunks_follow_one_another.ensures }
