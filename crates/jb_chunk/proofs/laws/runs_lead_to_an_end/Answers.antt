use Rattle.jb_chunk.proofs.RunsOfAttempts.{runs-are-short, retries-are-few, ways-join, ways-end}
use Rattle.jb_chunk.proofs.laws.runs_lead_to_an_end.Goals as goal

pub returns : goal.returns
returns c = record { short = runs-are-short c.chunks_follow_one_another.ensures; retries = retries-are-few; join = ways-join; end = ways-end c.chunks_follow_one_another.ensures }
