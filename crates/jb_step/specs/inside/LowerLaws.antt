-- What the crates below say of chunks, of plans, of calls that may be answered with a fault, and of runs to an end.
use Rattle.jb_plan.specs.Blocks.{ChunksFollow}
use Rattle.jb_cert.specs.Laws.{WrapAroundIsLeast, BoundIsCertified}
use Rattle.jb_chunk.specs.Laws.{RepeatsAreRetries, RunsAreShort, WaysEnd}
use Rattle.jb_collect.specs.Laws.{TakenOneAfterAnother, NoneAfterAFault}

-- how a task goes from chunk to chunk
pub record ChunkLaws : Type 0 where
  pub follow : ChunksFollow
  pub repeats : RepeatsAreRetries

pub record LowerLaws : Type 0 where
  pub chunks : ChunkLaws
  pub least : WrapAroundIsLeast
  pub certified : BoundIsCertified
  pub more : TakenOneAfterAnother
  pub no_more : NoneAfterAFault
  pub ends : WaysEnd
  pub short : RunsAreShort
