-- What the crates below say of chunks, of rows and of what a chunk adds to the counts.
use Rattle.jb_plan.specs.Blocks.{ChunksFollow}
use Rattle.jb_rules.specs.Laws.{RowsStaySound, DeltasAreTested}

pub record LowerRowLaws : Type 0 where
  pub chunks : ChunksFollow
  pub rows : RowsStaySound
  pub deltas : DeltasAreTested
