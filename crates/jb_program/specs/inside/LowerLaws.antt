-- What the crates below say of a row's steps and of a task's attempts.
use Rattle.jb_rules.specs.Laws.{RowsStaySound}
use Rattle.jb_chunk.specs.Laws.{CalmRunsArePlain, WaysEnd}

pub record LowerCrateLaws : Type 0 where
  pub sound : RowsStaySound
  pub ends : WaysEnd
  pub plain : CalmRunsArePlain
