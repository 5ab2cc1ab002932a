-- The invariant of a name.
use Rattle.std.specs.Prelude.{ℕ, ◌≤◌, List, length}
use Rattle.jb_base.specs.Limits.{max_name}

-- the name of a job or of a step
pub record IsName (name : List ℕ) : Type 0 where
  pub some : 1 ≤ length name
  pub short : length name ≤ max_name
