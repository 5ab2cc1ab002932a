-- The tasks that a step begins with, row by row.
use Rattle.std.specs.Prelude.{◌≡◌, ℕ, not, ◌⊎◌, List, map, filter}
use Rattle.std.specs.List.{enumerate_from, zip, AllByRecursion}
use Rattle.jb_rules.specs.declared.row.Row.{Row}
use Rattle.jb_rules.specs.declared.row.RowState.TheVariants.{Waiting, Finished}
use Rattle.jb_rules.specs.Sound.{IsSoundRow}
use Rattle.jb_rules.specs.States.{is_finished}
use Rattle.jb_artifacts.specs.Meaning.{ArtifactsMeaning}
use Rattle.jb_chunk.specs.TaskState.{TaskState, started}
use Rattle.jb_step.specs.preparing.Setup.{Setup}

-- the unfinished ones of rows that are numbered from `first` on
abbrev pub unfinished_from : ℕ → List Row → List (ℕ × Row)
unfinished_from first rows = filter (λ n. not (is_finished n.1.state)) (enumerate_from first rows)

-- their tasks, each with its artifacts
abbrev pub tasks_from : Setup → ℕ → List Row → List ArtifactsMeaning → List TaskState
tasks_from s first rows artifacts = map (λ n. started n.0.0 n.0.1 s.rules s.item_count n.1) (zip (unfinished_from first rows) artifacts)

-- each row is sound, and its partition waits or is finished
pub record IsRowBegun (row : Row) : Type 0 where
  pub sound : IsSoundRow row
  pub begun : (row.state ≡ Waiting) ⊎ (row.state ≡ Finished)

abbrev pub AreBegun : List Row → Type 0
AreBegun = AllByRecursion IsRowBegun
