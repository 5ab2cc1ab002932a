-- What the writers that came back hold, each with its partition.
use Rattle.std.specs.Prelude.{ℕ, ◌==◌, List, map, find, Option, Some, None}
use Rattle.std.specs.Str.Lossy.{utf8_lossy}
use Rattle.json.specs.Token.{Token}
use Rattle.jb_rules.specs.declared.row.Row.{Row}
use Rattle.jb_artifacts.specs.Meaning.{ArtifactsMeaning}
use Rattle.jb_artifacts.specs.Writer.{Texts}
use Rattle.jb_saved.specs.SavedTree.{tokens_of}
use Rattle.jb_texts.specs.Report.{results_tree}
use Rattle.jb_program.specs.StepRun.{committed_of}

-- of all artifacts that came back
abbrev pub lists_left : List (ℕ × ArtifactsMeaning) → List (ℕ × Texts)
lists_left left = map (λ one. (one.0, one.1.writer.written)) left

-- the results as texts, or those that were committed before where no writer came back
abbrev pub outputs_by : (before : Texts) → Option (ℕ × Texts) → List (List ℕ)
outputs_by before None = map utf8_lossy before
outputs_by before (Some held) = map utf8_lossy held.1

-- the outputs of a partition as they are written, of all that the writers hold
abbrev pub written_at : (outputs : List (List (List ℕ))) → List (ℕ × Texts) → ℕ × Row → List Token
written_at outputs lists n = tokens_of (results_tree (outputs_by (committed_of outputs n) (find (λ one. one.0 == n.0) lists)))
