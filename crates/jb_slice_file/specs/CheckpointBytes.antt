-- What is stored for a checkpoint interval, and the list of these.
use Rattle.std.specs.Prelude.{ℕ, List, [], ◌∷◌, ◌++◌, Option, None, Some, string_bytes}
use Rattle.jb_slice_file.specs.declared.checkpoint.Checkpoint.{Checkpoint}

-- a checkpoint as bytes: the text to resume from, and the results that are new since the one before
pub record CheckpointBytes : Type 0 where
  pub saved : List ℕ
  pub results : List ℕ

abbrev pub checkpoint_bytes : Checkpoint → CheckpointBytes
checkpoint_bytes c = record { saved = string_bytes c.saved; results = c.results.items }

-- WHAT AN INTERVAL DOES: it adds one checkpoint, and the work continues after it; or it adds none, if the run was whole
abbrev pub GoesOn : (so_far whole stands : List CheckpointBytes → Type 0) → List CheckpointBytes → Option Checkpoint → Type 0
GoesOn so_far whole stands all None = whole all × stands all
GoesOn so_far whole stands all (Some next) = so_far (all ++ checkpoint_bytes next ∷ []) × stands (all ++ checkpoint_bytes next ∷ [])
