-- A step ends: how many plans, rounds and events a run of it may have.
use Rattle.std.specs.Prelude.{ℕ, ◌≡◌, ◌≤◌, ◌*◌, false, List, length, map, sum}
use Rattle.jb_cert.specs.declared.notes.PlanNote.{PlanNote}
use Rattle.jb_chunk.specs.Alone.{attempts_left}
use Rattle.jb_chunk.specs.TaskState.{TaskState}
use Rattle.jb_repo.specs.declared.snapshot.Snapshot.{Snapshot}

-- how many attempts these tasks have left together: each task as many as it has retries and records left
abbrev pub all_attempts_left : List TaskState → ℕ
all_attempts_left ts = sum (map attempts_left ts)

-- how many rounds were run of the plans that these notes are of
abbrev pub rounds_noted : List PlanNote → ℕ
rounds_noted notes = sum (map (λ (note : PlanNote). note.ran) notes)

-- A run is short, for the tasks that it began with and the notes and the snapshot that it answers.
pub record IsShort (ts : List TaskState) (notes : List PlanNote) (snapshot : Snapshot) : Type 0 where
  -- there are no more plans than rounds,
  pub plans : length notes ≤ rounds_noted notes
  -- no more rounds than the tasks had attempts left,
  pub rounds : rounds_noted notes ≤ all_attempts_left ts
  -- and, unless the run was stopped, no more than four events for each of these: a plan, a round, the begin of an attempt and its end
  pub events : snapshot.stopping ≡ false → snapshot.events ≤ 4 * all_attempts_left ts
