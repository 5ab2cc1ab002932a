-- Where a task is, and what it has to meet between two chunks.
use Rattle.std.specs.Prelude.{ℕ, ◌≡◌, ◌+◌, ◌-◌, ◌≤◌, length, take}
use Rattle.jb_base.specs.Limits.{max_retry_limit, max_in_place}
use Rattle.jb_base.specs.Rules.{RulesRecord}
use Rattle.jb_base.specs.Limits.{max_item_count}
use Rattle.jb_rules.specs.declared.row.Row.{Row}
use Rattle.jb_rules.specs.Sound.{IsSoundRow}
use Rattle.jb_artifacts.specs.Reader.{opened}
use Rattle.jb_artifacts.specs.Meaning.{ArtifactsMeaning, Fits}

-- a partition's task: its row, the rules and the item count of its step, and the state of its artifacts
pub record TaskState : Type 0 where
  pub partition : ℕ
  pub row : Row
  pub rules : RulesRecord
  pub item_count : ℕ
  pub artifacts : ArtifactsMeaning

-- the number of records in a chunk (Jakarta Batch 2.1, "Chunk"; the upper limit is this project's choice)
pub record HasItemCount (item_count : ℕ) : Type 0 where
  pub some : 1 ≤ item_count
  pub few : item_count ≤ max_item_count

-- The row is sound, the artifacts serve it, and reader and writer are at its checkpoint (Jakarta Batch 2.1, "Checkpoint
-- Algorithm"). The reader is at the next record, and the writer after the results that were committed. That these checkpoints
-- are numbers is this project's choice.
pub record IsReady (t : TaskState) : Type 0 where
  pub sound : IsSoundRow t.row
  pub item_counted : HasItemCount t.item_count
  pub retried : t.rules.retry_limit ≤ max_retry_limit
  pub fits : Fits t.artifacts t.row
  pub place : t.artifacts.reader.place ≡ t.row.at
  pub count : length t.artifacts.writer.written ≡ t.row.written

-- the number of repeats in place stays in its limit, also if each retry that is left is one
abbrev pub HasRepeats : RulesRecord → Row → Type 0
HasRepeats rules row = row.in_place + (rules.retry_limit - row.retries) ≤ max_in_place

-- reader and writer opened at the row's checkpoint: what was written past it is cut off
abbrev pub at_checkpoint : Row → ArtifactsMeaning → ArtifactsMeaning
at_checkpoint row w = record w {
  reader = opened w.reader row.at;
  writer = record w.writer { written = take row.written w.writer.written };
}

-- the task of a partition that starts, or resumes, from its row
abbrev pub started : (partition : ℕ) → Row → RulesRecord → (item_count : ℕ) → ArtifactsMeaning → TaskState
started partition row rules item_count w = record {
  partition = partition;
  row = row;
  rules = rules;
  item_count = item_count;
  artifacts = at_checkpoint row w;
}

-- the task started again from its row, with what it works with
abbrev pub reopened : TaskState → TaskState
reopened t = started t.partition t.row t.rules t.item_count t.artifacts
