-- Worked rows: what the definition gives for whole texts, computed apart from the code.
use Rattle.std.specs.Prelude.{◌≡◌, ℕ, ◌-◌, ◌^◌, List, [], ◌∷◌, codes, Some, None, true, false, option_map, Ok, Err}
use Rattle.serde_json.specs.Written.{compact_text}
use Rattle.jb_job.specs.declared.field.Field.TheVariants as field
use Rattle.jb_job.specs.declared.job.Job.{Job}
use Rattle.jb_job.specs.JobRanges.{IsClassSet}
use Rattle.jb_job.specs.JobRecord.{job_at}
use Rattle.jb_job.specs.JobTree.{job_tree}
use Rattle.jb_job.specs.Reading.{Fault, wrong_shape, out_of_range, unknown_class, tree_of}
use Rattle.jb_base.specs.Rules.{RulesRecord}
use Rattle.jb_job.specs.Records.{StepRecord}

-- the job record of three records in two ranges, and its Job
abbrev pub ranges_text : List ℕ
ranges_text = codes "{\"id\":\"j\",\"step\":[{\"chunk\":{\"item-count\":2},\"id\":\"s\",\"partition\":{\"plan\":{\"ranges\":[[0,2],[2,3]],\"threads\":1}}}]}"

-- no class is skipped or retried, and the limits are those of absent keys
abbrev pub no_rules : RulesRecord
no_rules = record { skippable = 0; retryable = 0; no_rollback = 0; skip_limit = None; retry_limit = 1000 }

abbrev pub ranges_step : StepRecord
ranges_step = record {
  id = codes "s";
  item_count = 2;
  rules = no_rules;
  spec = record { partitions = 1; threads = 1; replace = false; ranges = Some (record { lo = 0; hi = 2 } ∷ record { lo = 2; hi = 3 } ∷ []) };
}

abbrev pub RangesRow : Type 0
RangesRow = option_map job_at (tree_of ranges_text) ≡ Some (Ok (record { id = codes "j"; classes = []; steps = ranges_step ∷ [] }))

-- a job record with classes and limits: E and G (1 and 4) are skippable, all but F (2) are retryable, G without a rollback
abbrev pub classes_text : List ℕ
classes_text = codes "{\"exception-classes\":[\"E\",\"F\",\"E\",\"G\"],\"id\":\"j\",\"step\":[{\"chunk\":{\"retry-limit\":0,\"skip-limit\":1,\"retryable-exception-classes\":{\"include\":[\"*\"],\"exclude\":[\"F\"]},\"no-rollback-exception-classes\":{\"include\":[\"G\"]},\"skippable-exception-classes\":{\"include\":[\"G\",\"E\"]}},\"id\":\"s\",\"partition\":{\"plan\":{\"override\":true,\"partitions\":3}}}]}"

abbrev pub classes_step : StepRecord
classes_step = record {
  id = codes "s";
  item_count = 10;
  rules = record { skippable = 5; retryable = 18446744073709551613; no_rollback = 4; skip_limit = Some 1; retry_limit = 0 };
  spec = record { partitions = 3; threads = 0; replace = true; ranges = None };
}

abbrev pub ClassesRow : Type 0
ClassesRow = option_map job_at (tree_of classes_text) ≡ Some (Ok (record { id = codes "j"; classes = codes "E" ∷ codes "F" ∷ codes "G" ∷ []; steps = classes_step ∷ [] }))

-- what a text that has a tree is refused for
abbrev pub IsTextRefused : List ℕ → Fault → Type 0
IsTextRefused text fault = option_map job_at (tree_of text) ≡ Some (Err fault)

pub record RefusedRows : Type 0 where
  pub count : IsTextRefused (codes "{\"id\":\"j\",\"step\":[{\"chunk\":{\"item-count\":0},\"id\":\"s\"}]}") (out_of_range field.ItemCount)
  pub listeners : IsTextRefused (codes "{\"id\":\"j\",\"step\":[{\"chunk\":{\"item-count\":0},\"id\":\"s\",\"listeners\":1}]}") (wrong_shape field.Unknown)
  pub undeclared : IsTextRefused (codes "{\"id\":\"j\",\"step\":[{\"chunk\":{\"skippable-exception-classes\":{\"include\":[\"E\"]}},\"id\":\"s\"}]}") unknown_class

-- the two jobs
abbrev pub ranges_job : Job
ranges_job = record { id = codes "j"; classes = []; steps = ranges_step ∷ [] }

abbrev pub classes_job : Job
classes_job = record { id = codes "j"; classes = codes "E" ∷ codes "F" ∷ codes "G" ∷ []; steps = classes_step ∷ [] }

pub record JobRows : Type 0 where
  -- their trees, written
  pub ranges :
      compact_text (job_tree ranges_job)
      ≡ codes "{\"exception-classes\":[],\"id\":\"j\",\"step\":[{\"chunk\":{\"item-count\":2,\"no-rollback-exception-classes\":{\"include\":[]},\"retry-limit\":1000,\"retryable-exception-classes\":{\"include\":[]},\"skippable-exception-classes\":{\"include\":[]}},\"id\":\"s\",\"partition\":{\"plan\":{\"override\":false,\"ranges\":[[0,2],[2,3]],\"threads\":1}}}]}"
  pub classes :
      compact_text (job_tree classes_job)
      ≡ codes "{\"exception-classes\":[\"E\",\"F\",\"G\"],\"id\":\"j\",\"step\":[{\"chunk\":{\"item-count\":10,\"no-rollback-exception-classes\":{\"include\":[\"G\"]},\"retry-limit\":0,\"retryable-exception-classes\":{\"exclude\":[\"F\"],\"include\":[\"*\"]},\"skip-limit\":1,\"skippable-exception-classes\":{\"include\":[\"E\",\"G\"]}},\"id\":\"s\",\"partition\":{\"plan\":{\"override\":true,\"partitions\":3,\"threads\":0}}}]}"
  -- sets of three classes: E and G, all bits but that of F, and the bit of no class, alone, left out, and past the 64
  pub included : IsClassSet classes_job.classes 5
  pub excluded : IsClassSet classes_job.classes (2 ^ 64 - 1 - 2)
  pub undeclared : IsClassSet classes_job.classes 8 → ⊥
  pub undeclared_out : IsClassSet classes_job.classes (2 ^ 64 - 1 - 8) → ⊥
  pub past_all : IsClassSet classes_job.classes (2 ^ 64) → ⊥
