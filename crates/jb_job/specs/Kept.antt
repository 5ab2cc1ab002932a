-- The invariants of the types of a job.
use Rattle.std.specs.Prelude.{◌≡◌, ◌≤◌, List, length, map, All, IfSome, bytes_eq}
use Rattle.std.specs.List.{IsDistinct}
use Rattle.jb_base.specs.Limits.{max_partitions_asked, max_threads_asked, max_ranges, max_steps}
use Rattle.jb_base.specs.Range.{IsNumbered}
use Rattle.jb_job.specs.Records.{SpecRecord, StepRecord}

-- What a step asks of its partitions: a number of even ones, or ranges of records in place of a number.
pub record IsSpec (s : SpecRecord) : Type 0 where
  pub some : 1 ≤ s.partitions
  pub few : s.partitions ≤ max_partitions_asked
  pub few_threads : s.threads ≤ max_threads_asked
  pub few_ranges : IfSome s.ranges (λ ranges. length ranges ≤ max_ranges)
  pub numbered : IfSome s.ranges (All IsNumbered)
  pub ranges_alone : IfSome s.ranges (λ ranges. s.partitions ≡ 1)

-- no two steps have the same id
abbrev pub HaveOwnIds : List StepRecord → Type 0
HaveOwnIds steps = IsDistinct bytes_eq (map (λ s. s.id) steps)

-- the steps of a job
pub record AreSteps (steps : List StepRecord) : Type 0 where
  pub some : 1 ≤ length steps
  pub few : length steps ≤ max_steps
  pub own_ids : HaveOwnIds steps
