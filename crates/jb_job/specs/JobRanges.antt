-- The ranges of a job record: what holds of every Job of a tree.
use Rattle.std.specs.Prelude.{ℕ, ◌≡◌, ◌≤◌, ◌<◌, ◌-◌, ◌^◌, ◌⊎◌, false, List, length, All, IfSome, bytes_eq}
use Rattle.std.specs.List.{IsDistinct}
use Rattle.jb_job.specs.declared.job.Job.{Job}
use Rattle.jb_job.specs.JobRecord.{every_class}
use Rattle.jb_base.specs.Name.{IsName}
use Rattle.jb_job.specs.Kept.{IsSpec, AreSteps}
use Rattle.jb_base.specs.Limits.{max_classes, max_item_count, max_skip_limit, max_retry_limit}
use Rattle.jb_base.specs.Rules.{RulesRecord}
use Rattle.jb_job.specs.Records.{StepRecord}

-- the name of a fault class
pub record IsClassName (name : List ℕ) : Type 0 where
  pub named : IsName name
  pub own : bytes_eq name every_class ≡ false

-- the classes that a job declares
pub record AreClasses (classes : List (List ℕ)) : Type 0 where
  pub few : length classes ≤ max_classes
  pub named : All IsClassName classes
  pub once : IsDistinct bytes_eq classes

-- a set of only declared classes
abbrev pub AreDeclared : List (List ℕ) → (set : ℕ) → Type 0
AreDeclared classes set = set < 2 ^ length classes

-- a set of all 64 bits but those of declared classes
pub record AreOthers (classes : List (List ℕ)) (set : ℕ) : Type 0 where
  pub whole : set < 2 ^ 64
  pub excluded : AreDeclared classes (2 ^ 64 - 1 - set)

abbrev pub IsClassSet : List (List ℕ) → (set : ℕ) → Type 0
IsClassSet classes set = AreDeclared classes set ⊎ AreOthers classes set

-- the rules of a step of a job with these classes
pub record AreRules (classes : List (List ℕ)) (r : RulesRecord) : Type 0 where
  pub skippable : IsClassSet classes r.skippable
  pub retryable : IsClassSet classes r.retryable
  pub no_rollback : IsClassSet classes r.no_rollback
  pub skip_limit : IfSome r.skip_limit (λ limit. limit ≤ max_skip_limit)
  pub retry_limit : r.retry_limit ≤ max_retry_limit

pub record IsStep (classes : List (List ℕ)) (s : StepRecord) : Type 0 where
  pub named : IsName s.id
  pub some : 1 ≤ s.item_count
  pub few : s.item_count ≤ max_item_count
  pub rules : AreRules classes s.rules
  pub spec : IsSpec s.spec

pub record IsJob (j : Job) : Type 0 where
  pub named : IsName j.id
  pub classes : AreClasses j.classes
  pub steps : AreSteps j.steps
  pub each : All (IsStep j.classes) j.steps
