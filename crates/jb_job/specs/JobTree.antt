-- The JSON tree of a Job, with the keys of each object in byte order (own choice). A step has every key that it may have,
-- except for a skip limit that isn't set.
use Rattle.std.specs.Prelude.{ℕ, ◌==◌, ◌-◌, ◌^◌, nat_lt, List, [], ◌∷◌, length, map, filter, Option, Some, None, if◌then◌else◌}
use Rattle.std.specs.Int.{bit_at}
use Rattle.std.specs.List.{enumerate_from}
use Rattle.serde_json.specs.Data.{Data, boolean, number, unsigned, string, array, object, Members, member, no_members}
use Rattle.serde_json.specs.View.{items_of}
use Rattle.jb_job.specs.declared.field.Field.{Field}
use Rattle.jb_job.specs.declared.field.Field.TheVariants as field
use Rattle.jb_job.specs.declared.job.Job.{Job}
use Rattle.jb_base.specs.declared.range.Range.{Range}
use Rattle.jb_job.specs.JobRecord.{every_class}
use Rattle.jb_job.specs.Names.{name_of}
use Rattle.jb_base.specs.Rules.{RulesRecord}
use Rattle.jb_job.specs.Records.{SpecRecord, StepRecord}

abbrev pub number_tree : ℕ → Data
number_tree n = number (unsigned n)

abbrev pub list_tree : List Data → Data
list_tree trees = array (items_of trees)

-- a field with its tree, before the others
abbrev pub with_field : Field → Data → Members → Members
with_field f d others = member (name_of f) d others

-- ---- sets of classes

-- the declared classes whose bits the set has, each with its place
abbrev pub chosen : (classes : List (List ℕ)) → (set : ℕ) → List (ℕ × List ℕ)
chosen classes set = filter (λ class. bit_at set class.0 == 1) (enumerate_from 0 classes)

-- the list of their names
abbrev pub names_tree : (classes : List (List ℕ)) → (set : ℕ) → Data
names_tree classes set = list_tree (map (λ class. string class.1) (chosen classes set))

-- A set of declared classes includes them. Any other includes every class, and excludes those that it lacks.
abbrev pub set_tree : (classes : List (List ℕ)) → (set : ℕ) → Data
set_tree classes set =
    if nat_lt set (2 ^ length classes)
    then object (with_field field.Include (names_tree classes set) no_members)
    else object
    (with_field field.Exclude (names_tree classes (2 ^ 64 - 1 - set))
    (with_field field.Include (list_tree (string every_class ∷ [])) no_members))

-- ---- the parts of a step

abbrev pub with_skip_limit : Option ℕ → Members → Members
with_skip_limit None others = others
with_skip_limit (Some limit) others = with_field field.SkipLimit (number_tree limit) others

abbrev pub chunk_tree : (classes : List (List ℕ)) → (item_count : ℕ) → RulesRecord → Data
chunk_tree classes item_count r = object
    (with_field field.ItemCount (number_tree item_count)
    (with_field field.NoRollbackExceptionClasses (set_tree classes r.no_rollback)
    (with_field field.RetryLimit (number_tree r.retry_limit)
    (with_field field.RetryableExceptionClasses (set_tree classes r.retryable)
    (with_skip_limit r.skip_limit
    (with_field field.SkippableExceptionClasses (set_tree classes r.skippable) no_members))))))

abbrev pub range_tree : Range → Data
range_tree r = list_tree (number_tree r.lo ∷ number_tree r.hi ∷ [])

-- the ranges, or the number of partitions if there are no ranges
abbrev pub with_partitions : (partitions : ℕ) → Option (List Range) → Members → Members
with_partitions partitions None others = with_field field.Partitions (number_tree partitions) others
with_partitions partitions (Some ranges) others = with_field field.Ranges (list_tree (map range_tree ranges)) others

abbrev pub plan_tree : SpecRecord → Data
plan_tree s = object
    (with_field field.Override (boolean s.replace)
    (with_partitions s.partitions s.ranges
    (with_field field.Threads (number_tree s.threads) no_members)))

abbrev pub step_tree : (classes : List (List ℕ)) → StepRecord → Data
step_tree classes s = object
    (with_field field.Chunk (chunk_tree classes s.item_count s.rules)
    (with_field field.Id (string s.id)
    (with_field field.Partition (object (with_field field.Plan (plan_tree s.spec) no_members)) no_members)))

-- ---- the job

abbrev pub job_tree : Job → Data
job_tree j = object
    (with_field field.ExceptionClasses (list_tree (map string j.classes))
    (with_field field.Id (string j.id)
    (with_field field.Step (list_tree (map (step_tree j.classes) j.steps)) no_members)))
