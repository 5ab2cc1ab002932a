-- A job: its identity, its limits, and its slices.
use Rattle.std.specs.Prelude.{ℕ, ◌≡◌, ◌≤◌, ◌<◌, ◌*◌, List, length, Option, None, Some, take, drop, ⊤}
use Rattle.jb_base.specs.Rules.{RulesRecord}

-- the classes of faults: their names, and the sets of those that may be skipped, may be retried, and roll nothing back
pub record FaultClasses : Type 0 where
  pub names : List (List ℕ)
  pub skippable : ℕ
  pub retryable : ℕ
  pub no_rollback : ℕ

-- A JOB'S IDENTITY: what no later call may change. Each slice but the last one has `slice_length` items.
pub record Job : Type 0 where
  pub name : List ℕ
  pub slice_length : ℕ
  pub partitions : ℕ
  pub item_count : ℕ
  pub classes : FaultClasses

-- ITS LIMITS: of skips in a partition of a slice, of skips in the job, and of a partition's retries
pub record Limits : Type 0 where
  pub skips : Option ℕ
  pub job_skips : Option ℕ
  pub retries : ℕ

abbrev pub rules_of : Job → Limits → RulesRecord
rules_of job limits = record {
  skippable = job.classes.skippable;
  retryable = job.classes.retryable;
  no_rollback = job.classes.no_rollback;
  skip_limit = limits.skips;
  retry_limit = limits.retries;
}

-- ---- A LIMIT MAY BE RAISED

-- the limit stays or is raised; no limit is the highest
abbrev pub IsRaised : (before after : Option ℕ) → Type 0
IsRaised before None = ⊤
IsRaised None (Some after) = ⊥
IsRaised (Some before) (Some after) = before ≤ after

-- each of the limits stays or is raised
pub record AreRaised (before after : Limits) : Type 0 where
  pub skips : IsRaised before.skips after.skips
  pub job_skips : IsRaised before.job_skips after.job_skips
  pub retries : before.retries ≤ after.retries

-- ---- THE PARTS OF AN IDENTITY

pub data IdentityPart : Type 0 where
  Name : IdentityPart
  SliceLength : IdentityPart
  Partitions : IdentityPart
  ItemCount : IdentityPart
  Classes : IdentityPart

-- two jobs have this part in common
abbrev pub HaveInCommon : IdentityPart → (job other : Job) → Type 0
HaveInCommon Name job other = job.name ≡ other.name
HaveInCommon SliceLength job other = job.slice_length ≡ other.slice_length
HaveInCommon Partitions job other = job.partitions ≡ other.partitions
HaveInCommon ItemCount job other = job.item_count ≡ other.item_count
HaveInCommon Classes job other = job.classes ≡ other.classes

-- ---- SLICES

-- the number of a slice's first item
abbrev pub first_of : Job → (number : ℕ) → ℕ
first_of job number = number * job.slice_length

-- THE ITEMS OF A SLICE, by its number
abbrev pub slice_at : Job → (items : List (List ℕ)) → (number : ℕ) → List (List ℕ)
slice_at job items number = take job.slice_length (drop (first_of job number) items)

-- the slice exists: all items before it are there
abbrev pub HasSlice : Job → (items : List (List ℕ)) → (number : ℕ) → Type 0
HasSlice job items number = first_of job number ≤ length items

-- THE LAST SLICE is the one that is shorter, perhaps empty
pub record IsLastSlice (job : Job) (items : List (List ℕ)) (number : ℕ) : Type 0 where
  pub has : HasSlice job items number
  pub shorter : length (slice_at job items number) < job.slice_length
