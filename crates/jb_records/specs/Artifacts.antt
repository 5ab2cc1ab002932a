-- What a partition works with, and when its calls fail.
use Rattle.std.specs.Prelude.{ℕ, ◌≡◌, ◌+◌, ◌-◌, ◌&&◌, nat_le, nat_lt, Bool, false, if◌then◌else◌, List, [], ◌∷◌, Option, Some, None, length, slice_index_or, slice_range, ⊤}
use Rattle.std.specs.List.{AllByRecursion, filter_map, range_with_len}
use Rattle.jb_base.specs.Rules.{RulesRecord}
use Rattle.jb_base.specs.declared.class.ClassId.{ClassId}
use Rattle.jb_artifacts.specs.declared.faults.FaultPlan.{FaultPlan}
use Rattle.jb_artifacts.specs.declared.faults.FaultPlan.TheVariants.{Sound, Bad, Shaky}
use Rattle.jb_artifacts.specs.Meaning.{ArtifactsMeaning}
use Rattle.jb_rules.specs.Decide.{has_class}
use Rattle.jb_rules.specs.declared.row.Row.{Row}
use Rattle.jb_records.specs.Function.{Function, IsSteady, refusal_of, result_of, tries_of}

-- the record of a number, of those from `first` on
abbrev pub record_of : (first : ℕ) → (records : List (List ℕ)) → ℕ → List ℕ
record_of first records k = slice_index_or records (k - first) []

-- ---- first tries

-- none of these classes may be skipped
abbrev pub AreNeverSkipped : RulesRecord → List ClassId → Type 0
AreNeverSkipped rules classes = AllByRecursion (λ class. has_class rules.skippable class ≡ false) classes

abbrev pub IsNeverSkipped : RulesRecord → FaultPlan → Type 0
IsNeverSkipped rules Sound = ⊤
IsNeverSkipped rules (Bad class) = has_class rules.skippable class ≡ false
IsNeverSkipped rules (Shaky classes) = AreNeverSkipped rules classes

-- one try fails for each of these classes, and then none
abbrev pub plan_of : List ClassId → FaultPlan
plan_of [] = Sound
plan_of (class ∷ later) = Shaky (class ∷ later)

-- the number is one of the `count` from `first` on
abbrev pub is_among : (first count : ℕ) → ℕ → Bool
is_among first count k = nat_le first k && nat_lt k (first + count)

-- THE TRIES AT THESE RECORDS: the first ones fail as the function says, and no later ones do
unfoldable pub tries_plan : Function → (first : ℕ) → (records : List (List ℕ)) → ℕ → FaultPlan
tries_plan f first records k = if is_among first (length records) k then plan_of (tries_of f (record_of first records k)) else Sound

-- ---- what a partition works with

-- the records of a partition's range
abbrev pub own_records : (records : List (List ℕ)) → Row → List (List ℕ)
own_records records row = slice_range records row.lo row.hi

-- when the processing of a record fails: each time, if it is refused; otherwise by the tries at it
abbrev pub faulted_by : (refusal : Option ClassId) → (tries : FaultPlan) → FaultPlan
faulted_by None tries = tries
faulted_by (Some class) tries = Bad class

abbrev pub IsFaulted : RulesRecord → (refusal : Option ClassId) → FaultPlan → Type 0
IsFaulted rules None plan = IsNeverSkipped rules plan
IsFaulted rules (Some class) plan = plan ≡ Bad class

-- Its reader has these records, from the number `first` on, and no read fails. A record's answer is the function's, and a refused one fails
-- each time that it is processed. No fault of a try is skipped, and a steady function has none. No write fails.
pub record IsArtifactsOver (f : Function) (rules : RulesRecord) (first : ℕ) (records : List (List ℕ)) (w : ArtifactsMeaning) : Type 0 where
  pub first_is : w.reader.first ≡ first
  pub records_are : w.reader.records ≡ records
  pub reads : (k : ℕ) → w.reader.faults k ≡ Sound
  pub answers : (k : ℕ) (item : List ℕ) → w.processor.answer k item ≡ result_of f (record_of first records k)
  pub faults : (k : ℕ) → IsFaulted rules (refusal_of f (record_of first records k)) (w.processor.faults k)
  pub steady : IsSteady f → (k : ℕ) → w.processor.faults k ≡ faulted_by (refusal_of f (record_of first records k)) Sound
  pub writes : (k : ℕ) → w.writer.faults k ≡ Sound

-- what it begins with: the same, and the first tries at its records fail as the function says
pub record IsFirstArtifactsOver (f : Function) (rules : RulesRecord) (first : ℕ) (records : List (List ℕ)) (w : ArtifactsMeaning) : Type 0 where
  pub artifacts : IsArtifactsOver f rules first records w
  pub first_tries : (k : ℕ) → w.processor.faults k ≡ faulted_by (refusal_of f (record_of first records k)) (tries_plan f first records k)

-- the results of the records from number `lo` to `hi - 1`, in order, of those that have one
unfoldable pub results_between : Function → (first : ℕ) → (records : List (List ℕ)) → (lo hi : ℕ) → List (List ℕ)
results_between f first records lo hi = filter_map (λ k. result_of f (record_of first records k)) (range_with_len lo (hi - lo))
