-- What is read of a job record keeps its ranges.
use Rattle.std.proofs.Common.{◌≡◌, ℕ, ◌+◌, ◌-◌, ◌^◌, ◌≤◌, ◌<◌, inl, inr, Bool, true, false, true≢false, cond, List, [], ◌∷◌, ◌++◌, length, Option, Some, None, Ok, IfOk, All, refl, arith, length-append}
use Rattle.std.specs.Prelude.{nat_lt, bytes_eq, position, fold, bit_or, is_some, IfSome, if◌then◌else◌}
use Rattle.std.specs.List.{IsDistinct, AllByRecursion, list_any, position_or_len}
use Rattle.std.proofs.lemmas.Bool.{not-true}
use Rattle.std.proofs.lemmas.Bool.Decides.{nat_tests}
use Rattle.std.proofs.lemmas.Cmp.{nat_list_eq_equiv}
use Rattle.std.proofs.lemmas.List.Elements.{All-append, All-cons, All-nil, recursion_from_All}
use Rattle.std.proofs.lemmas.Map.Keys.{IsDistinct-push}
use Rattle.std.proofs.lemmas.Nat.{or_lt, pow_below, pow_pos}
use Rattle.std.proofs.lemmas.Option.{IfSome_then}
use Rattle.std.proofs.lemmas.Result.{IfOk-weaker}
use Rattle.serde_json.specs.Data.{Data}
use Rattle.serde_json.specs.Find.{get, as_str}
use Rattle.jb_base.proofs.Causes.{followed, next, answer-has}
use Rattle.jb_job.specs.declared.field.Field.{Field}
use Rattle.jb_job.specs.declared.field.Field.TheVariants as field
use Rattle.jb_job.specs.declared.job.Job.{Job}
use Rattle.jb_base.specs.declared.range.Range.{Range}
use Rattle.jb_job.specs.JobRanges.{IsClassName, AreClasses, AreDeclared, IsClassSet, AreRules, IsStep, IsJob}
use Rattle.jb_job.specs.JobRecord.{every_class, class_name_at, with_name, distinct, classes_at, declared, bits_at, names_at, set_at, range_pair_at, ranges_at, own_ranges_at, plan_at, partition_at, one_partition, limit_at, chunk_at, new_id_at, step_at, steps_at, job_at}
use Rattle.jb_base.specs.Name.{IsName}
use Rattle.jb_base.specs.Range.{IsNumbered}
use Rattle.jb_job.specs.Kept.{IsSpec, AreSteps}
use Rattle.jb_base.specs.Limits.{max_steps, max_name, max_classes, max_class_names, max_item_count, default_item_count, max_skip_limit, max_retry_limit, default_retry_limit, max_partitions_asked, max_threads_asked, max_ranges}
use Rattle.jb_job.specs.Names.{name_of}
use Rattle.jb_job.specs.Reading.{Read, shaped, list_at, text_at, number_at, flag_at, object_at, required, optional, or_else, each_at}
use Rattle.jb_base.specs.Rules.{RulesRecord}
use Rattle.jb_job.specs.Records.{StepRecord}
use Rattle.jb_job.proofs.Kept.{in-range, unless, range-numbered, steps-apart}
use Rattle.jb_job.proofs.Sets.{IsIncluded, or-included, bits-keep, left}
use Rattle.jb_job.proofs.FieldRanges.{if-read, text-between, number-between, list-between, required-has, optional-has, each-long, each-has, both}

-- ---- names and classes

pub name-read : (f : Field) (d : Data) → IfOk (text_at 1 max_name f d) IsName
name-read f d = IfOk-weaker (text_at 1 max_name f d) _ _ (λ s is. record { some = is.0; short = is.1 }) (text-between 1 max_name f d)

class-name-read : (f : Field) (d : Data) → IfOk (class_name_at f d) IsClassName
unfolding class_name_at
class-name-read f d = followed _ _ (text_at 1 max_name f d) _ (name-read f d) (λ name named. in-range IsClassName f _ name (λ own. record { named = named; own = not-true (bytes_eq name every_class) own }))

-- distinct names, no more than so many
abbrev AreNames : ℕ → List (List ℕ) → Type 0
AreNames most names = (length names ≤ most) × All IsClassName names × IsDistinct bytes_eq names

one-name : (names : List (List ℕ)) (name : List ℕ) (most : ℕ) (known : Bool) → list_any (bytes_eq name) names ≡ known → IsClassName name → AreNames most names → AreNames (most + 1) (cond known names (names ++ name ∷ []))
one-name names name most true is named are = (omega (arith, are.0), are.1, are.2)
one-name names name most false is named are = (
  omega (arith, length-append names (name ∷ []), are.0),
  All-append IsClassName names (name ∷ []) are.1 (All-cons IsClassName name [] named (All-nil IsClassName)),
  IsDistinct-push nat_list_eq_equiv names name are.2 is,
)

all-names : (names more : List (List ℕ)) (most : ℕ) → AllByRecursion IsClassName more → AreNames most names → AreNames (most + length more) (fold with_name names more)
all-names names [] most named are = (omega (arith, are.0), are.1, are.2)
all-names names (name ∷ more) most named are =
    let rest = all-names (with_name names name) more (most + 1) named.1 (one-name names name most (list_any (bytes_eq name) names) refl named.0 are) in
    (omega (arith, rest.0), rest.1, rest.2)

no-names : IsDistinct {K = List ℕ} bytes_eq []
unfolding IsDistinct
no-names = tt

distinct-are : (names : List (List ℕ)) → length names ≤ max_classes → All IsClassName names → AreClasses (distinct names)
distinct-are names few named =
    let are = all-names [] names 0 (recursion_from_All IsClassName names named) (omega arith, All-nil IsClassName, no-names) in
    record { few = omega (arith, are.0, few); named = are.1; once = are.2 }

classes-read : (f : Field) (d : Data) → IfOk (classes_at f d) AreClasses
unfolding classes_at
classes-read f d = followed _ _ (list_at 0 max_classes f d) _ (list-between 0 max_classes f d) (λ items within.
    followed _ _ (each_at (λ _. class_name_at f) items) _ (both _ _ (each_at (λ _. class_name_at f) items) (each-long (λ _. class_name_at f) items) (each-has IsClassName (λ _. class_name_at f) (λ _. class-name-read f) items))
    (λ names are. distinct-are names (omega (arith, are.0, within.1)) are.1))

no-classes : AreClasses []
no-classes = record { few = omega arith; named = All-nil IsClassName; once = no-names }

-- ---- sets of classes

declared-by : (classes : List (List ℕ)) (known : Bool) (place : ℕ) → nat_lt place (length classes) ≡ known → IfOk (declared (cond known (Some place) None)) (AreDeclared classes)
declared-by classes true place is = pow_below place (length classes) (grind (arith, nat_tests))
declared-by classes false place is = tt

declared-read : (classes : List (List ℕ)) (name : List ℕ) → IfOk (declared (position (bytes_eq name) classes)) (AreDeclared classes)
declared-read classes name = declared-by classes (nat_lt (position_or_len (bytes_eq name) classes) (length classes)) (position_or_len (bytes_eq name) classes) refl

every-or : (classes : List (List ℕ)) (every : Bool) (r : Read ℕ) → IfOk r (AreDeclared classes) → IfOk (if every then Ok (2 ^ 64 - 1) else r) (IsIncluded classes)
every-or classes true r known = inr refl
every-or classes false r known = IfOk-weaker r (AreDeclared classes) (IsIncluded classes) (λ n is. inl is) known

included-bits : (classes : List (List ℕ)) (f : Field) (d : Data) → IfOk (bits_at true classes f d) (IsIncluded classes)
unfolding bits_at
included-bits classes f d = next _ (shaped f (as_str d)) _ (λ name. every-or classes (bytes_eq name every_class) (declared (position (bytes_eq name) classes)) (declared-read classes name))

excluded-bits : (classes : List (List ℕ)) (f : Field) (d : Data) → IfOk (bits_at false classes f d) (AreDeclared classes)
unfolding bits_at
excluded-bits classes f d = next _ (shaped f (as_str d)) _ (λ name. declared-read classes name)

names-have : (P : ℕ → Type 0) (star : Bool) (classes : List (List ℕ)) (f : Field) (d : Data) → P 0 → ((a b : ℕ) → P a → P b → P (bit_or a b)) → ((g : Data) → IfOk (bits_at star classes f g) P) → IfOk (names_at star classes f d) P
unfolding names_at
names-have P star classes f d none stay has =
    next _ (list_at 0 max_class_names f d) _ (λ items. followed (All P) P (each_at (λ _. bits_at star classes f) items) _ (each-has P (λ _. bits_at star classes f) (λ _. has) items)
    (λ bits each. bits-keep P stay 0 bits none (recursion_from_All P bits each)))

set-read : (classes : List (List ℕ)) → length classes ≤ 64 → (f : Field) (d : Data) → IfOk (set_at classes f d) (IsClassSet classes)
unfolding set_at
set-read classes few f d =
    let some : 0 < 2 ^ length classes = pow_pos (length classes) in
    next _ (object_at f _ d) _ (λ set.
    followed _ _ (optional (names_at true classes) 0 field.Include set) _ (optional-has (IsIncluded classes) (names_at true classes) 0 field.Include set (inl some) (λ g. names-have (IsIncluded classes) true classes field.Include g (inl some) (or-included classes few) (included-bits classes field.Include))) (λ included inside.
    followed _ _ (optional (names_at false classes) 0 field.Exclude set) _ (optional-has (AreDeclared classes) (names_at false classes) 0 field.Exclude set some (λ g. names-have (AreDeclared classes) false classes field.Exclude g some (or_lt (length classes)) (excluded-bits classes field.Exclude))) (λ excluded outside.
    left classes few included excluded inside outside)))

-- ---- chunks

abbrev IsChunk : List (List ℕ) → ℕ × RulesRecord → Type 0
IsChunk classes chunk = ((1 ≤ chunk.0) × (chunk.0 ≤ max_item_count)) × AreRules classes chunk.1

skip-read : (f : Field) (d : Data) → IfOk (limit_at max_skip_limit f d) (λ o. IfSome o (λ limit. limit ≤ max_skip_limit))
unfolding limit_at
skip-read f d = followed _ _ (number_at 0 max_skip_limit f d) _ (number-between 0 max_skip_limit f d) (λ n is. is.1)

chunk-read : (classes : List (List ℕ)) → length classes ≤ 64 → (f : Field) (d : Data) → IfOk (chunk_at classes f d) (IsChunk classes)
unfolding chunk_at
chunk-read classes few f d =
    let none : IsClassSet classes 0 = inl (pow_pos (length classes)) in
    next _ (object_at f _ d) _ (λ chunk.
    followed _ _ (optional (number_at 1 max_item_count) default_item_count field.ItemCount chunk) _ (optional-has (λ n. (1 ≤ n) × (n ≤ max_item_count)) (number_at 1 max_item_count) default_item_count field.ItemCount chunk (omega arith, omega arith) (number-between 1 max_item_count field.ItemCount)) (λ item_count count.
    followed _ _ (optional (limit_at max_skip_limit) None field.SkipLimit chunk) _ (optional-has (λ o. IfSome o (λ limit. limit ≤ max_skip_limit)) (limit_at max_skip_limit) None field.SkipLimit chunk tt (skip-read field.SkipLimit)) (λ skip_limit skips.
    followed _ _ (optional (number_at 0 max_retry_limit) default_retry_limit field.RetryLimit chunk) _ (optional-has (λ n. (0 ≤ n) × (n ≤ max_retry_limit)) (number_at 0 max_retry_limit) default_retry_limit field.RetryLimit chunk (omega arith, omega arith) (number-between 0 max_retry_limit field.RetryLimit)) (λ retry_limit retries.
    followed _ _ (optional (set_at classes) 0 field.SkippableExceptionClasses chunk) _ (optional-has (IsClassSet classes) (set_at classes) 0 field.SkippableExceptionClasses chunk none (set-read classes few field.SkippableExceptionClasses)) (λ skippable skipped.
    followed _ _ (optional (set_at classes) 0 field.RetryableExceptionClasses chunk) _ (optional-has (IsClassSet classes) (set_at classes) 0 field.RetryableExceptionClasses chunk none (set-read classes few field.RetryableExceptionClasses)) (λ retryable retried.
    followed _ _ (optional (set_at classes) 0 field.NoRollbackExceptionClasses chunk) _ (optional-has (IsClassSet classes) (set_at classes) 0 field.NoRollbackExceptionClasses chunk none (set-read classes few field.NoRollbackExceptionClasses)) (λ no_rollback kept.
    (count, record { skippable = skipped; retryable = retried; no_rollback = kept; skip_limit = skips; retry_limit = retries.1 }))))))))

-- ---- partitions

-- ranges that are given beside no number of partitions
abbrev AreOwn : Bool → Option (List Range) → Type 0
AreOwn counted ranges = IfSome ranges (λ r. (length r ≤ max_ranges) × All IsNumbered r × (counted ≡ false))

ranges-read : (f : Field) (d : Data) → IfOk (ranges_at f d) (AreOwn false)
ranges-read f d = followed _ _ (list_at 0 max_ranges f d) _ (list-between 0 max_ranges f d) (λ items within.
    followed _ _ (each_at (λ _. range_pair_at) items) _ (both _ _ (each_at (λ _. range_pair_at) items) (each-long (λ _. range_pair_at) items) (each-has IsNumbered (λ _. range_pair_at) (λ _. range-numbered) items))
    (λ ranges are. (omega (arith, are.0, within.1), are.1, refl)))

own-read : (counted : Bool) (f : Field) (d : Data) → IfOk (own_ranges_at counted f d) (AreOwn counted)
unfolding own_ranges_at
own-read true f d = tt
own-read false f d = ranges-read f d

abbrev IsNumber : Bool → ℕ → Type 0
IsNumber counted n = ((1 ≤ n) × (n ≤ max_partitions_asked)) × (counted ≡ false → n ≡ 1)

number-by : (found : Option Data) → IfOk (or_else (number_at 1 max_partitions_asked field.Partitions) 1 found) (IsNumber (is_some found))
number-by None = ((omega arith, omega arith), λ none. refl)
number-by (Some d) = IfOk-weaker (number_at 1 max_partitions_asked field.Partitions d) _ _ (λ n is. (is, λ none. absurd (true≢false none))) (number-between 1 max_partitions_asked field.Partitions d)

spec-of : (counted : Bool) (n threads : ℕ) (replace : Bool) (ranges : Option (List Range)) → IsNumber counted n → threads ≤ max_threads_asked → AreOwn counted ranges → IsSpec (record { partitions = n; threads = threads; replace = replace; ranges = ranges })
spec-of counted n threads replace ranges number few own = record {
  some = number.0.0;
  few = number.0.1;
  few_threads = few;
  few_ranges = IfSome_then ranges own (λ r are. are.0);
  numbered = IfSome_then ranges own (λ r are. are.1);
  ranges_alone = IfSome_then ranges own (λ r are. number.1 are.2);
}

plan-read : (f : Field) (d : Data) → IfOk (plan_at f d) IsSpec
unfolding plan_at optional
plan-read f d =
    next _ (object_at f _ d) _ (λ plan. let counted = is_some (get (name_of field.Partitions) plan) in
    followed _ _ (optional (number_at 1 max_partitions_asked) 1 field.Partitions plan) _ (number-by (get (name_of field.Partitions) plan)) (λ partitions number.
    followed _ _ (optional (number_at 0 max_threads_asked) 0 field.Threads plan) _ (optional-has (λ n. (0 ≤ n) × (n ≤ max_threads_asked)) (number_at 0 max_threads_asked) 0 field.Threads plan (omega arith, omega arith) (number-between 0 max_threads_asked field.Threads)) (λ threads few.
    next _ (optional flag_at false field.Override plan) _ (λ replace.
    followed _ _ (optional (own_ranges_at counted) None field.Ranges plan) _ (optional-has (AreOwn counted) (own_ranges_at counted) None field.Ranges plan tt (own-read counted field.Ranges)) (λ ranges own.
    spec-of counted partitions threads replace ranges number few.1 own)))))

partition-read : (f : Field) (d : Data) → IfOk (partition_at f d) IsSpec
unfolding partition_at
partition-read f d = next _ (object_at f _ d) _ (λ partition. required-has IsSpec plan_at field.Plan partition (plan-read field.Plan))

one-is : IsSpec one_partition
one-is = record { some = omega arith; few = omega arith; few_threads = omega arith; few_ranges = tt; numbered = tt; ranges_alone = tt }

-- ---- steps

id-read : (earlier : List StepRecord) (f : Field) (d : Data) → IfOk (new_id_at earlier f d) IsName
unfolding new_id_at
id-read earlier f d = followed _ _ (text_at 1 max_name f d) _ (name-read f d) (λ id named. unless IsName _ _ id (λ none. named))

step-read : (classes : List (List ℕ)) → length classes ≤ 64 → (earlier : List StepRecord) (d : Data) → IfOk (step_at classes earlier d) (IsStep classes)
unfolding step_at
step-read classes few earlier d =
    next _ (object_at field.Step _ d) _ (λ step.
    followed _ _ (required (new_id_at earlier) field.Id step) _ (required-has IsName (new_id_at earlier) field.Id step (id-read earlier field.Id)) (λ id named.
    followed _ _ (required (chunk_at classes) field.Chunk step) _ (required-has (IsChunk classes) (chunk_at classes) field.Chunk step (chunk-read classes few field.Chunk)) (λ chunk is.
    followed _ _ (optional partition_at one_partition field.Partition step) _ (optional-has IsSpec partition_at one_partition field.Partition step one-is (partition-read field.Partition)) (λ spec asked.
    record { named = named; some = is.0.0; few = is.0.1; rules = is.1; spec = asked }))))

steps-read : (classes : List (List ℕ)) → length classes ≤ 64 → (f : Field) (d : Data) → IfOk (steps_at classes f d) (λ steps. AreSteps steps × All (IsStep classes) steps)
unfolding steps_at
steps-read classes few f d = followed _ _ (list_at 1 max_steps f d) _ (list-between 1 max_steps f d) (λ items within.
    IfOk-weaker (each_at (step_at classes) items) _ _ (λ steps are. (record { some = omega (arith, are.0, within.0); few = omega (arith, are.0, within.1); own_ids = are.1.0 }, are.1.1))
    (both _ _ (each_at (step_at classes) items) (each-long (step_at classes) items)
    (both _ _ (each_at (step_at classes) items) (if-read _ (each_at (step_at classes) items) (steps-apart classes items)) (each-has (IsStep classes) (step_at classes) (step-read classes few) items))))

-- ---- jobs

pub job-read : (d : Data) → IfOk (job_at d) IsJob
unfolding job_at
job-read d =
    next _ (object_at field.Job _ d) _ (λ job.
    followed _ _ (required (text_at 1 max_name) field.Id job) _ (required-has IsName (text_at 1 max_name) field.Id job (name-read field.Id)) (λ id named.
    followed _ _ (optional classes_at [] field.ExceptionClasses job) _ (optional-has AreClasses classes_at [] field.ExceptionClasses job no-classes (classes-read field.ExceptionClasses)) (λ classes are.
    followed _ _ (required (steps_at classes) field.Step job) _ (required-has (λ steps. AreSteps steps × All (IsStep classes) steps) (steps_at classes) field.Step job (steps-read classes are.few field.Step)) (λ steps all.
    record { named = named; classes = are; steps = all.0; each = all.1 }))))

pub jobs-keep : (d : Data) (j : Job) → job_at d ≡ Ok j → IsJob j
jobs-keep d j is = answer-has IsJob (job_at d) j (job-read d) is
