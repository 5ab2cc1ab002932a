-- The tree of a job is read as the job.
use Rattle.std.proofs.Common.{◌≡◌, ℕ, ◌+◌, ◌-◌, ◌*◌, ◌^◌, ◌/◌, ◌%◌, ◌≤◌, ◌<◌, inl, inr, Bool, true, false, cond, List, [], ◌∷◌, ◌++◌, length, get_or, map, Option, Some, None, Ok, All, refl, sym, ap, subst, ◌∙◌, arith, append_assoc, append-nil}
use Rattle.std.specs.Prelude.{◌==◌, nat_lt, bytes_eq, position, fold, filter, bit_or, bit_and, if◌then◌else◌}
use Rattle.std.specs.List.{IsDistinct, list_any, enumerate_from}
use Rattle.std.specs.Int.{w64, bit_not, bit_at}
use Rattle.std.proofs.lemmas.Bool.{le-leb}
use Rattle.std.proofs.lemmas.Bool.Decides.{nat_tests}
use Rattle.std.proofs.lemmas.Cmp.{nat_list_eq_equiv}
use Rattle.std.proofs.lemmas.List.{length-map, map-append, map-id}
use Rattle.std.proofs.lemmas.List.Elements.{All-filter}
use Rattle.std.proofs.lemmas.List.FromFn.{length-enumerate_from, get_or-enumerate_from}
use Rattle.std.proofs.lemmas.List.Sums.{position_or_len_is, length-filter, count_by-le-length}
use Rattle.std.proofs.lemmas.Map.Keys.{apart_from_distinct}
use Rattle.std.proofs.lemmas.Nat.{mod-pow-add, or_shifted, or_comm, and_mask, pow_pos}
use Rattle.std.proofs.Math.Nat.{mod-eq_of_lt, mod-lt}
use Rattle.serde_json.specs.Data.{Data, boolean, string, object, no_members}
use Rattle.serde_json.specs.Find.{get}
use Rattle.serde_json.specs.View.{items_of}
use Rattle.jb_job.specs.declared.field.Field.{Field}
use Rattle.jb_job.specs.declared.field.Field.TheVariants as field
use Rattle.jb_job.specs.declared.job.Job.{Job}
use Rattle.jb_base.specs.declared.range.Range.{Range}
use Rattle.jb_job.specs.JobRanges.{IsClassName, AreClasses, AreDeclared, AreOthers, IsClassSet, AreRules, IsStep, IsJob}
use Rattle.jb_job.specs.JobRecord.{every_class, class_name_at, with_name, classes_at, declared, bits_at, names_at, set_at, range_pair_at, ranges_at, own_ranges_at, plan_at, partition_at, one_partition, limit_at, chunk_at, new_id_at, step_at, steps_at, job_at}
use Rattle.jb_job.specs.JobTree.{number_tree, list_tree, with_field, chosen, names_tree, set_tree, chunk_tree, range_tree, plan_tree, step_tree, job_tree}
use Rattle.jb_base.specs.Name.{IsName}
use Rattle.jb_base.specs.Range.{IsNumbered}
use Rattle.jb_job.specs.Kept.{IsSpec, AreSteps, HaveOwnIds}
use Rattle.jb_base.specs.Limits.{max_steps, max_name, max_classes, max_class_names, max_item_count, default_item_count, max_skip_limit, max_retry_limit, default_retry_limit, max_partitions_asked, max_threads_asked, max_ranges, max_records}
use Rattle.jb_job.specs.Names.{name_of}
use Rattle.jb_job.specs.Reading.{list_at, text_at, number_at, flag_at, object_at, required, optional, each_at, pair_at}
use Rattle.jb_base.specs.Rules.{RulesRecord}
use Rattle.jb_job.specs.Records.{SpecRecord, StepRecord}
use Rattle.jb_job.proofs.Kept.{id_of, turned}
use Rattle.jb_job.proofs.Sets.{and-all, below-all}
use Rattle.jb_job.proofs.FieldTrees.{then-ok, text-back, number-back, list-back, required-back, optional-back, optional-none, each-back, member-has, middle}

-- ---- distinct names

new-among : (done : List (List ℕ)) (x : List ℕ) (rest : List (List ℕ)) → IsDistinct bytes_eq (done ++ x ∷ rest) → list_any (bytes_eq x) done ≡ false
unfolding IsDistinct
new-among [] x rest once = refl
new-among (y ∷ done) x rest once =
    let apart : bytes_eq x y ≡ false = nat_list_eq_equiv.symm x y ∙ middle (λ z. bytes_eq y z ≡ false) done x rest once.0 in
    rw (apart, new-among done x rest once.1) refl

distinct-on : (done rest : List (List ℕ)) → IsDistinct bytes_eq (done ++ rest) → fold with_name done rest ≡ done ++ rest
distinct-on done [] once = sym (append-nil done)
distinct-on done (x ∷ rest) once =
    rw (new-among done x rest once) (distinct-on (done ++ x ∷ []) rest (rw (append_assoc done (x ∷ []) rest) once) ∙ append_assoc done (x ∷ []) rest)

class-back : (f : Field) (name : List ℕ) → IsClassName name → class_name_at f (string name) ≡ Ok name
unfolding class_name_at
class-back f name is = then-ok (text_at 1 max_name f (string name)) name _ name (text-back 1 max_name f name is.named.some is.named.short) (rw is.own refl)

pub classes-back : (f : Field) (classes : List (List ℕ)) → AreClasses classes → classes_at f (list_tree (map string classes)) ≡ Ok classes
unfolding classes_at
classes-back f classes are =
    then-ok (list_at 0 max_classes f (list_tree (map string classes))) (items_of (map string classes)) _ classes
    (list-back 0 max_classes f (map string classes) (omega arith) (omega (arith, length-map classes string, are.few)))
    (then-ok (each_at (λ _. class_name_at f) (items_of (map string classes))) classes _ classes
    (each-back (λ _. class_name_at f) string (λ name. name) classes (λ done x rest is. class-back f x (member-has IsClassName classes done x rest are.named is)) ∙ ap Ok (map-id classes))
    (ap Ok (distinct-on [] classes are.once)))

-- ---- sets of classes

-- a declared name, with its place
record IsPlaced (classes : List (List ℕ)) (class : ℕ × List ℕ) : Type 0 where
  there : position (bytes_eq class.1) classes ≡ Some class.0
  named : IsClassName class.1

pub place-found : (classes : List (List ℕ)) (k : ℕ) (d : List ℕ) → IsDistinct bytes_eq classes → k < length classes → position (bytes_eq (get_or classes k d)) classes ≡ Some k
place-found classes k d once lt =
    let name = get_or classes k d in
    let at = position_or_len_is (bytes_eq name) classes k d (omega arith) (λ j before. nat_list_eq_equiv.symm name (get_or classes j d) ∙ apart_from_distinct bytes_eq classes j k d once before lt) (λ _. nat_list_eq_equiv.refl name) in
    let inside : nat_lt k (length classes) ≡ true = grind (arith, nat_tests) in
    rw (at, inside) refl

all-placed : (classes : List (List ℕ)) → AreClasses classes → All (IsPlaced classes) (enumerate_from 0 classes)
all-placed classes are k d lt =
    let inside : k < length classes = omega (arith, lt, length-enumerate_from 0 classes) in
    let is = get_or-enumerate_from 0 classes k d inside ∙ ap (λ (n : ℕ). (n, get_or classes k d.1)) (omega arith) in
    subst (λ (class : ℕ × List ℕ). IsPlaced classes class) (sym is) (record { there = place-found classes k d.1 are.once inside; named = are.named k d.1 inside })

abbrev bit_of : ℕ × List ℕ → ℕ
bit_of class = 2 ^ class.0

bit-back : (star : Bool) (classes : List (List ℕ)) (f : Field) (class : ℕ × List ℕ) → IsPlaced classes class → bits_at star classes f (string class.1) ≡ Ok (bit_of class)
unfolding bits_at
bit-back true classes f class is = rw (is.named.own, is.there) refl
bit-back false classes f class is = rw is.there refl

abbrev has_bit : ℕ → ℕ × List ℕ → Bool
has_bit set class = bit_at set class.0 == 1

filter-short : (p : ℕ × List ℕ → Bool) (xs : List (ℕ × List ℕ)) → length (filter p xs) ≤ length xs
filter-short p xs = omega (arith, length-filter p xs, count_by-le-length p xs)

-- the bits up to one place, and that place
more-bits : (set n : ℕ) (known : Bool) → (bit_at set n == 1) ≡ known → cond known (bit_or (set % 2 ^ n) (2 ^ n)) (set % 2 ^ n) ≡ set % 2 ^ (n + 1)
more-bits set n true is =
    let one : set / 2 ^ n % 2 ≡ 1 = grind (arith, nat_tests) in
    let part : set % 2 ^ (n + 1) ≡ (set / 2 ^ n % 2) * 2 ^ n + set % 2 ^ n = ap (λ (m : ℕ). set % 2 ^ m) (omega arith) ∙ mod-pow-add set 1 n in
    let known : (set / 2 ^ n % 2) * 2 ^ n ≡ 1 * 2 ^ n = ap (λ (b : ℕ). b * 2 ^ n) one in
    let single : 1 * 2 ^ n ≡ 2 ^ n = omega arith in
    let joined : bit_or (2 ^ n) (set % 2 ^ n) ≡ 2 ^ n + set % 2 ^ n = subst (λ (m : ℕ). bit_or m (set % 2 ^ n) ≡ m + set % 2 ^ n) single (or_shifted 1 n (set % 2 ^ n) (mod-lt set (pow_pos n))) in
    or_comm (set % 2 ^ n) (2 ^ n) ∙ joined ∙ omega (arith, part, known)
more-bits set n false is =
    let none : set / 2 ^ n % 2 ≡ 0 = grind (arith, nat_tests) in
    let part : set % 2 ^ (n + 1) ≡ (set / 2 ^ n % 2) * 2 ^ n + set % 2 ^ n = ap (λ (m : ℕ). set % 2 ^ m) (omega arith) ∙ mod-pow-add set 1 n in
    let known : (set / 2 ^ n % 2) * 2 ^ n ≡ 0 = ap (λ (b : ℕ). b * 2 ^ n) none ∙ omega arith in
    omega (arith, part, known)

take-or-leave : (known : Bool) (acc n : ℕ) (x : List ℕ) (more : List (ℕ × List ℕ)) → fold bit_or acc (map bit_of (cond known ((n, x) ∷ more) more)) ≡ fold bit_or (cond known (bit_or acc (2 ^ n)) acc) (map bit_of more)
take-or-leave true acc n x more = refl
take-or-leave false acc n x more = refl

bits-on : (set n acc : ℕ) (rest : List (List ℕ)) → acc ≡ set % 2 ^ n → fold bit_or acc (map bit_of (filter (has_bit set) (enumerate_from n rest))) ≡ set % 2 ^ (n + length rest)
bits-on set n acc [] is = is ∙ ap (λ (m : ℕ). set % 2 ^ m) (omega arith)
bits-on set n acc (x ∷ rest) is =
    let known = bit_at set n == 1 in
    take-or-leave known acc n x (filter (has_bit set) (enumerate_from (n + 1) rest))
    ∙ bits-on set (n + 1) (cond known (bit_or acc (2 ^ n)) acc) rest (ap (λ (m : ℕ). cond known (bit_or m (2 ^ n)) m) is ∙ more-bits set n known refl)
    ∙ ap (λ (m : ℕ). set % 2 ^ m) (omega arith)

-- the bits of the chosen classes are the set
bits-back : (classes : List (List ℕ)) (set : ℕ) → AreDeclared classes set → fold bit_or 0 (map bit_of (chosen classes set)) ≡ set
bits-back classes set declared = bits-on set 0 0 classes (omega arith) ∙ mod-eq_of_lt (subst (λ (m : ℕ). set < 2 ^ m) (omega arith) declared)

names-back : (star : Bool) (classes : List (List ℕ)) (f : Field) (set : ℕ) → AreClasses classes → AreDeclared classes set → names_at star classes f (names_tree classes set) ≡ Ok set
unfolding names_at
names-back star classes f set are declared =
    let all = chosen classes set in
    let trees = map (λ (class : ℕ × List ℕ). string class.1) all in
    let few : length trees ≤ max_class_names = omega (arith, length-map all (λ (class : ℕ × List ℕ). string class.1), filter-short (has_bit set) (enumerate_from 0 classes), length-enumerate_from 0 classes, are.few) in
    let placed : All (IsPlaced classes) all = All-filter (has_bit set) (IsPlaced classes) (enumerate_from 0 classes) (all-placed classes are) in
    then-ok (list_at 0 max_class_names f (list_tree trees)) (items_of trees) _ set (list-back 0 max_class_names f trees (omega arith) few)
    (then-ok (each_at (λ _. bits_at star classes f) (items_of trees)) (map bit_of all) _ set
    (each-back (λ _. bits_at star classes f) (λ class. string class.1) bit_of all (λ done x rest is. bit-back star classes f x (member-has (IsPlaced classes) all done x rest placed is)))
    (ap Ok (bits-back classes set declared)))

not-lt : (a b : ℕ) → nat_lt a b ≡ false → a < b → ⊥
not-lt a b past lt = let le : b ≤ a = grind (arith, nat_tests) in omega (arith, le, lt)

-- the list of `*` alone
every-back : (classes : List (List ℕ)) (f : Field) → names_at true classes f (list_tree (string every_class ∷ [])) ≡ Ok (2 ^ 64 - 1)
unfolding names_at list_at bits_at
every-back classes f = refl

and-none : (set : ℕ) → set < 2 ^ 64 → bit_and set (bit_not w64 0) ≡ set
and-none set lt = and_mask set 64 ∙ mod-eq_of_lt lt

set-by : (classes : List (List ℕ)) (f : Field) (set : ℕ) (known : Bool) → nat_lt set (2 ^ length classes) ≡ known → AreClasses classes → IsClassSet classes set
    → set_at classes f (if known then object (with_field field.Include (names_tree classes set) no_members) else object (with_field field.Exclude (names_tree classes (2 ^ 64 - 1 - set)) (with_field field.Include (list_tree (string every_class ∷ [])) no_members))) ≡ Ok set
unfolding set_at object_at
set-by classes f set true is are kept =
    let tree = object (with_field field.Include (names_tree classes set) no_members) in
    let declared : AreDeclared classes set = grind (arith, nat_tests) in
    then-ok (optional (names_at true classes) 0 field.Include tree) set _ set (optional-back (names_at true classes) 0 field.Include tree (names_tree classes set) set refl (names-back true classes field.Include set are declared))
    (then-ok (optional (names_at false classes) 0 field.Exclude tree) 0 _ set (optional-none (names_at false classes) 0 field.Exclude tree refl)
    (ap Ok (and-none set (below-all classes set are.few declared))))
set-by classes f set false is are kept =
    let excluded = 2 ^ 64 - 1 - set in
    let tree = object (with_field field.Exclude (names_tree classes excluded) (with_field field.Include (list_tree (string every_class ∷ [])) no_members)) in
    let others : AreOthers classes set = elim kept [ inl declared ↦ absurd (not-lt set (2 ^ length classes) is declared) | inr others ↦ others ] in
    then-ok (optional (names_at true classes) 0 field.Include tree) (2 ^ 64 - 1) _ set (optional-back (names_at true classes) 0 field.Include tree (list_tree (string every_class ∷ [])) (2 ^ 64 - 1) refl (every-back classes field.Include))
    (then-ok (optional (names_at false classes) 0 field.Exclude tree) excluded _ set (optional-back (names_at false classes) 0 field.Exclude tree (names_tree classes excluded) excluded refl (names-back false classes field.Exclude excluded are others.excluded))
    (ap Ok (and-all excluded (below-all classes excluded are.few others.excluded) ∙ omega (arith, others.whole))))

pub set-back : (classes : List (List ℕ)) (f : Field) (set : ℕ) → AreClasses classes → IsClassSet classes set → set_at classes f (set_tree classes set) ≡ Ok set
set-back classes f set are kept = set-by classes f set (nat_lt set (2 ^ length classes)) refl are kept

-- ---- chunks

abbrev pub chunk_keys : List Field
chunk_keys = field.ItemCount ∷ field.SkipLimit ∷ field.RetryLimit ∷ field.SkippableExceptionClasses ∷ field.RetryableExceptionClasses ∷ field.NoRollbackExceptionClasses ∷ []

limit-back : (f : Field) (limit : ℕ) → limit ≤ max_skip_limit → limit_at max_skip_limit f (number_tree limit) ≡ Ok (Some limit)
unfolding limit_at
limit-back f limit most = then-ok (number_at 0 max_skip_limit f (number_tree limit)) limit _ (Some limit) (number-back 0 max_skip_limit f limit (omega arith) most) refl

-- an object that has these values, and this skip limit
chunk-of : (classes : List (List ℕ)) (f : Field) (d : Data) (n : ℕ) (r : RulesRecord) → AreClasses classes → 1 ≤ n → n ≤ max_item_count → AreRules classes r
    → object_at f chunk_keys d ≡ Ok d
    → get (name_of field.ItemCount) d ≡ Some (number_tree n)
    → optional (limit_at max_skip_limit) None field.SkipLimit d ≡ Ok r.skip_limit
    → get (name_of field.RetryLimit) d ≡ Some (number_tree r.retry_limit)
    → get (name_of field.SkippableExceptionClasses) d ≡ Some (set_tree classes r.skippable)
    → get (name_of field.RetryableExceptionClasses) d ≡ Some (set_tree classes r.retryable)
    → get (name_of field.NoRollbackExceptionClasses) d ≡ Some (set_tree classes r.no_rollback)
    → chunk_at classes f d ≡ Ok (n, r)
unfolding chunk_at
chunk-of classes f d n r are some few rules keys count skips retries skippable retryable no_rollback =
    then-ok (object_at f chunk_keys d) d _ (n, r) keys
    (then-ok (optional (number_at 1 max_item_count) default_item_count field.ItemCount d) n _ (n, r) (optional-back (number_at 1 max_item_count) default_item_count field.ItemCount d (number_tree n) n count (number-back 1 max_item_count field.ItemCount n some few))
    (then-ok (optional (limit_at max_skip_limit) None field.SkipLimit d) r.skip_limit _ (n, r) skips
    (then-ok (optional (number_at 0 max_retry_limit) default_retry_limit field.RetryLimit d) r.retry_limit _ (n, r) (optional-back (number_at 0 max_retry_limit) default_retry_limit field.RetryLimit d (number_tree r.retry_limit) r.retry_limit retries (number-back 0 max_retry_limit field.RetryLimit r.retry_limit (omega arith) rules.retry_limit))
    (then-ok (optional (set_at classes) 0 field.SkippableExceptionClasses d) r.skippable _ (n, r) (optional-back (set_at classes) 0 field.SkippableExceptionClasses d (set_tree classes r.skippable) r.skippable skippable (set-back classes field.SkippableExceptionClasses r.skippable are rules.skippable))
    (then-ok (optional (set_at classes) 0 field.RetryableExceptionClasses d) r.retryable _ (n, r) (optional-back (set_at classes) 0 field.RetryableExceptionClasses d (set_tree classes r.retryable) r.retryable retryable (set-back classes field.RetryableExceptionClasses r.retryable are rules.retryable))
    (then-ok (optional (set_at classes) 0 field.NoRollbackExceptionClasses d) r.no_rollback _ (n, r) (optional-back (set_at classes) 0 field.NoRollbackExceptionClasses d (set_tree classes r.no_rollback) r.no_rollback no_rollback (set-back classes field.NoRollbackExceptionClasses r.no_rollback are rules.no_rollback))
    refl))))))

chunk-by : (classes : List (List ℕ)) (f : Field) (n skippable retryable no_rollback retry_limit : ℕ) (limit : Option ℕ) → AreClasses classes → 1 ≤ n → n ≤ max_item_count
    → AreRules classes (record { skippable = skippable; retryable = retryable; no_rollback = no_rollback; skip_limit = limit; retry_limit = retry_limit })
    → chunk_at classes f (chunk_tree classes n (record { skippable = skippable; retryable = retryable; no_rollback = no_rollback; skip_limit = limit; retry_limit = retry_limit })) ≡ Ok (n, record { skippable = skippable; retryable = retryable; no_rollback = no_rollback; skip_limit = limit; retry_limit = retry_limit })
unfolding object_at
chunk-by classes f n skippable retryable no_rollback retry_limit None are some few rules =
    chunk-of classes f _ n (record { skippable = skippable; retryable = retryable; no_rollback = no_rollback; skip_limit = None; retry_limit = retry_limit }) are some few rules refl refl (optional-none (limit_at max_skip_limit) None field.SkipLimit _ refl) refl refl refl refl
chunk-by classes f n skippable retryable no_rollback retry_limit (Some limit) are some few rules =
    chunk-of classes f _ n (record { skippable = skippable; retryable = retryable; no_rollback = no_rollback; skip_limit = Some limit; retry_limit = retry_limit }) are some few rules refl refl (optional-back (limit_at max_skip_limit) None field.SkipLimit _ (number_tree limit) (Some limit) refl (limit-back field.SkipLimit limit rules.skip_limit)) refl refl refl refl

pub chunk-back : (classes : List (List ℕ)) (f : Field) (n : ℕ) (r : RulesRecord) → AreClasses classes → 1 ≤ n → n ≤ max_item_count → AreRules classes r → chunk_at classes f (chunk_tree classes n r) ≡ Ok (n, r)
chunk-back classes f n r are some few rules = chunk-by classes f n r.skippable r.retryable r.no_rollback r.retry_limit r.skip_limit are some few rules

-- ---- partitions

range-back : (r : Range) → IsNumbered r → range_pair_at (range_tree r) ≡ Ok r
unfolding range_pair_at pair_at
range-back r is = rw (le-leb r.lo max_records is.lo, le-leb r.hi max_records is.hi) refl

ranges-back : (f : Field) (ranges : List Range) → length ranges ≤ max_ranges → All IsNumbered ranges → ranges_at f (list_tree (map range_tree ranges)) ≡ Ok (Some ranges)
ranges-back f ranges few numbered =
    then-ok (list_at 0 max_ranges f (list_tree (map range_tree ranges))) (items_of (map range_tree ranges)) _ (Some ranges)
    (list-back 0 max_ranges f (map range_tree ranges) (omega arith) (omega (arith, length-map ranges range_tree, few)))
    (then-ok (each_at (λ _. range_pair_at) (items_of (map range_tree ranges))) ranges _ (Some ranges)
    (each-back (λ _. range_pair_at) range_tree (λ r. r) ranges (λ done r rest is. range-back r (member-has IsNumbered ranges done r rest numbered is)) ∙ ap Ok (map-id ranges))
    refl)

own-back : (f : Field) (ranges : List Range) → length ranges ≤ max_ranges → All IsNumbered ranges → own_ranges_at false f (list_tree (map range_tree ranges)) ≡ Ok (Some ranges)
unfolding own_ranges_at
own-back f ranges few numbered = ranges-back f ranges few numbered

flag-back : (f : Field) (b : Bool) → flag_at f (boolean b) ≡ Ok b
unfolding flag_at
flag-back f b = refl

plan-by : (f : Field) (n threads : ℕ) (replace : Bool) (ranges : Option (List Range)) → IsSpec (record { partitions = n; threads = threads; replace = replace; ranges = ranges })
    → plan_at f (plan_tree (record { partitions = n; threads = threads; replace = replace; ranges = ranges })) ≡ Ok (record { partitions = n; threads = threads; replace = replace; ranges = ranges })
unfolding plan_at object_at
plan-by f n threads replace None kept =
    let spec : SpecRecord = record { partitions = n; threads = threads; replace = replace; ranges = None } in
    let d = plan_tree spec in
    then-ok (optional (number_at 1 max_partitions_asked) 1 field.Partitions d) n _ spec (optional-back (number_at 1 max_partitions_asked) 1 field.Partitions d (number_tree n) n refl (number-back 1 max_partitions_asked field.Partitions n kept.some kept.few))
    (then-ok (optional (number_at 0 max_threads_asked) 0 field.Threads d) threads _ spec (optional-back (number_at 0 max_threads_asked) 0 field.Threads d (number_tree threads) threads refl (number-back 0 max_threads_asked field.Threads threads (omega arith) kept.few_threads))
    (then-ok (optional flag_at false field.Override d) replace _ spec (optional-back flag_at false field.Override d (boolean replace) replace refl (flag-back field.Override replace))
    (then-ok (optional (own_ranges_at true) None field.Ranges d) None _ spec (optional-none (own_ranges_at true) None field.Ranges d refl)
    refl)))
plan-by f n threads replace (Some ranges) kept =
    let spec : SpecRecord = record { partitions = n; threads = threads; replace = replace; ranges = Some ranges } in
    let d = plan_tree spec in
    then-ok (optional (number_at 1 max_partitions_asked) 1 field.Partitions d) n _ spec (optional-none (number_at 1 max_partitions_asked) 1 field.Partitions d refl ∙ ap Ok (sym kept.ranges_alone))
    (then-ok (optional (number_at 0 max_threads_asked) 0 field.Threads d) threads _ spec (optional-back (number_at 0 max_threads_asked) 0 field.Threads d (number_tree threads) threads refl (number-back 0 max_threads_asked field.Threads threads (omega arith) kept.few_threads))
    (then-ok (optional flag_at false field.Override d) replace _ spec (optional-back flag_at false field.Override d (boolean replace) replace refl (flag-back field.Override replace))
    (then-ok (optional (own_ranges_at false) None field.Ranges d) (Some ranges) _ spec (optional-back (own_ranges_at false) None field.Ranges d (list_tree (map range_tree ranges)) (Some ranges) refl (own-back field.Ranges ranges kept.few_ranges kept.numbered))
    refl)))

plan-back : (f : Field) (s : SpecRecord) → IsSpec s → plan_at f (plan_tree s) ≡ Ok s
plan-back f s kept = plan-by f s.partitions s.threads s.replace s.ranges kept

partition-back : (f : Field) (s : SpecRecord) → IsSpec s → partition_at f (object (with_field field.Plan (plan_tree s) no_members)) ≡ Ok s
unfolding partition_at object_at
partition-back f s kept = required-back plan_at field.Plan _ (plan_tree s) s refl (plan-back field.Plan s kept)

-- ---- steps

-- the id of a step is new behind the earlier ones
id-is-new : (all done : List StepRecord) (s : StepRecord) (rest : List StepRecord) → HaveOwnIds all → done ++ s ∷ rest ≡ all → list_any (λ e. bytes_eq e.id s.id) done ≡ false
id-is-new all done s rest own is =
    let apart : IsDistinct bytes_eq (map id_of done ++ s.id ∷ map id_of rest) = subst (λ (ids : List (List ℕ)). IsDistinct bytes_eq ids) (map-append id_of done (s ∷ rest)) (subst HaveOwnIds (sym is) own) in
    sym (turned done s.id) ∙ new-among (map id_of done) s.id (map id_of rest) apart

id-back : (earlier : List StepRecord) (f : Field) (id : List ℕ) → IsName id → list_any (λ e. bytes_eq e.id id) earlier ≡ false → new_id_at earlier f (string id) ≡ Ok id
unfolding new_id_at
id-back earlier f id named new = then-ok (text_at 1 max_name f (string id)) id _ id (text-back 1 max_name f id named.some named.short) (rw new refl)

step-back : (classes : List (List ℕ)) (earlier : List StepRecord) (s : StepRecord) → AreClasses classes → IsStep classes s → list_any (λ e. bytes_eq e.id s.id) earlier ≡ false → step_at classes earlier (step_tree classes s) ≡ Ok s
unfolding step_at object_at
step-back classes earlier s are kept new =
    let d = step_tree classes s in
    then-ok (required (new_id_at earlier) field.Id d) s.id _ s (required-back (new_id_at earlier) field.Id d (string s.id) s.id refl (id-back earlier field.Id s.id kept.named new))
    (then-ok (required (chunk_at classes) field.Chunk d) (s.item_count, s.rules) _ s (required-back (chunk_at classes) field.Chunk d (chunk_tree classes s.item_count s.rules) (s.item_count, s.rules) refl (chunk-back classes field.Chunk s.item_count s.rules are kept.some kept.few kept.rules))
    (then-ok (optional partition_at one_partition field.Partition d) s.spec _ s (optional-back partition_at one_partition field.Partition d (object (with_field field.Plan (plan_tree s.spec) no_members)) s.spec refl (partition-back field.Partition s.spec kept.spec))
    refl))

steps-back : (classes : List (List ℕ)) (f : Field) (steps : List StepRecord) → AreClasses classes → AreSteps steps → All (IsStep classes) steps → steps_at classes f (list_tree (map (step_tree classes) steps)) ≡ Ok steps
unfolding steps_at
steps-back classes f steps are kept each =
    then-ok (list_at 1 max_steps f (list_tree (map (step_tree classes) steps))) (items_of (map (step_tree classes) steps)) (each_at (step_at classes)) steps
    (list-back 1 max_steps f (map (step_tree classes) steps) (omega (arith, length-map steps (step_tree classes), kept.some)) (omega (arith, length-map steps (step_tree classes), kept.few)))
    (each-back (step_at classes) (step_tree classes) (λ s. s) steps (λ done s rest is.
    subst (λ (earlier : List StepRecord). step_at classes earlier (step_tree classes s) ≡ Ok s) (sym (map-id done))
    (step-back classes done s are (member-has (IsStep classes) steps done s rest each is) (id-is-new steps done s rest kept.own_ids is)))
    ∙ ap Ok (map-id steps))

-- ---- jobs

pub job-back : (j : Job) → IsJob j → job_at (job_tree j) ≡ Ok j
unfolding job_at object_at
job-back j kept =
    let d = job_tree j in
    then-ok (required (text_at 1 max_name) field.Id d) j.id _ j (required-back (text_at 1 max_name) field.Id d (string j.id) j.id refl (text-back 1 max_name field.Id j.id kept.named.some kept.named.short))
    (then-ok (optional classes_at [] field.ExceptionClasses d) j.classes _ j (optional-back classes_at [] field.ExceptionClasses d (list_tree (map string j.classes)) j.classes refl (classes-back field.ExceptionClasses j.classes kept.classes))
    (then-ok (required (steps_at j.classes) field.Step d) j.steps _ j (required-back (steps_at j.classes) field.Step d (list_tree (map (step_tree j.classes) j.steps)) j.steps refl (steps-back j.classes field.Step j.steps kept.classes kept.steps kept.each))
    refl))
