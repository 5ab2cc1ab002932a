-- The compact text of a job has the job's tree.
use Rattle.std.proofs.Common.{◌≡◌, ℕ, ◌+◌, ◌-◌, ◌≤◌, ◌<◌, ◌^◌, Bool, true, false, List, [], ◌∷◌, map, length, Option, Some, None, All, refl, sym, ap, ◌∙◌, arith, append-nil}
use Rattle.std.specs.Prelude.{option_and_then, nat_lt, IfSome, if◌then◌else◌}
use Rattle.std.specs.List.{AllByRecursion}
use Rattle.std.proofs.lemmas.List.Elements.{recursion_from_All}
use Rattle.std.proofs.lemmas.Option.{IfSome_then}
use Rattle.json.specs.Token.{Token}
use Rattle.json.specs.Lex.{tokens}
use Rattle.json.specs.Json as json
use Rattle.json.specs.Tree as tree
use Rattle.json.proofs.Printed.Decimals.{IsNumber-decimal}
use Rattle.json.proofs.Printed.Tokens.{tokens-print}
use Rattle.json.proofs.Printed.Trees.{value-json_tokens, ArePrintable-json_tokens}
use Rattle.serde_json.specs.Data.{Data, boolean, string, object, no_members}
use Rattle.serde_json.specs.Read.{read, max_depth, of_json, of_items}
use Rattle.serde_json.specs.View.{items_of}
use Rattle.serde_json.specs.Written.{compact_text, outline, items_outline}
use Rattle.serde_json.proofs.Numbers.{number_of-decimal}
use Rattle.serde_json.proofs.Texts.{print-outline}
use Rattle.jb_job.specs.declared.field.Field.TheVariants as field
use Rattle.jb_job.specs.declared.job.Job.{Job}
use Rattle.jb_base.specs.declared.range.Range.{Range}
use Rattle.jb_job.specs.JobRanges.{AreRules, IsStep, IsJob}
use Rattle.jb_job.specs.JobRecord.{every_class}
use Rattle.jb_job.specs.JobTree.{number_tree, list_tree, with_field, names_tree, set_tree, with_skip_limit, chunk_tree, range_tree, with_partitions, plan_tree, step_tree, job_tree}
use Rattle.jb_base.specs.Range.{IsNumbered}
use Rattle.jb_job.specs.Kept.{IsSpec}
use Rattle.jb_base.specs.Limits.{max_item_count}
use Rattle.jb_base.specs.Rules.{RulesRecord}
use Rattle.jb_job.specs.Records.{SpecRecord, StepRecord}

-- a tree that its text has, and that nests no deeper than this
record IsText (deep : ℕ) (d : Data) : Type 0 where
  json : of_json (outline d) ≡ Some d
  numbers : tree.HasNumbers (outline d)
  shallow : tree.depth (outline d) ≤ deep

written-read : (d : Data) → IsText max_depth d → read (compact_text d) ≡ Some d
written-read d is =
    let j = outline d in
    let ts = ap tokens (sym (print-outline d)) ∙ tokens-print (tree.json_tokens j) (ArePrintable-json_tokens j is.numbers) in
    ap (λ (us : List Token). option_and_then of_json (option_and_then (λ p. json.if_last p.0 p.1) (json.value max_depth us))) (ts ∙ sym (append-nil (tree.json_tokens j)))
    ∙ ap (λ (o : Option (json.Json × List Token)). option_and_then of_json (option_and_then (λ p. json.if_last p.0 p.1) o)) (value-json_tokens j max_depth [] is.shallow)
    ∙ is.json

deeper : (low high : ℕ) (d : Data) → low ≤ high → IsText low d → IsText high d
deeper low high d le is = record { json = is.json; numbers = is.numbers; shallow = omega (arith, is.shallow, le) }

-- ---- values without parts

number-text : (deep n : ℕ) → n < 2 ^ 64 → IsText deep (number_tree n)
number-text deep n fits = record { json = rw (number_of-decimal n fits) refl; numbers = IsNumber-decimal n fits; shallow = omega arith }

string-text : (deep : ℕ) (s : List ℕ) → IsText deep (string s)
string-text deep s = record { json = refl; numbers = tt; shallow = omega arith }

boolean-text : (deep : ℕ) (b : Bool) → IsText deep (boolean b)
boolean-text deep b = record { json = refl; numbers = tt; shallow = omega arith }

-- ---- lists

item-json : (d : Data) (ds : List Data) → of_json (outline d) ≡ Some d → of_items (items_outline (items_of ds)) ≡ Some (items_of ds) → of_items (items_outline (items_of (d ∷ ds))) ≡ Some (items_of (d ∷ ds))
item-json d ds one rest = rw (one, rest) refl

items-json : (deep : ℕ) (ds : List Data) → AllByRecursion (IsText deep) ds → of_items (items_outline (items_of ds)) ≡ Some (items_of ds)
items-json deep [] each = refl
items-json deep (d ∷ ds) each = item-json d ds each.0.json (items-json deep ds each.1)

items-numbers : (deep : ℕ) (ds : List Data) → AllByRecursion (IsText deep) ds → tree.ItemsHaveNumbers (items_outline (items_of ds))
items-numbers deep [] each = tt
items-numbers deep (d ∷ ds) each = (each.0.numbers, items-numbers deep ds each.1)

items-shallow : (deep : ℕ) (ds : List Data) → AllByRecursion (IsText deep) ds → tree.items_depth (items_outline (items_of ds)) ≤ deep
items-shallow deep [] each = omega arith
items-shallow deep (d ∷ ds) each = omega (arith, each.0.shallow, items-shallow deep ds each.1)

list-text : (deep : ℕ) (ds : List Data) → AllByRecursion (IsText deep) ds → IsText (deep + 1) (list_tree ds)
list-text deep ds each = record { json = rw (items-json deep ds each) refl; numbers = items-numbers deep ds each; shallow = omega (arith, items-shallow deep ds each) }

each-text : {A : Type 0} (P : A → Type 0) (deep : ℕ) (make : A → Data) (xs : List A) → ((x : A) → P x → IsText deep (make x)) → AllByRecursion P xs → AllByRecursion (IsText deep) (map make xs)
each-text P deep make [] is each = tt
each-text P deep make (x ∷ xs) is each = (is x each.0, each-text P deep make xs is each.1)

strings-text : {A : Type 0} (deep : ℕ) (name : A → List ℕ) (xs : List A) → AllByRecursion (IsText deep) (map (λ x. string (name x)) xs)
strings-text deep name [] = tt
strings-text deep name (x ∷ xs) = (string-text deep (name x), strings-text deep name xs)

-- ---- objects, whose parts are trees of texts

include-text : (deep : ℕ) (a : Data) → IsText deep a → IsText (deep + 1) (object (with_field field.Include a no_members))
include-text deep a p = record { json = rw p.json refl; numbers = (p.numbers, tt); shallow = omega (arith, p.shallow) }

exclude-text : (deep : ℕ) (a b : Data) → IsText deep a → IsText deep b → IsText (deep + 1) (object (with_field field.Exclude a (with_field field.Include b no_members)))
exclude-text deep a b p q = record { json = rw (p.json, q.json) refl; numbers = (p.numbers, (q.numbers, tt)); shallow = omega (arith, p.shallow, q.shallow) }

names-text : (classes : List (List ℕ)) (set : ℕ) → IsText 1 (names_tree classes set)
names-text classes set = list-text 0 _ (strings-text 0 (λ (class : ℕ × List ℕ). class.1) _)

set-by : (known : Bool) (a b c : Data) → IsText 1 a → IsText 1 b → IsText 1 c → IsText 2 (if known then object (with_field field.Include a no_members) else object (with_field field.Exclude b (with_field field.Include c no_members)))
set-by true a b c p q r = include-text 1 a p
set-by false a b c p q r = exclude-text 1 b c q r

set-text : (classes : List (List ℕ)) (set : ℕ) → IsText 2 (set_tree classes set)
set-text classes set = set-by (nat_lt set (2 ^ length classes)) _ _ _ (names-text classes set) (names-text classes (2 ^ 64 - 1 - set)) (list-text 0 (string every_class ∷ []) (string-text 0 every_class, tt))

chunk-shape : (deep : ℕ) (a b c d f : Data) (limit : Option ℕ) → IsText deep a → IsText deep b → IsText deep c → IsText deep d → IsText deep f → IfSome limit (λ n. n < 2 ^ 64)
    → IsText (deep + 1) (object (with_field field.ItemCount a (with_field field.NoRollbackExceptionClasses b (with_field field.RetryLimit c (with_field field.RetryableExceptionClasses d (with_skip_limit limit (with_field field.SkippableExceptionClasses f no_members)))))))
chunk-shape deep a b c d f None p q r s t fits = record {
  json = rw (p.json, q.json, r.json, s.json, t.json) refl;
  numbers = (p.numbers, (q.numbers, (r.numbers, (s.numbers, (t.numbers, tt)))));
  shallow = omega (arith, p.shallow, q.shallow, r.shallow, s.shallow, t.shallow);
}
chunk-shape deep a b c d f (Some n) p q r s t fits = record {
  json = rw (p.json, q.json, r.json, s.json, number_of-decimal n fits, t.json) refl;
  numbers = (p.numbers, (q.numbers, (r.numbers, (s.numbers, (IsNumber-decimal n fits, (t.numbers, tt))))));
  shallow = omega (arith, p.shallow, q.shallow, r.shallow, s.shallow, t.shallow);
}

chunk-text : (classes : List (List ℕ)) (n : ℕ) (r : RulesRecord) → n ≤ max_item_count → AreRules classes r → IsText 3 (chunk_tree classes n r)
chunk-text classes n r few rules =
    chunk-shape 2 _ _ _ _ _ r.skip_limit (number-text 2 n (omega (arith, few))) (set-text classes r.no_rollback) (number-text 2 r.retry_limit (omega (arith, rules.retry_limit))) (set-text classes r.retryable) (set-text classes r.skippable)
    (IfSome_then r.skip_limit rules.skip_limit (λ limit most. omega (arith, most)))

range-text : (r : Range) → IsNumbered r → IsText 1 (range_tree r)
range-text r is = list-text 0 (number_tree r.lo ∷ number_tree r.hi ∷ []) (number-text 0 r.lo (omega (arith, is.lo)), (number-text 0 r.hi (omega (arith, is.hi)), tt))

ranges-shape : (deep : ℕ) (a b c : Data) → IsText deep a → IsText deep b → IsText deep c → IsText (deep + 1) (object (with_field field.Override a (with_field field.Ranges b (with_field field.Threads c no_members))))
ranges-shape deep a b c p q r = record { json = rw (p.json, q.json, r.json) refl; numbers = (p.numbers, (q.numbers, (r.numbers, tt))); shallow = omega (arith, p.shallow, q.shallow, r.shallow) }

partitions-shape : (deep : ℕ) (a b c : Data) → IsText deep a → IsText deep b → IsText deep c → IsText (deep + 1) (object (with_field field.Override a (with_field field.Partitions b (with_field field.Threads c no_members))))
partitions-shape deep a b c p q r = record { json = rw (p.json, q.json, r.json) refl; numbers = (p.numbers, (q.numbers, (r.numbers, tt))); shallow = omega (arith, p.shallow, q.shallow, r.shallow) }

plan-by : (replace : Bool) (n threads : ℕ) (ranges : Option (List Range)) → n < 2 ^ 64 → threads < 2 ^ 64 → IfSome ranges (All IsNumbered)
    → IsText 3 (object (with_field field.Override (boolean replace) (with_partitions n ranges (with_field field.Threads (number_tree threads) no_members))))
plan-by replace n threads None fits few numbered = partitions-shape 2 _ _ _ (boolean-text 2 replace) (number-text 2 n fits) (number-text 2 threads few)
plan-by replace n threads (Some ranges) fits few numbered = ranges-shape 2 _ _ _ (boolean-text 2 replace) (list-text 1 (map range_tree ranges) (each-text IsNumbered 1 range_tree ranges range-text (recursion_from_All IsNumbered ranges numbered))) (number-text 2 threads few)

plan-text : (s : SpecRecord) → IsSpec s → IsText 3 (plan_tree s)
plan-text s kept = plan-by s.replace s.partitions s.threads s.ranges (omega (arith, kept.few)) (omega (arith, kept.few_threads)) kept.numbered

partition-shape : (deep : ℕ) (a : Data) → IsText deep a → IsText (deep + 1) (object (with_field field.Plan a no_members))
partition-shape deep a p = record { json = rw p.json refl; numbers = (p.numbers, tt); shallow = omega (arith, p.shallow) }

step-shape : (deep : ℕ) (a b c : Data) → IsText deep a → IsText deep b → IsText deep c → IsText (deep + 1) (object (with_field field.Chunk a (with_field field.Id b (with_field field.Partition c no_members))))
step-shape deep a b c p q r = record { json = rw (p.json, q.json, r.json) refl; numbers = (p.numbers, (q.numbers, (r.numbers, tt))); shallow = omega (arith, p.shallow, q.shallow, r.shallow) }

step-text : (classes : List (List ℕ)) (s : StepRecord) → IsStep classes s → IsText 5 (step_tree classes s)
step-text classes s kept =
    step-shape 4 _ _ _ (deeper 3 4 (chunk_tree classes s.item_count s.rules) (omega arith) (chunk-text classes s.item_count s.rules kept.few kept.rules)) (string-text 4 s.id) (partition-shape 3 (plan_tree s.spec) (plan-text s.spec kept.spec))

job-shape : (deep : ℕ) (a b c : Data) → IsText deep a → IsText deep b → IsText deep c → IsText (deep + 1) (object (with_field field.ExceptionClasses a (with_field field.Id b (with_field field.Step c no_members))))
job-shape deep a b c p q r = record { json = rw (p.json, q.json, r.json) refl; numbers = (p.numbers, (q.numbers, (r.numbers, tt))); shallow = omega (arith, p.shallow, q.shallow, r.shallow) }

job-text : (j : Job) → IsJob j → IsText 7 (job_tree j)
job-text j kept =
    job-shape 6 _ _ _ (list-text 5 (map string j.classes) (strings-text 5 (λ name. name) j.classes)) (string-text 6 j.id)
    (list-text 5 (map (step_tree j.classes) j.steps) (each-text (IsStep j.classes) 5 (step_tree j.classes) j.steps (step-text j.classes) (recursion_from_All (IsStep j.classes) j.steps kept.each)))

pub text-read : (j : Job) → IsJob j → read (compact_text (job_tree j)) ≡ Some (job_tree j)
text-read j kept = written-read (job_tree j) (deeper 7 max_depth (job_tree j) (omega arith) (job-text j kept))
