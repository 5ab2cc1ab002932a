-- What the types of a job keep, in what reading gives.
use Rattle.std.proofs.Common.{◌≡◌, ℕ, ◌+◌, ◌≤◌, ◌<◌, Bool, true, false, true≢false, List, [], ◌∷◌, ◌++◌, length, get_or, take, map, Ok, Err, IfOk, All, refl, sym, ap, ◌∙◌, arith}
use Rattle.std.specs.Prelude.{◌&&◌, nat_le, bytes_eq, if◌then◌else◌}
use Rattle.std.specs.List.{IsDistinct, list_any}
use Rattle.std.proofs.lemmas.Bool.Decides.{nat_tests}
use Rattle.std.proofs.lemmas.List.Elements.{All-append, All-cons, All-nil}
use Rattle.std.proofs.lemmas.Cmp.{nat_list_eq_equiv}
use Rattle.std.proofs.lemmas.Result.{IfOk-weaker}
use Rattle.std.proofs.lemmas.List.{get_or-map, get_or-take, length-map, length-take-le, map-append, take_more}
use Rattle.std.proofs.lemmas.List.Folds.{Any-from_list_any}
use Rattle.std.proofs.lemmas.Map.Keys.{IsDistinct-push, apart_from_distinct}
use Rattle.serde_json.specs.Data.{Data, Items, no_items, item}
use Rattle.serde_json.specs.Find.{get}
use Rattle.jb_job.specs.declared.field.Field.{Field}
use Rattle.jb_job.specs.declared.field.Field.TheVariants as field
use Rattle.jb_base.specs.declared.range.Range.{Range}
use Rattle.jb_base.specs.Range.{IsNumbered}
use Rattle.jb_job.specs.Kept.{HaveOwnIds}
use Rattle.jb_job.specs.JobRecord.{range_pair_at, new_id_at, chunk_at, partition_at, one_partition, step_at}
use Rattle.jb_base.specs.Limits.{max_name, max_records}
use Rattle.jb_base.proofs.Causes.{followed, next, answer-has}
use Rattle.jb_job.specs.Names.{name_of}
use Rattle.jb_job.specs.Reading.{Read, Fault, shaped, ranged, whole_number, pair_at, text_at, object_at, required, optional, each_after, each_at}
use Rattle.jb_job.specs.Records.{StepRecord}

-- ---- one reading

pub in-range : {A : Type 0} (P : A → Type 0) (f : Field) (inside : Bool) (x : A) → (inside ≡ true → P x) → IfOk (ranged f inside x) P
in-range P f true x known = known refl
in-range P f false x known = tt

pub unless : {A : Type 0} (P : A → Type 0) (refused : Bool) (fault : Fault) (x : A) → (refused ≡ false → P x) → IfOk (if refused then Err fault else Ok x) P
unless P true fault x known = tt
unless P false fault x known = known refl

-- what each further member keeps, the whole list has
pub each-keeps : {A : Type 0} (Q : List A → Type 0) (kind : List A → Data → Read A) → ((done : List A) (d : Data) → Q done → IfOk (kind done d) (λ x. Q (done ++ x ∷ []))) → (done : List A) (items : Items) → Q done → IfOk (each_after kind done items) Q
each-keeps Q kind keeps done no_items so_far = so_far
each-keeps Q kind keeps done (item d ds) so_far =
    followed (λ x. Q (done ++ x ∷ [])) Q (kind done d) (λ x. each_after kind (done ++ x ∷ []) ds) (keeps done d so_far) (λ x more. each-keeps Q kind keeps (done ++ x ∷ []) ds more)

-- ---- ranges

few-enough : (lo hi : ℕ) → (nat_le lo max_records && nat_le hi max_records) ≡ true → (lo ≤ max_records) × (hi ≤ max_records)
few-enough lo hi inside = grind (arith, nat_tests)

pub range-numbered : (d : Data) → IfOk (range_pair_at d) IsNumbered
unfolding range_pair_at
range-numbered d =
    next _ (pair_at field.Ranges d) _ (λ pair. next _ (shaped field.Ranges (whole_number pair.0)) _ (λ lo. next _ (shaped field.Ranges (whole_number pair.1)) _ (λ hi.
    in-range IsNumbered field.Ranges _ _ (λ inside. let few = few-enough lo hi inside in record { lo = few.0; hi = few.1 }))))

pub ranges-numbered : (items : Items) (ranges : List Range) → each_at (λ _. range_pair_at) items ≡ Ok ranges → All IsNumbered ranges
ranges-numbered items ranges =
    answer-has (All IsNumbered) (each_at (λ _. range_pair_at) items) ranges
    (each-keeps (All IsNumbered) (λ _. range_pair_at) (λ done d kept. IfOk-weaker (range_pair_at d) IsNumbered _ (λ x is. All-append IsNumbered done (x ∷ []) kept (All-cons IsNumbered x [] is (All-nil IsNumbered))) (range-numbered d)) [] items (All-nil IsNumbered))

-- ---- steps

abbrev pub id_of : StepRecord → List ℕ
id_of s = s.id

-- no earlier step has the id
abbrev IsNew : List StepRecord → List ℕ → Type 0
IsNew earlier id = list_any (λ s. bytes_eq s.id id) earlier ≡ false

id-new : (earlier : List StepRecord) (f : Field) (d : Data) → IfOk (new_id_at earlier f d) (IsNew earlier)
unfolding new_id_at
id-new earlier f d = next _ (text_at 1 max_name f d) _ (λ id. unless (IsNew earlier) _ _ id (λ none. none))

required-new : (earlier : List StepRecord) (step : Data) → IfOk (required (new_id_at earlier) field.Id step) (IsNew earlier)
unfolding required
required-new earlier step = next (IsNew earlier) (shaped field.Id (get (name_of field.Id) step)) (new_id_at earlier field.Id) (id-new earlier field.Id)

step-new : (classes : List (List ℕ)) (earlier : List StepRecord) (d : Data) → IfOk (step_at classes earlier d) (λ s. IsNew earlier s.id)
unfolding step_at
step-new classes earlier d =
    next _ (object_at field.Step _ d) _ (λ step. followed (IsNew earlier) _ (required (new_id_at earlier) field.Id step) _ (required-new earlier step) (λ id new.
    next _ (required (chunk_at classes) field.Chunk step) _ (λ chunk. next _ (optional partition_at one_partition field.Partition step) _ (λ spec. new))))

-- the test of the ids, taken the other way round
pub turned : (earlier : List StepRecord) (id : List ℕ) → list_any (bytes_eq id) (map id_of earlier) ≡ list_any (λ s. bytes_eq s.id id) earlier
turned [] id = refl
turned (s ∷ earlier) id = rw (nat_list_eq_equiv.symm id s.id, turned earlier id) refl

more-apart : (done : List StepRecord) (s : StepRecord) → HaveOwnIds done → IsNew done s.id → HaveOwnIds (done ++ s ∷ [])
more-apart done s apart new = rw (map-append id_of done (s ∷ [])) (IsDistinct-push nat_list_eq_equiv (map id_of done) s.id apart (turned done s.id ∙ new))

pub steps-apart : (classes : List (List ℕ)) (items : Items) (steps : List StepRecord) → each_at (step_at classes) items ≡ Ok steps → HaveOwnIds steps
unfolding IsDistinct
steps-apart classes items steps =
    answer-has HaveOwnIds (each_at (step_at classes) items) steps
    (each-keeps HaveOwnIds (step_at classes) (λ done d apart. IfOk-weaker (step_at classes done d) _ _ (λ s new. more-apart done s apart new) (step-new classes done d)) [] items tt)

-- one more step with an id of its own
pub more-own : (steps : List StepRecord) (i : ℕ) (s : StepRecord) → i < length steps → HaveOwnIds (take i steps) → IsNew (take i steps) (get_or steps i s).id → HaveOwnIds (take (i + 1) steps)
more-own steps i s lt own new = rw (take_more steps i s lt) (more-apart (take i steps) (get_or steps i s) own new)

-- a step with the id of an earlier one
pub taken-id : (steps : List StepRecord) (i : ℕ) (s : StepRecord) → i < length steps → list_any (λ e. bytes_eq e.id (get_or steps i s).id) (take i steps) ≡ true → HaveOwnIds steps → ⊥
taken-id steps i s lt taken own =
    let found = Any-from_list_any (λ e. bytes_eq e.id (get_or steps i s).id) (take i steps) taken in
    let k = found.0 in
    let below : k < i = omega (arith, found.2, length-take-le i steps (omega arith)) in
    let there : get_or steps k found.1 ≡ found.1 = sym (get_or-take i steps k found.1 below) ∙ found.3 in
    let apart = apart_from_distinct bytes_eq (map id_of steps) k i s.id own below (omega (arith, length-map steps id_of)) in
    let first : get_or (map id_of steps) k s.id ≡ found.1.id = get_or-map id_of steps k found.1 s.id (omega arith) ∙ ap id_of there in
    let second : get_or (map id_of steps) i s.id ≡ (get_or steps i s).id = get_or-map id_of steps i s s.id lt in
    true≢false (sym found.4 ∙ sym (λ j. bytes_eq (first j) (second j)) ∙ apart)

pub none-own : HaveOwnIds []
unfolding IsDistinct
none-own = tt
