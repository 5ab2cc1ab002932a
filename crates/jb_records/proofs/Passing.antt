-- Faults that pass, one record after another.
use Rattle.std.proofs.Common.{◌≡◌, ℕ, zero, suc, ◌+◌, ◌-◌, ◌≤◌, ◌<◌, ◌++◌, List, [], length, map, Option, None, Some, refl, ap, sym, subst, ◌∙◌, arith}
use Rattle.std.specs.Prelude.{nat_lt, option_to_list}
use Rattle.std.specs.List.{filter_map, range_with_len}
use Rattle.std.proofs.lemmas.List.{append-nil, length-map, map-append}
use Rattle.std.proofs.lemmas.List.Elements.{filter_map-append}
use Rattle.jb_base.specs.Rules.{RulesRecord}
use Rattle.jb_base.specs.declared.class.ClassId.{ClassId}
use Rattle.jb_chunk.specs.Block.{choice_at}
use Rattle.jb_chunk.proofs.SettlingRecord.{numbers-split}
use Rattle.jb_ready.specs.declared.notes.Note.{Note}
use Rattle.jb_rules.specs.declared.choice.Choice.TheVariants.{Fail, Skip}
use Rattle.jb_rules.specs.declared.row.Row.{Row}
use Rattle.jb_slices.specs.Deciding.{FailsDont, SkipsPass}
use Rattle.jb_slices.specs.Function.{Pass}
use Rattle.jb_slices.proofs.Faults.{pass-front, pass-none}
use Rattle.jb_records.specs.Artifacts.{record_of}
use Rattle.jb_records.specs.Following.{classes_between}
use Rattle.jb_records.specs.Function.{Function, refusal_of}
use Rattle.jb_records.specs.Skips.{skip_by, skips_between}
use Rattle.jb_records.proofs.Skipping.{skips-more, skips-none}

class-of : (k : ℕ) (o : Option ClassId) → map (λ (note : Note). note.class) (option_to_list (skip_by k o)) ≡ option_to_list o
class-of k None = refl
class-of k (Some class) = refl

-- one record more
pub classes-more : (f : Function) (records : List (List ℕ)) (lo k : ℕ) → lo ≤ k
    → classes_between f records lo (suc k) ≡ classes_between f records lo k ++ option_to_list (refusal_of f (record_of 0 records k))
classes-more f records lo k le =
    let next : suc k ≡ lo + ((k - lo) + 1) = omega (arith, le) in
    let at : lo + (k - lo) ≡ k = omega (arith, le) in
    ap (classes_between f records lo) next
    ∙ ap (map (λ (note : Note). note.class)) (skips-more f records lo (k - lo))
    ∙ ap (λ n. map (λ (note : Note). note.class) (skips_between f records lo n ++ option_to_list (skip_by n (refusal_of f (record_of 0 records n))))) at
    ∙ map-append (λ (note : Note). note.class) (skips_between f records lo k) (option_to_list (skip_by k (refusal_of f (record_of 0 records k))))
    ∙ ap (λ xs. classes_between f records lo k ++ xs) (class-of k (refusal_of f (record_of 0 records k)))

-- as many as the records that are skipped
pub classes-length : (f : Function) (records : List (List ℕ)) (lo hi : ℕ) → length (classes_between f records lo hi) ≡ length (skips_between f records lo hi)
classes-length f records lo hi = length-map (skips_between f records lo hi) (λ (note : Note). note.class)

-- at first there is none, and they pass
pub first-passes : (f : Function) (rules : RulesRecord) (records : List (List ℕ)) (lo : ℕ) → Pass rules (classes_between f records lo lo)
first-passes f rules records lo = subst (Pass rules) (sym (ap (map (λ (note : Note). note.class)) (skips-none f records lo))) (pass-none rules)

-- those of fewer records pass with those of more
pub fewer-pass : (f : Function) (rules : RulesRecord) (records : List (List ℕ)) (lo at hi : ℕ) → at ≤ hi → Pass rules (classes_between f records lo hi) → Pass rules (classes_between f records lo at)
fewer-pass f rules records lo at hi le pass =
    let g : ℕ → Option Note = λ k. skip_by k (refusal_of f (record_of 0 records k)) in
    let whole : hi - lo ≡ (at - lo) + ((hi - lo) - (at - lo)) = omega (arith, le) in
    let rest = range_with_len (lo + (at - lo)) ((hi - lo) - (at - lo)) in
    let split =
    ap (λ n. map (λ (note : Note). note.class) (filter_map g (range_with_len lo n))) whole
    ∙ ap (λ ns. map (λ (note : Note). note.class) (filter_map g ns)) (numbers-split lo (at - lo) ((hi - lo) - (at - lo)))
    ∙ ap (map (λ (note : Note). note.class)) (filter_map-append g (range_with_len lo (at - lo)) rest)
    ∙ map-append (λ (note : Note). note.class) (skips_between f records lo at) (filter_map g rest) in
    pass-front rules (classes_between f records lo at) (map (λ (note : Note). note.class) (filter_map g rest)) (subst (Pass rules) split pass)

-- ---- ONE RECORD

-- a record that is skipped, if it is refused, passes with those before it
one-passed : SkipsPass → (rules : RulesRecord) (row : Row) (before : List ClassId) (o : Option ClassId) → Pass rules before
    → ((class : ClassId) → o ≡ Some class → choice_at rules row class (length before) ≡ Skip) → Pass rules (before ++ option_to_list o)
one-passed law rules row before None pass skipped = subst (Pass rules) (sym (append-nil before)) pass
one-passed law rules row before (Some class) pass skipped = law rules class (nat_lt row.at row.redo) row.retries before pass (skipped class refl)

pub record-passes : SkipsPass → (f : Function) (rules : RulesRecord) (records : List (List ℕ)) (row : Row) (lo k : ℕ) → lo ≤ k → Pass rules (classes_between f records lo k)
    → ((class : ClassId) → refusal_of f (record_of 0 records k) ≡ Some class → choice_at rules row class (length (classes_between f records lo k)) ≡ Skip)
    → Pass rules (classes_between f records lo (suc k))
record-passes law f rules records row lo k le pass skipped =
    subst (Pass rules) (sym (classes-more f records lo k le)) (one-passed law rules row (classes_between f records lo k) (refusal_of f (record_of 0 records k)) pass skipped)

-- many of them
pub records-pass : SkipsPass → (f : Function) (rules : RulesRecord) (records : List (List ℕ)) (row : Row) (lo at n : ℕ) → lo ≤ at → Pass rules (classes_between f records lo at)
    → ((k : ℕ) (class : ClassId) → at ≤ k → k < at + n → refusal_of f (record_of 0 records k) ≡ Some class → choice_at rules row class (length (classes_between f records lo k)) ≡ Skip)
    → Pass rules (classes_between f records lo (at + n))
records-pass law f rules records row lo at zero le pass skipped = let e : at ≡ at + 0 = omega arith in subst (λ m. Pass rules (classes_between f records lo m)) e pass
records-pass law f rules records row lo at (suc n) le pass skipped =
    let e : suc (at + n) ≡ at + suc n = omega arith in
    let before = records-pass law f rules records row lo at n le pass (λ k class from to. skipped k class from (omega (arith, to))) in
    subst (λ m. Pass rules (classes_between f records lo m)) e
    (record-passes law f rules records row lo (at + n) (omega (arith, le)) before (λ class. skipped (at + n) class (omega arith) (omega arith)))

-- a record by which a partition fails doesn't pass
pub record-fails : FailsDont → (f : Function) (rules : RulesRecord) (records : List (List ℕ)) (row : Row) (lo k : ℕ) (class : ClassId) → lo ≤ k → refusal_of f (record_of 0 records k) ≡ Some class
    → choice_at rules row class (length (classes_between f records lo k)) ≡ Fail → Pass rules (classes_between f records lo (suc k)) → ⊥
record-fails law f rules records row lo k class le refused fails pass =
    law rules class (nat_lt row.at row.redo) row.retries (classes_between f records lo k) [] fails
    (subst (Pass rules) (classes-more f records lo k le ∙ ap (λ o. classes_between f records lo k ++ option_to_list o) refused) pass)
