-- By which record a partition fails.
use Rattle.std.proofs.Common.{◌≡◌, ℕ, zero, suc, ◌+◌, ◌-◌, ◌≤◌, ◌<◌, ◌++◌, List, [], ◌∷◌, length, map, Option, None, Some, ap, sym, subst, ◌∙◌, arith}
use Rattle.std.specs.Prelude.{true, option_to_list, max, min}
use Rattle.std.specs.List.{cons_option, filter_map, range_with_len}
use Rattle.std.proofs.lemmas.List.{append-nil, length-append}
use Rattle.jb_base.specs.Rules.{RulesRecord}
use Rattle.jb_base.specs.declared.class.ClassId.{ClassId}
use Rattle.jb_ready.specs.declared.notes.Note.{Note}
use Rattle.jb_rules.specs.Decide.{choice_of}
use Rattle.jb_rules.specs.declared.choice.Choice.TheVariants.{Fail, Skip}
use Rattle.jb_rules.specs.Rows.{range_of}
use Rattle.jb_rules.specs.declared.row.Row.{Row}
use Rattle.jb_slices.specs.Deciding.{FailsDont, SkipsPass}
use Rattle.jb_slices.specs.Function.{Pass}
use Rattle.jb_records.specs.Artifacts.{record_of}
use Rattle.jb_records.specs.Following.{FollowsRules, IsStop, RangePasses, classes_between}
use Rattle.jb_records.specs.Function.{Function, refusal_of}
use Rattle.jb_records.specs.Skips.{skip_by, skips_between}
use Rattle.jb_records.proofs.Passing.{classes-length, classes-more, fewer-pass}

-- the faults of the records before this one pass, and are so many
pub record HavePassed (f : Function) (rules : RulesRecord) (records : List (List ℕ)) (row : Row) (number skips : ℕ) : Type 0 where
  pub passed : Pass rules (classes_between f records row.lo number)
  pub number_of : skips ≡ length (classes_between f records row.lo number)

-- no more than the records
one-few : (o : Option Note) (xs : List Note) (n : ℕ) → length xs ≤ n → length (cons_option o xs) ≤ suc n
one-few None xs n few = omega (arith, few)
one-few (Some note) xs n few = omega (arith, few)

few-of : (g : ℕ → Option Note) (n lo : ℕ) → length (filter_map g (range_with_len lo n)) ≤ n
few-of g zero lo = omega arith
few-of g (suc n) lo = one-few (g lo) (filter_map g (range_with_len (lo + 1) n)) n (few-of g n (lo + 1))

pub classes-few : (f : Function) (records : List (List ℕ)) (lo hi : ℕ) → length (classes_between f records lo hi) ≤ hi - lo
classes-few f records lo hi =
    let few = few-of (λ k. skip_by k (refusal_of f (record_of 0 records k))) (hi - lo) lo in
    let same = classes-length f records lo hi in
    omega (arith, few, same)

module _ (f : Function) (rules : RulesRecord) (records : List (List ℕ)) (row : Row) where
  -- the row begins so
  pub have-begun : (from skips : ℕ) → from ≡ max row.at row.lo → skips ≡ row.counts.process_skip → FollowsRules f rules records row → HavePassed f rules records row from skips
  have-begun from skips is counted follows =
      let same : from - row.lo ≡ row.at - row.lo = omega (arith, is) in
      let own : skips_between f records row.lo from ≡ skips_between f records row.lo row.at =
      ap (λ n. filter_map (λ k. skip_by k (refusal_of f (record_of 0 records k))) (range_with_len row.lo n)) same in
      record {
        passed = subst (λ (notes : List Note). Pass rules (map (λ (note : Note). note.class) notes)) (sym own) follows.passed;
        number_of = counted ∙ follows.counted ∙ ap length (sym own) ∙ sym (classes-length f records row.lo from);
      }

  -- a record that isn't refused passes
  pub none-more : (number skips : ℕ) → row.lo ≤ number → refusal_of f (record_of 0 records number) ≡ None → HavePassed f rules records row number skips → HavePassed f rules records row (suc number) skips
  none-more number skips le none have =
      let same = classes-more f records row.lo number le ∙ ap (λ o. classes_between f records row.lo number ++ option_to_list o) none ∙ append-nil (classes_between f records row.lo number) in
      record {
        passed = subst (Pass rules) (sym same) have.passed;
        number_of = have.number_of ∙ ap length (sym same);
      }

  one-more : (number : ℕ) (class : ClassId) → row.lo ≤ number → refusal_of f (record_of 0 records number) ≡ Some class → classes_between f records row.lo (suc number) ≡ classes_between f records row.lo number ++ class ∷ []
  one-more number class le refused = classes-more f records row.lo number le ∙ ap (λ o. classes_between f records row.lo number ++ option_to_list o) refused

  -- one that is skipped does
  pub skip-more : SkipsPass → (number skips most more : ℕ) (class : ClassId) → row.lo ≤ number → number < most → refusal_of f (record_of 0 records number) ≡ Some class → choice_of rules class true skips rules.retry_limit ≡ Skip
      → more ≡ min (skips + 1) most → HavePassed f rules records row number skips → HavePassed f rules records row (suc number) more
  skip-more law number skips most more class le below refused skip next have =
      let few = classes-few f records row.lo number in
      let same = one-more number class le refused in
      let long = length-append (classes_between f records row.lo number) (class ∷ []) in
      let before = have.number_of in
      record {
        passed = subst (Pass rules) (sym same)
            (law rules class true rules.retry_limit (classes_between f records row.lo number) have.passed (subst (λ n. choice_of rules class true n rules.retry_limit ≡ Skip) have.number_of skip));
        number_of = (let sum : more ≡ length (classes_between f records row.lo number ++ class ∷ []) = omega (arith, next, before, long, few, below) in sum) ∙ ap length (sym same);
      }

  -- and one that isn't stops it
  pub stops-at : FailsDont → (number skips : ℕ) (class : ClassId) → row.at ≤ number → row.lo ≤ number → number < row.hi → refusal_of f (record_of 0 records number) ≡ Some class
      → choice_of rules class true skips rules.retry_limit ≡ Fail → HavePassed f rules records row number skips → IsStop f rules records row (record { number = number; class = class })
  stops-at law number skips class from le to refused fails have = record {
    from = from;
    to = to;
    refused = refused;
    passed = have.passed;
    fails = λ pass. law rules class true rules.retry_limit (classes_between f records row.lo number) [] (subst (λ n. choice_of rules class true n rules.retry_limit ≡ Fail) have.number_of fails)
        (subst (Pass rules) (one-more number class le refused) pass);
  }

  -- where none stops it, all pass
  pub all-passed : (number skips : ℕ) → row.hi ≤ number → HavePassed f rules records row number skips → RangePasses f rules records (range_of row)
  all-passed number skips le have = fewer-pass f rules records row.lo row.hi number le have.passed
