-- The skips of an attempt, one record after another.
use Rattle.std.proofs.Common.{◌≡◌, ℕ, ◌+◌, ◌<◌, ◌≤◌, ◌⊎◌, inl, inr, List, length, Some, option_to_list, ap, sym, ◌∙◌, subst, add_assoc, eq-or-lt_of_le, arith}
use Rattle.std.proofs.lemmas.List.{length-append}
use Rattle.jb_base.specs.Rules.{RulesRecord}
use Rattle.jb_base.specs.declared.class.ClassId.{ClassId}
use Rattle.jb_chunk.specs.Block.{choice_at}
use Rattle.jb_rules.specs.declared.choice.Choice.TheVariants.{Skip}
use Rattle.jb_rules.specs.declared.row.Row.{Row}
use Rattle.jb_rules.specs.Rows.{skips_of}
use Rattle.jb_records.specs.Artifacts.{record_of}
use Rattle.jb_records.specs.Failures.{choice_for}
use Rattle.jb_records.specs.Function.{Function, refusal_of}
use Rattle.jb_records.specs.Skips.{skip_by, skips_between}
use Rattle.jb_records.specs.inside.Attempts.{IsPassed, IsReached}
use Rattle.jb_records.proofs.Skipping.{skips-more}

-- as many as before, and that of this record
number-on : (f : Function) (records : List (List ℕ)) (lo i base skips past : ℕ) → skips ≡ base + length (skips_between f records lo (lo + i))
    → past ≡ skips + length (option_to_list (skip_by (lo + i) (refusal_of f (record_of 0 records (lo + i))))) → past ≡ base + length (skips_between f records lo (lo + (i + 1)))
number-on f records lo i base skips past is more =
    let one = option_to_list (skip_by (lo + i) (refusal_of f (record_of 0 records (lo + i)))) in
    let before = skips_between f records lo (lo + i) in
    more
    ∙ ap (λ n. n + length one) is
    ∙ add_assoc base (length before) (length one)
    ∙ ap (λ n. base + n) (sym (length-append before one))
    ∙ ap (λ xs. base + length xs) (sym (skips-more f records lo i))

-- those before are skipped, and this one
skipped-on : (f : Function) (own : RulesRecord) (records : List (List ℕ)) (row : Row) (number skips past k : ℕ) (class : ClassId)
    → IsReached f own records row number skips → IsPassed f own records row number skips past
    → (k ≡ number) ⊎ (k < number) → row.at ≤ k → refusal_of f (record_of 0 records k) ≡ Some class → choice_for f own records row k class ≡ Skip
skipped-on f own records row number skips past k class reached passed (inr below) from refused = reached.skipped k class from below refused
skipped-on f own records row number skips past k class reached passed (inl last) from refused =
    subst (λ n. refusal_of f (record_of 0 records n) ≡ Some class → choice_for f own records row n class ≡ Skip) (sym last)
    (λ said. subst (λ n. choice_at own row class n ≡ Skip) reached.number_of (passed.skipped class said)) refused

pub reached-on : (f : Function) (own : RulesRecord) (records : List (List ℕ)) (row : Row) (i skips past : ℕ)
    → IsReached f own records row (row.at + i) skips → IsPassed f own records row (row.at + i) skips past → IsReached f own records row (row.at + (i + 1)) past
reached-on f own records row i skips past reached passed = record {
  number_of = number-on f records row.at i (skips_of row) skips past reached.number_of passed.more;
  skipped = λ k class from to refused.
      let upto : k ≤ row.at + i = omega (arith, to) in
      skipped-on f own records row (row.at + i) skips past k class reached passed (eq-or-lt_of_le upto) from refused;
}
