-- The skips of an attempt, record by record.
use Rattle.std.specs.Prelude.{ℕ, ◌≡◌, ◌+◌, List, length, option_to_list, Some}
use Rattle.jb_base.specs.Rules.{RulesRecord}
use Rattle.jb_base.specs.declared.class.ClassId.{ClassId}
use Rattle.jb_chunk.specs.Block.{choice_at}
use Rattle.jb_rules.specs.declared.choice.Choice.TheVariants.{Skip}
use Rattle.jb_rules.specs.declared.row.Row.{Row}
use Rattle.jb_rules.specs.Rows.{skips_of}
use Rattle.jb_records.specs.Artifacts.{record_of}
use Rattle.jb_records.specs.Failures.{AreSkipped}
use Rattle.jb_records.specs.Function.{Function, refusal_of}
use Rattle.jb_records.specs.Skips.{skip_by, skips_between}

-- an attempt at the row's next chunk comes to this record, with so many skips before it
pub record IsReached (f : Function) (rules : RulesRecord) (records : List (List ℕ)) (row : Row) (number skips : ℕ) : Type 0 where
  pub number_of : skips ≡ skips_of row + length (skips_between f records row.at number)
  pub skipped : AreSkipped f rules records row number

-- and goes past it: with one skip more, if it is refused
pub record IsPassed (f : Function) (rules : RulesRecord) (records : List (List ℕ)) (row : Row) (number skips past : ℕ) : Type 0 where
  pub more : past ≡ skips + length (option_to_list (skip_by number (refusal_of f (record_of 0 records number))))
  pub skipped : (class : ClassId) → refusal_of f (record_of 0 records number) ≡ Some class → choice_at rules row class skips ≡ Skip
