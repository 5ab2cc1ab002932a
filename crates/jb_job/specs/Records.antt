-- What contracts see of the parts of a job: plain records, whose ranges the types keep.
use Rattle.std.specs.Prelude.{ℕ, Bool, List, Option}
use Rattle.jb_base.specs.declared.range.Range.{Range}
use Rattle.jb_base.specs.Rules.{RulesRecord}

pub record SpecRecord : Type 0 where
  pub partitions : ℕ
  pub threads : ℕ
  pub replace : Bool
  pub ranges : Option (List Range)

pub record StepRecord : Type 0 where
  pub id : List ℕ
  pub item_count : ℕ
  pub rules : RulesRecord
  pub spec : SpecRecord
