-- What contracts see of the rules of skipping and retrying: a plain record. The type keeps its values in range.
use Rattle.std.specs.Prelude.{ℕ, Option}

pub record RulesRecord : Type 0 where
  pub skippable : ℕ
  pub retryable : ℕ
  pub no_rollback : ℕ
  pub skip_limit : Option ℕ
  pub retry_limit : ℕ
