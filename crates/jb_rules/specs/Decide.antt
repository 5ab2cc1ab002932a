-- What becomes of a fault.
use Rattle.std.specs.Prelude.{ℕ, ◌/◌, ◌%◌, ◌^◌, ◌==◌, Bool, true, ◌&&◌, ◌||◌, not, nat_lt, if◌then◌else◌, Option, Some, None}
use Rattle.jb_base.specs.declared.class.ClassId.{ClassId}
use Rattle.jb_base.specs.Rules.{RulesRecord}
use Rattle.jb_rules.specs.declared.choice.Choice.{Choice}
use Rattle.jb_rules.specs.declared.choice.Choice.TheVariants.{Skip, Retry, Again, Fail}

-- a set of classes has one bit for each class
abbrev pub has_class : (classes : ℕ) → ClassId → Bool
has_class classes class = (classes / 2 ^ class.number) % 2 == 1

-- so many are below the limit, or there is no limit
abbrev pub is_below : Option ℕ → ℕ → Bool
is_below None used = true
is_below (Some limit) used = nat_lt used limit

-- A first attempt retries before it skips, a repeated one skips before it retries. What can do neither fails (Jakarta
-- Batch 2.1, "Retry and Skip the Same Exception"). A retry rolls the chunk back, except for a class that is to roll
-- nothing back: then the failed call is repeated in place (Jakarta Batch 2.1, "Preventing Rollback During Retry").
abbrev pub choice_of : RulesRecord → ClassId → (retrying : Bool) → (skips retries : ℕ) → Choice
choice_of rules class retrying skips retries =
    let can_skip = has_class rules.skippable class && is_below rules.skip_limit skips in
    let can_retry = has_class rules.retryable class && nat_lt retries rules.retry_limit in
    if can_skip && (retrying || not can_retry) then Skip
    else (if not can_retry then Fail else (if has_class rules.no_rollback class then Again else Retry))
