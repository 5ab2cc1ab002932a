-- Attempts where no class is to roll nothing back.
use Rattle.std.specs.Prelude.{◌^◌, ◌%◌, ◌==◌, ◌&&◌, nat_lt}
use Rattle.std.proofs.Common.{◌≡◌, ℕ, ◌-◌, Bool, true, false, Option, Some, None, refl, ap, ◌∙◌, arith}
use Rattle.std.proofs.Math.Nat.{zero-div}
use Rattle.jb_base.specs.declared.class.ClassId.{ClassId}
use Rattle.jb_base.specs.Rules.{RulesRecord}
use Rattle.jb_rules.specs.declared.row.Row.{Row}
use Rattle.jb_rules.specs.Decide.{has_class}
use Rattle.jb_chunk.specs.declared.outcome.Outcome.{Outcome}
use Rattle.jb_chunk.specs.declared.outcome.Outcome.TheVariants.{Committed, Rolled, Failed, NoMemory}
use Rattle.jb_chunk.specs.Attempt.{AttemptEnd, IsAttemptBy, fault_at, skips_at, settled_at, asks_repeat, attempt_of, block_of, ending_by, end_of, row_after}
use Rattle.jb_chunk.specs.Block.{repeats, is_again}
use Rattle.jb_chunk.specs.Laws.{AttemptsWithoutRepeats, RepeatsStay}
use Rattle.jb_chunk.specs.TaskState.{TaskState}
use Rattle.jb_chunk.proofs.ChunkRepeats.{choice_by, can_skip, after_repeats-last}

no-class : (class : ClassId) → has_class 0 class ≡ false
no-class class = ap (λ n. n % 2 == 1) (zero-div (2 ^ class.number))

retry-once : (retrying skip opened : Bool) → is_again (choice_by false retrying skip opened) ≡ false
retry-once true true opened = refl
retry-once false true true = refl
retry-once false true false = refl
retry-once retrying false true = refl
retry-once retrying false false = refl

repeats-none : (rules : RulesRecord) (row : Row) (fault : Option ClassId) (skips : ℕ) → rules.no_rollback ≡ 0 → repeats rules row fault skips ≡ false
repeats-none rules row None skips none = refl
repeats-none rules row (Some class) skips none =
    let skip = can_skip rules class skips in
    let opened = has_class rules.retryable class && nat_lt row.retries rules.retry_limit in
    ap (λ b. is_again (choice_by b (nat_lt row.at row.redo) skip opened)) (ap (λ n. has_class n class) none ∙ no-class class)
    ∙ retry-once (nat_lt row.at row.redo) skip opened

asks-none : (t : TaskState) → t.rules.no_rollback ≡ 0 → asks_repeat t ≡ false
unfolding asks_repeat
asks-none t none = repeats-none t.rules t.row (fault_at t (settled_at t)) (skips_at t (settled_at t)) none

pub attempts-without-repeats : AttemptsWithoutRepeats
attempts-without-repeats t none =
    let same = ap (λ (v : TaskState). record t { row = v.row; artifacts = v.artifacts }) (after_repeats-last t (asks-none t none)) in
    let no : t.row.in_place - t.row.in_place ≡ 0 = omega arith in
    ap (λ (s : TaskState). ending_by s (s.row.in_place - t.row.in_place) (end_of s)) same
    ∙ ap (λ n. ending_by t n (end_of t)) no

-- no end changes the row's number of repeats
pub in_place-kept : (row : Row) (hi : ℕ) (e : Outcome) → (row_after row hi e).in_place ≡ row.in_place
in_place-kept row hi (Committed delta) = refl
in_place-kept row hi (Rolled class) = refl
in_place-kept row hi (Failed class) = refl
in_place-kept row hi NoMemory = refl

attempted-none : (t : TaskState) (e : AttemptEnd) → t.rules.no_rollback ≡ 0 → e ≡ attempt_of t → (e.again ≡ 0) × (e.task.row.in_place ≡ t.row.in_place)
attempted-none t e none is =
    let whole = is ∙ attempts-without-repeats t none in
    (ap (λ (x : AttemptEnd). x.again) whole, ap (λ (x : AttemptEnd). x.task.row.in_place) whole ∙ in_place-kept t.row (block_of t).hi (end_of t))

stays-by : (t : TaskState) (e : AttemptEnd) (o : Outcome) → t.rules.no_rollback ≡ 0 → IsAttemptBy o t e → (e.again ≡ 0) × (e.task.row.in_place ≡ t.row.in_place)
stays-by t e (Committed delta) none is = attempted-none t e none is
stays-by t e (Rolled class) none is = attempted-none t e none is
stays-by t e (Failed class) none is = attempted-none t e none is
stays-by t e NoMemory none is = (is.1, ap (λ (s : TaskState). s.row.in_place) is.2.task)

pub repeats-stay : RepeatsStay
repeats-stay t e none is = stays-by t e e.outcome none is
