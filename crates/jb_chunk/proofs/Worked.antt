-- The worked rows, computed.
use Rattle.std.proofs.Common.{◌≡◌, ℕ, zero, suc, Bool, true, false, cond, List, [], ◌∷◌, refl, lit≤, length, ◌≤◌}
use Rattle.std.specs.Prelude.{codes}
use Rattle.std.specs.Fmt.{digits}
use Rattle.jb_plan.specs.Blocks.{blocks}
use Rattle.jb_rules.specs.declared.row.RowState.{RowState}
use Rattle.jb_rules.specs.declared.row.RowState.TheVariants.{Waiting, Running, Finished, Failed}
use Rattle.jb_artifacts.specs.Faults.{used_at}
use Rattle.jb_rules.specs.States.{is_waiting, has_ended}
use Rattle.jb_chunk.specs.Alone.{IsRunOf, attempts_left}
use Rattle.jb_chunk.specs.Attempt.{AttemptEnd, attempt_of, end_of, asks_repeat, repeated_up_to, all_repeated, artifacts_used}
use Rattle.jb_chunk.specs.Block.{entry, results, count_of, settles, settling, used_between}
use Rattle.jb_chunk.specs.Plain.{plain_answers}
use Rattle.jb_chunk.specs.TaskState.{TaskState}
use Rattle.jb_chunk.specs.Worked.{FirstRunAlone, EverythingFiltered, NoRecordAlone, RetryToSingles, SkipInRedo, OneFailedAlone, TornWrite, WriteRetried, WriteFailed, ShakyWrite, RetryLimit, ReadSkip, SkippedBeforeWrite, RolledBackSkip, Repeat, RepeatLimit, RepeatedWrite, RepeatedAndRolled, RepeatedThenSkipped, SkippedAndRepeated, SkippedInRedo, RepeatedReads, AllSeen, PlainRuns, RunsTo, numbers, texts_in, filtered_task, first_task, second_task, recordless_task, retried_task, skipped_task, failed_task, beside_failed_task, torn_task, rewritten_task, unwritable_task, shaky_writes_task, retried_out_task, read_skipped_task, skipped_and_unwritable_task, rolled_back_task, repeated_task, repeated_out_task, repeated_write_task, repeated_and_rolled_task, repeated_then_skipped_task, skipped_and_repeated_task, skipped_in_redo_task, repeated_reads_task, seen_task}

-- the first `n` attempts, while the task waits, and where they lead
unfoldable attempts : ℕ → TaskState → List AttemptEnd
attempts zero t = []
attempts (suc n) t = cond (is_waiting t.row.state) (attempt_of t ∷ attempts n (attempt_of t).task) []

unfoldable place : ℕ → TaskState → TaskState
place zero t = t
place (suc n) t = cond (is_waiting t.row.state) (place n (attempt_of t).task) t

waits : (s : RowState) → is_waiting s ≡ true → s ≡ Waiting
waits Waiting e = refl
waits (Running lane) e = cc
waits Finished e = cc
waits Failed e = cc

one-more : (b : Bool) (n : ℕ) (t : TaskState) → is_waiting t.row.state ≡ b → IsRunOf (attempt_of t).task (attempts n (attempt_of t).task) (place n (attempt_of t).task)
    → IsRunOf t (cond b (attempt_of t ∷ attempts n (attempt_of t).task) []) (cond b (place n (attempt_of t).task) t)
one-more true n t e run = (waits t.row.state e, refl, run)
one-more false n t e run = refl

run-of : (n : ℕ) (t : TaskState) → IsRunOf t (attempts n t) (place n t)
unfolding attempts place
run-of zero t = refl
run-of (suc n) t = one-more (is_waiting t.row.state) n t refl (run-of n (attempt_of t).task)

-- a task whose first `n` attempts end it
runs_to : (t : TaskState) (n : ℕ) {row : List ℕ} {end : RowState} {written collected : List (List ℕ)} → has_ended (place n t).row.state ≡ true → length (attempts n t) ≤ attempts_left t
    → numbers (place n t).row ≡ row → (place n t).row.state ≡ end → (place n t).artifacts.writer.written ≡ written → texts_in (attempts n t) ≡ collected → RunsTo t row end written collected
runs_to t n ended few row state outputs texts = record {
  last = place n t;
  alone = record { attempts = attempts n t; run = run-of n t; ended = ended; few = few };
  row = row;
  state = state;
  outputs = outputs;
  texts = texts;
}

first_runs : RunsTo first_task (2 ∷ 0 ∷ 0 ∷ 2 ∷ 2 ∷ 2 ∷ 1 ∷ 0 ∷ 0 ∷ 0 ∷ 0 ∷ 0 ∷ 0 ∷ []) Finished (codes "xa" ∷ codes "xb" ∷ []) (codes "0:2:2" ∷ codes "0:2:2:end" ∷ [])
unfolding attempts place end_of asks_repeat repeated_up_to all_repeated settling settles entry results count_of artifacts_used used_between used_at digits blocks
first_runs = runs_to first_task 1 refl (lit≤ tt) refl refl refl refl

second_runs : RunsTo second_task (3 ∷ 2 ∷ 0 ∷ 1 ∷ 1 ∷ 1 ∷ 1 ∷ 0 ∷ 0 ∷ 0 ∷ 0 ∷ 0 ∷ 0 ∷ []) Finished (codes "xc" ∷ []) (codes "1:3:1" ∷ codes "1:3:1:end" ∷ [])
unfolding attempts place end_of asks_repeat repeated_up_to all_repeated settling settles entry results count_of artifacts_used used_between used_at digits blocks
second_runs = runs_to second_task 1 refl (lit≤ tt) refl refl refl refl

pub first_run : FirstRunAlone
first_run = record { first = first_runs; second = second_runs }

pub everything_filtered : EverythingFiltered
unfolding attempts place end_of asks_repeat repeated_up_to all_repeated settling settles entry results count_of artifacts_used used_between used_at digits blocks
everything_filtered = runs_to filtered_task 1 refl (lit≤ tt) refl refl refl refl

pub no_record : NoRecordAlone
unfolding attempts place end_of asks_repeat repeated_up_to all_repeated settling settles entry results count_of artifacts_used used_between used_at digits blocks
no_record = runs_to recordless_task 0 refl (lit≤ tt) refl refl refl refl

pub retry_to_singles : RetryToSingles
unfolding attempts place end_of asks_repeat repeated_up_to all_repeated settling settles entry results count_of artifacts_used used_between used_at digits blocks
retry_to_singles = runs_to retried_task 5 refl (lit≤ tt) refl refl refl refl

pub skip_in_redo : SkipInRedo
unfolding attempts place end_of asks_repeat repeated_up_to all_repeated settling settles entry results count_of artifacts_used used_between used_at digits blocks
skip_in_redo = runs_to skipped_task 4 refl (lit≤ tt) refl refl refl refl

pub torn_write : TornWrite
unfolding attempts place end_of asks_repeat repeated_up_to all_repeated settling settles entry results count_of artifacts_used used_between used_at digits blocks
torn_write = runs_to torn_task 1 refl (lit≤ tt) refl refl refl refl

pub write_retried : WriteRetried
unfolding attempts place end_of asks_repeat repeated_up_to all_repeated settling settles entry results count_of artifacts_used used_between used_at digits blocks
write_retried = runs_to rewritten_task 4 refl (lit≤ tt) refl refl refl refl

pub write_failed : WriteFailed
unfolding attempts place end_of asks_repeat repeated_up_to all_repeated settling settles entry results count_of artifacts_used used_between used_at digits blocks
write_failed = runs_to unwritable_task 2 refl (lit≤ tt) refl refl refl refl

pub shaky_write : ShakyWrite
unfolding attempts place end_of asks_repeat repeated_up_to all_repeated settling settles entry results count_of artifacts_used used_between used_at digits blocks
shaky_write = runs_to shaky_writes_task 4 refl (lit≤ tt) refl refl refl refl

pub retry_limit : RetryLimit
unfolding attempts place end_of asks_repeat repeated_up_to all_repeated settling settles entry results count_of artifacts_used used_between used_at digits blocks
retry_limit = runs_to retried_out_task 3 refl (lit≤ tt) refl refl refl refl

pub read_skip : ReadSkip
unfolding attempts place end_of asks_repeat repeated_up_to all_repeated settling settles entry results count_of artifacts_used used_between used_at digits blocks
read_skip = runs_to read_skipped_task 2 refl (lit≤ tt) refl refl refl refl

pub skipped_before_write : SkippedBeforeWrite
unfolding attempts place end_of asks_repeat repeated_up_to all_repeated settling settles entry results count_of artifacts_used used_between used_at digits blocks
skipped_before_write = runs_to skipped_and_unwritable_task 1 refl (lit≤ tt) refl refl refl refl

pub rolled_back_skip : RolledBackSkip
unfolding attempts place end_of asks_repeat repeated_up_to all_repeated settling settles entry results count_of artifacts_used used_between used_at digits blocks
rolled_back_skip = runs_to rolled_back_task 4 refl (lit≤ tt) refl refl refl refl

fails : RunsTo failed_task (2 ∷ 0 ∷ 0 ∷ 1 ∷ 2 ∷ 1 ∷ 1 ∷ 1 ∷ 0 ∷ 1 ∷ 0 ∷ 0 ∷ 0 ∷ []) Failed (codes "xb" ∷ []) (codes "0:2:1" ∷ [])
unfolding attempts place end_of asks_repeat repeated_up_to all_repeated settling settles entry results count_of artifacts_used used_between used_at digits blocks
fails = runs_to failed_task 2 refl (lit≤ tt) refl refl refl refl

goes_on : RunsTo beside_failed_task (6 ∷ 4 ∷ 0 ∷ 2 ∷ 2 ∷ 2 ∷ 1 ∷ 0 ∷ 0 ∷ 0 ∷ 0 ∷ 0 ∷ 0 ∷ []) Finished (codes "xe" ∷ codes "xf" ∷ []) (codes "1:6:2" ∷ codes "1:6:2:end" ∷ [])
unfolding attempts place end_of asks_repeat repeated_up_to all_repeated settling settles entry results count_of artifacts_used used_between used_at digits blocks
goes_on = runs_to beside_failed_task 1 refl (lit≤ tt) refl refl refl refl

pub one_failed : OneFailedAlone
one_failed = record { failed = fails; finished = goes_on }

pub repeat : Repeat
unfolding attempts place end_of asks_repeat repeated_up_to all_repeated settling settles entry results count_of artifacts_used used_between used_at digits blocks
repeat = runs_to repeated_task 1 refl (lit≤ tt) refl refl refl refl

pub repeat_limit : RepeatLimit
unfolding attempts place end_of asks_repeat repeated_up_to all_repeated settling settles entry results count_of artifacts_used used_between used_at digits blocks
repeat_limit = runs_to repeated_out_task 1 refl (lit≤ tt) refl refl refl refl

pub repeated_write : RepeatedWrite
unfolding attempts place end_of asks_repeat repeated_up_to all_repeated settling settles entry results count_of artifacts_used used_between used_at digits blocks
repeated_write = runs_to repeated_write_task 1 refl (lit≤ tt) refl refl refl refl

pub repeated_and_rolled : RepeatedAndRolled
unfolding attempts place end_of asks_repeat repeated_up_to all_repeated settling settles entry results count_of artifacts_used used_between used_at digits blocks
repeated_and_rolled = runs_to repeated_and_rolled_task 3 refl (lit≤ tt) refl refl refl refl

pub repeated_then_skipped : RepeatedThenSkipped
unfolding attempts place end_of asks_repeat repeated_up_to all_repeated settling settles entry results count_of artifacts_used used_between used_at digits blocks
repeated_then_skipped = runs_to repeated_then_skipped_task 2 refl (lit≤ tt) refl refl refl refl

pub skipped_and_repeated : SkippedAndRepeated
unfolding attempts place end_of asks_repeat repeated_up_to all_repeated settling settles entry results count_of artifacts_used used_between used_at digits blocks
skipped_and_repeated = runs_to skipped_and_repeated_task 2 refl (lit≤ tt) refl refl refl refl

pub skipped_in_redo : SkippedInRedo
unfolding attempts place end_of asks_repeat repeated_up_to all_repeated settling settles entry results count_of artifacts_used used_between used_at digits blocks
skipped_in_redo = runs_to skipped_in_redo_task 3 refl (lit≤ tt) refl refl refl refl

pub repeated_reads : RepeatedReads
unfolding attempts place end_of asks_repeat repeated_up_to all_repeated settling settles entry results count_of artifacts_used used_between used_at digits blocks
repeated_reads = runs_to repeated_reads_task 1 refl (lit≤ tt) refl refl refl refl

pub all_seen : AllSeen
unfolding attempts place end_of asks_repeat repeated_up_to all_repeated settling settles entry results count_of artifacts_used used_between used_at digits blocks
all_seen = runs_to seen_task 2 refl (lit≤ tt) refl refl refl refl

pub plain_runs : PlainRuns
unfolding plain_answers blocks
plain_runs = record { counts = refl; outputs = refl; filtered = refl; nothing = refl }
