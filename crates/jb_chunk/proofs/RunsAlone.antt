-- A task that runs alone.
use Rattle.std.proofs.Common.{◌≡◌, ℕ, ◌+◌, ◌-◌, ◌≤◌, ◌<◌, ◌⊎◌, inl, inr, Bool, true, false, cond, List, [], ◌∷◌, ◌++◌, length, length-append, Option, Some, None, refl, ap, sym, ◌∙◌, subst, arith}
use Rattle.std.specs.Prelude.{nat_lt, ◌==◌}
use Rattle.std.proofs.lemmas.Bool.Decides.{nat_tests}
use Rattle.std.proofs.Math.Nat.{eq-or-lt_of_le}
use Rattle.jb_base.specs.declared.class.ClassId.{ClassId}
use Rattle.jb_base.specs.Limits.{max_retry_limit, max_rollbacks, max_in_place}
use Rattle.jb_plan.specs.Blocks.{ChunksFollow}
use Rattle.jb_rules.specs.declared.counts.Counts.{Counts}
use Rattle.jb_rules.specs.declared.row.Row.{Row}
use Rattle.jb_rules.specs.declared.row.RowState.{RowState}
use Rattle.jb_rules.specs.declared.row.RowState.TheVariants as state
use Rattle.jb_rules.specs.Decide.{has_class}
use Rattle.jb_rules.specs.States.{has_ended}
use Rattle.jb_rules.specs.Rows.{row_block, state_at}
use Rattle.jb_rules.specs.Sound.{IsSoundRow}
use Rattle.jb_chunk.specs.declared.outcome.Outcome.{Outcome}
use Rattle.jb_chunk.specs.declared.outcome.Outcome.TheVariants.{Committed, Rolled, Failed}
use Rattle.jb_chunk.specs.Alone.{IsRunOf, IsAlone, IsBroken, retries_left, attempts_left}
use Rattle.jb_chunk.specs.Attempt.{AttemptEnd, after_repeats, block_of, again_of, counts_of, fault_at, skips_at, end_by, end_of, end_at, settled_at, attempt_of, ending_by, ending_of, IsUnfinished}
use Rattle.jb_chunk.specs.inside.TriedChunk.{HasDelta}
use Rattle.jb_chunk.proofs.AddedCounts.{end-added}
use Rattle.jb_chunk.proofs.AfterRepeats.{after_repeats-row, after_repeats-left, after_repeats-in_place, repeats-count}
use Rattle.jb_chunk.proofs.ChunkRepeats.{choice_by, can_skip, opened-below}
use Rattle.jb_chunk.specs.TaskState.{TaskState, IsReady, HasItemCount, HasRepeats}

-- a chunk is rolled back only where a retry is left
rolled-open : (again retrying skip opened : Bool) (skipped : Counts) (k class : ClassId) → end_by skipped k (choice_by again retrying skip opened) ≡ Rolled class → opened ≡ true
rolled-open again retrying skip true skipped k class e = refl
rolled-open again retrying false false skipped k class e = cc
rolled-open again true true false skipped k class e = cc
rolled-open again false true false skipped k class e = cc

end-below : (t : TaskState) (fault : Option ClassId) (skips : ℕ) (class : ClassId) → end_at t fault skips ≡ Rolled class → t.row.retries < t.rules.retry_limit
end-below t None skips class e = cc
end-below t (Some k) skips class e =
    opened-below (has_class t.rules.retryable k) t.row.retries t.rules.retry_limit
    (rolled-open (has_class t.rules.no_rollback k) (nat_lt t.row.at t.row.redo) (can_skip t.rules k skips) _ (counts_of t 0 1) k class e)

pub rolled-below : (t : TaskState) (class : ClassId) → end_of t ≡ Rolled class → t.row.retries < t.rules.retry_limit
unfolding end_of
rolled-below t class e = end-below t (fault_at t (settled_at t)) (skips_at t (settled_at t)) class e

-- a block has a record, and none beyond the range
pub block-in : ChunksFollow → (t : TaskState) → t.row.at < t.row.hi → t.row.redo ≤ t.row.hi → HasItemCount t.item_count → (t.row.at < (block_of t).hi) × ((block_of t).hi ≤ t.row.hi)
block-in law t lt redo c = let next = law.next t.row.at t.row.redo t.row.hi t.item_count lt redo c.some in (next.some, next.within)

-- there is a number for each rollback and each repeat to come
abbrev pub HasRoom : TaskState → Type 0
HasRoom t = (t.row.counts.rollback + retries_left t < max_rollbacks) × HasRepeats t.rules t.row

-- the task after an attempt from which another may follow
pub record IsFurther (before after : TaskState) : Type 0 where
  pub fewer : attempts_left after < attempts_left before
  pub room : after.row.counts.rollback + retries_left after ≤ before.row.counts.rollback + retries_left before
  pub repeats : after.row.in_place + retries_left after ≤ before.row.in_place + retries_left before

pub record IsCommit (before after : TaskState) : Type 0 where
  pub further : IsFurther before after
  pub stands : after.row.state ≡ state_at after.row.at after.row.hi

commit-by : (t : TaskState) (again : ℕ) (delta : Counts) → HasDelta ((block_of t).hi - t.row.at) (Committed delta) → (t.row.at < (block_of t).hi) × ((block_of t).hi ≤ t.row.hi) → IsCommit t (ending_by t again (Committed delta)).task
commit-by t again delta added b =
    let lt = b.0 in
    let le = b.1 in
    let none = added.rollback in
    record { further = record { fewer = omega (arith, lt, le); room = omega (arith, none); repeats = omega arith }; stands = refl }

roll-by : (t : TaskState) (again : ℕ) (class : ClassId) → end_of t ≡ Rolled class → IsFurther t (ending_by t again (Rolled class)).task
roll-by t again class is =
    let below = rolled-below t class is in
    record { fewer = omega (arith, below); room = omega (arith, below); repeats = omega (arith, below) }

pub finished-at : (at hi : ℕ) → at ≡ hi → state_at at hi ≡ state.Finished
finished-at at hi e = let same : (at == hi) ≡ true = grind (arith, nat_tests) in ap (λ b. cond b state.Finished state.Waiting) same

pub waiting-at : (at hi : ℕ) → at < hi → state_at at hi ≡ state.Waiting
waiting-at at hi lt = let other : (at == hi) ≡ false = grind (arith, nat_tests) in ap (λ b. cond b state.Finished state.Waiting) other

some-left : (at hi : ℕ) (s : RowState) → (at ≡ hi) ⊎ (at < hi) → (at ≡ hi → s ≡ state.Finished) → s ≡ state.Waiting → at < hi
some-left at hi s (inl e) finished waiting = let never : state.Finished ≡ state.Waiting = sym (finished e) ∙ waiting in absurd cc
some-left at hi s (inr lt) finished waiting = lt

-- a record is left where the state says so
pub below-at : (at hi : ℕ) → at ≤ hi → state_at at hi ≡ state.Waiting → at < hi
below-at at hi le waiting = some-left at hi (state_at at hi) (eq-or-lt_of_le le) (finished-at at hi) waiting

-- and in a Waiting row
pub left-waiting : (row : Row) → IsSoundRow row → row.state ≡ state.Waiting → row.at < row.hi
left-waiting row sound waiting = some-left row.at row.hi row.state (eq-or-lt_of_le sound.placed.at_to) sound.finished.1 waiting

-- how a task's chunk ended, after all its repeats, and what that left
ended-by : (t after : TaskState) (out : Outcome) (values : List (List ℕ)) (again : ℕ) → ending_of after out values again ≡ attempt_of t → end_of (after_repeats t) ≡ out
ended-by t after out values again done = sym (ap (λ (e : AttemptEnd). e.outcome) done)

left-by : (t after : TaskState) (out : Outcome) (values : List (List ℕ)) (again : ℕ) → ending_of after out values again ≡ attempt_of t → (ending_by (after_repeats t) (again_of t) out).task ≡ after
left-by t after out values again done = ap (λ e. (ending_by (after_repeats t) (again_of t) e).task) (sym (ended-by t after out values again done)) ∙ sym (ap (λ (e : AttemptEnd). e.task) done)

-- the repeats take no attempt away that isn't a retry, and no record
after_repeats-further : (t after : TaskState) → IsFurther (after_repeats t) after → IsFurther t after
after_repeats-further t after f =
    let left = after_repeats-left t in
    let grown = after_repeats-in_place t in
    let at = ap (λ (x : Row). x.at) (after_repeats-row t) in
    let hi = ap (λ (x : Row). x.hi) (after_repeats-row t) in
    let rollback = ap (λ (x : Row). x.counts.rollback) (after_repeats-row t) in
    let fewer = f.fewer in
    let room = f.room in
    let repeats = f.repeats in
    record {
      fewer = omega (arith, fewer, left, at, hi);
      room = omega (arith, room, left, rollback);
      repeats = omega (arith, repeats, left, grown);
    }

block-after_repeats : ChunksFollow → (t : TaskState) → IsReady t → t.row.state ≡ state.Waiting → ((after_repeats t).row.at < (block_of (after_repeats t)).hi) × ((block_of (after_repeats t)).hi ≤ (after_repeats t).row.hi)
block-after_repeats law t ready waiting =
    let P : Row → Type 0 = λ x. (x.at < (row_block t.item_count x).hi) × ((row_block t.item_count x).hi ≤ x.hi) in
    subst P (sym (after_repeats-row t)) (block-in law t (left-waiting t.row ready.sound waiting) ready.sound.placed.redo_to ready.item_counted)

commit-left : ChunksFollow → (before after : TaskState) (d : Counts) (values : List (List ℕ)) (again : ℕ) → IsReady before → before.row.state ≡ state.Waiting → ending_of after (Committed d) values again ≡ attempt_of before → IsCommit before after
commit-left law before after d values again ready waiting done =
    let s = after_repeats before in
    let block = block-after_repeats law before ready waiting in
    let lt = block.0 in
    let added = subst (HasDelta ((block_of s).hi - s.row.at)) (ended-by before after _ values again done) ((end-added s (repeats-count before ready.count)).1 (omega (arith, lt))) in
    let made = subst (IsCommit s) (left-by before after _ values again done) (commit-by s (again_of before) d added block) in
    record { further = after_repeats-further before after made.further; stands = made.stands }

roll-left : (before after : TaskState) (class : ClassId) (values : List (List ℕ)) (again : ℕ) → before.row.state ≡ state.Waiting → ending_of after (Rolled class) values again ≡ attempt_of before → IsFurther before after × (after.row.state ≡ state.Waiting)
roll-left before after class values again waiting done =
    let s = after_repeats before in
    let left = left-by before after _ values again done in
    let made = roll-by s (again_of before) class (ended-by before after _ values again done) in
    (after_repeats-further before after (subst (IsFurther s) left made), ap (λ (x : TaskState). x.row.state) (sym left) ∙ ap (λ (x : Row). x.state) (after_repeats-row before) ∙ waiting)

fail-left : (before after : TaskState) (class : ClassId) (values : List (List ℕ)) (again : ℕ) → ending_of after (Failed class) values again ≡ attempt_of before → after.row.state ≡ state.Failed
fail-left before after class values again done = ap (λ (x : TaskState). x.row.state) (sym (left-by before after _ values again done))

-- no more is retried than the limit of a step's retries
pub has-room : (t : TaskState) → IsReady t → t.row.counts.rollback + max_retry_limit < max_rollbacks → t.row.in_place + max_retry_limit ≤ max_in_place → HasRoom t
has-room t ready few repeats = let most = ready.retried in (omega (arith, few, most), omega (arith, repeats, most))

-- some attempts were made, and there may be as many more as are left now
pub record IsUnderWay (start now : TaskState) : Type 0 where
  pub attempts : List AttemptEnd
  pub run : IsRunOf start attempts now
  pub few : length attempts + attempts_left now ≤ attempts_left start

pub begun : (t : TaskState) → IsUnderWay t t
begun t = record { attempts = []; run = refl; few = omega arith }

-- one more attempt
pub run-more : (t : TaskState) (es : List AttemptEnd) (s : TaskState) (e : AttemptEnd) → IsRunOf t es s → s.row.state ≡ state.Waiting → e ≡ attempt_of s → IsRunOf t (es ++ e ∷ []) e.task
run-more t [] s e run waiting last = (ap (λ (v : TaskState). v.row.state) (sym run) ∙ waiting, last ∙ ap attempt_of run, refl)
run-more t (f ∷ es) s e run waiting last = (run.0, run.1, run-more f.task es s e run.2 waiting last)

pub further-way : (start now : TaskState) (e : AttemptEnd) → IsUnderWay start now → now.row.state ≡ state.Waiting → e ≡ attempt_of now → attempts_left e.task < attempts_left now → IsUnderWay start e.task
further-way start now e way waiting last fewer = record {
  attempts = way.attempts ++ e ∷ [];
  run = run-more start way.attempts now e way.run waiting last;
  few = let few = way.few in let more = length-append way.attempts (e ∷ []) in omega (arith, few, fewer, more);
}

-- the last attempt
last-alone : (start now : TaskState) (e : AttemptEnd) → IsUnderWay start now → IsReady now → now.row.state ≡ state.Waiting → e ≡ attempt_of now → has_ended e.task.row.state ≡ true → IsAlone start e.task
last-alone start now e way ready waiting last ended = record {
  attempts = way.attempts ++ e ∷ [];
  run = run-more start way.attempts now e way.run waiting last;
  ended = ended;
  few =
      let few = way.few in
      let more = length-append way.attempts (e ∷ []) in
      let lt = left-waiting now.row ready.sound waiting in
      omega (arith, few, more, lt);
}

-- a chunk that was committed ends the task where no record is left
pub commit-ends : ChunksFollow → (start now after : TaskState) (d : Counts) (values : List (List ℕ)) (again : ℕ) → IsReady now → now.row.state ≡ state.Waiting → IsUnderWay start now → ending_of after (Committed d) values again ≡ attempt_of now → after.row.at ≡ after.row.hi → IsAlone start after × (after.row.state ≡ state.Finished)
commit-ends law start now after d values again ready waiting way done at =
    let commit = commit-left law now after d values again ready waiting done in
    let ended = commit.stands ∙ finished-at after.row.at after.row.hi at in
    (last-alone start now (ending_of after (Committed d) values again) way ready waiting done (ap has_ended ended), ended)

-- what holds where the task is to be attempted again
pub record IsNext (start now after : TaskState) : Type 0 where
  pub waiting : after.row.state ≡ state.Waiting
  pub room : HasRoom after
  pub reached : IsUnderWay start after
  pub fewer : attempts_left after < attempts_left now

next-of : (start now : TaskState) (e : AttemptEnd) → now.row.state ≡ state.Waiting → HasRoom now → IsUnderWay start now → e ≡ attempt_of now → IsFurther now e.task → e.task.row.state ≡ state.Waiting → IsNext start now e.task
next-of start now e waiting room way last further again =
    let less = further.room in
    let fewer = further.repeats in
    let rolls = room.0 in
    let repeats = room.1 in
    record {
      waiting = again;
      room = (omega (arith, less, rolls), omega (arith, fewer, repeats));
      reached = further-way start now e way waiting last further.fewer;
      fewer = further.fewer;
    }

pub commit-next : ChunksFollow → (start now after : TaskState) (d : Counts) (values : List (List ℕ)) (again : ℕ) → IsReady now → now.row.state ≡ state.Waiting → HasRoom now → IsUnderWay start now → ending_of after (Committed d) values again ≡ attempt_of now → after.row.at < after.row.hi → IsNext start now after
commit-next law start now after d values again ready waiting room way done lt =
    let commit = commit-left law now after d values again ready waiting done in
    next-of start now (ending_of after (Committed d) values again) waiting room way done commit.further (commit.stands ∙ waiting-at after.row.at after.row.hi lt)

pub roll-next : (start now after : TaskState) (class : ClassId) (values : List (List ℕ)) (again : ℕ) → now.row.state ≡ state.Waiting → HasRoom now → IsUnderWay start now → ending_of after (Rolled class) values again ≡ attempt_of now → IsNext start now after
roll-next start now after class values again waiting room way done =
    let rolled = roll-left now after class values again waiting done in
    next-of start now (ending_of after (Rolled class) values again) waiting room way done rolled.0 rolled.1

-- a chunk that failed ends the task
pub fail-ends : (start now after : TaskState) (class : ClassId) (values : List (List ℕ)) (again : ℕ) → IsReady now → now.row.state ≡ state.Waiting → IsUnderWay start now → ending_of after (Failed class) values again ≡ attempt_of now → IsAlone start after × (after.row.state ≡ state.Failed)
fail-ends start now after class values again ready waiting way done =
    let ended = fail-left now after class values again done in
    (last-alone start now (ending_of after (Failed class) values again) way ready waiting done (ap has_ended ended), ended)

-- an attempt that found no memory breaks the run off
pub breaks-off : (start now after : TaskState) → IsReady now → now.row.state ≡ state.Waiting → IsUnderWay start now → IsUnfinished now after → IsBroken start after
breaks-off start now after ready waiting way unfinished = record {
  attempts = way.attempts;
  last = now;
  run = way.run;
  waiting = waiting;
  few = let few = way.few in let lt = left-waiting now.row ready.sound waiting in omega (arith, few, lt);
  unfinished = unfinished;
}
