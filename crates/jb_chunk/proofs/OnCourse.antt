-- What an attempt keeps of a task: it stays on its course.
use Rattle.std.proofs.Common.{◌≡◌, ℕ, ◌+◌, ◌-◌, ◌≤◌, ◌<◌, ◌∷◌, length, refl, ap, ap₂, sym, ◌∙◌, subst, arith}
use Rattle.std.proofs.lemmas.List.{length-take-le}
use Rattle.jb_plan.specs.Blocks.{blocks, ChunksFollow}
use Rattle.jb_rules.specs.declared.counts.Counts.{Counts}
use Rattle.jb_rules.specs.declared.row.RowState.{RowState}
use Rattle.jb_rules.specs.declared.row.RowState.TheVariants as state
use Rattle.jb_base.specs.Limits.{max_rollbacks, max_in_place}
use Rattle.jb_base.specs.declared.range.Range.{Range}
use Rattle.jb_rules.specs.declared.row.Row.{Row}
use Rattle.jb_rules.specs.Counts.{IsDelta}
use Rattle.jb_rules.specs.Laws.{RowsStaySound}
use Rattle.jb_rules.specs.Sound.{IsSoundRow}
use Rattle.jb_artifacts.specs.Reader.{Reader}
use Rattle.jb_artifacts.specs.Writer.{Writer}
use Rattle.jb_chunk.specs.declared.outcome.Outcome.{Outcome}
use Rattle.jb_chunk.specs.declared.outcome.Outcome.TheVariants.{Committed, Rolled, Failed, NoMemory}
use Rattle.jb_chunk.specs.Alone.{is_rolled, retries_left, attempts_left}
use Rattle.jb_chunk.specs.Entries.{one_if}
use Rattle.jb_chunk.specs.Attempt.{AttemptEnd, after_repeats, block_of, again_of, end_of, attempt_of, ending_by, row_after, settled_at, artifacts_used, IsAttemptBy}
use Rattle.jb_chunk.specs.Laws.{blocks_of, CommitsHaveDeltas}
use Rattle.jb_chunk.specs.TaskState.{TaskState, IsReady, HasItemCount}
use Rattle.jb_chunk.specs.inside.TriedChunk.{HasDelta}
use Rattle.jb_chunk.proofs.AddedCounts.{end-added}
use Rattle.jb_chunk.proofs.AfterRepeats.{after_repeats-row, after_repeats-block, after_repeats-artifacts, after_repeats-left, after_repeats-in_place, after_repeats-ready}
use Rattle.jb_chunk.proofs.AttemptLeaves.{ready-by}
use Rattle.jb_chunk.proofs.WithoutRepeats.{in_place-kept}
use Rattle.jb_chunk.proofs.RunsAlone.{block-in, rolled-below, below-at, left-waiting}

-- the task stands at a checkpoint within its range, and has a record left while it waits
pub record IsOnCourse (t : TaskState) : Type 0 where
  pub at_to : t.row.at ≤ t.row.hi
  pub redo_to : t.row.redo ≤ t.row.hi
  pub item_counted : HasItemCount t.item_count
  pub some_left : t.row.state ≡ state.Waiting → t.row.at < t.row.hi
  pub place : t.artifacts.reader.place ≡ t.row.at
  pub count : length t.artifacts.writer.written ≡ t.row.written

pub ready-course : (t : TaskState) → IsReady t → IsOnCourse t
ready-course t ready = record {
  at_to = ready.sound.placed.at_to;
  redo_to = ready.sound.placed.redo_to;
  item_counted = ready.item_counted;
  some_left = left-waiting t.row ready.sound;
  place = ready.place;
  count = ready.count;
}

never : (s : RowState) → s ≡ state.Failed → s ≡ state.Waiting → ⊥
never s f w = cc

-- the block has a record, and none beyond the range
abbrev HasBlock : TaskState → Type 0
HasBlock t = (t.row.at < (block_of t).hi) × ((block_of t).hi ≤ t.row.hi)

-- ON COURSE

-- on course again, and fewer attempts are left where another follows
abbrev pub Goes : TaskState → TaskState → Type 0
Goes t s = IsOnCourse s × (s.row.state ≡ state.Waiting → attempts_left s < attempts_left t)

-- the row keeps its place in the range, and fewer attempts are left
record GoesOn (t : TaskState) (row : Row) : Type 0 where
  at_to : row.at ≤ row.hi
  redo_to : row.redo ≤ row.hi
  some_left : row.state ≡ state.Waiting → row.at < row.hi
  fewer : row.state ≡ state.Waiting → attempts_left (record t { row = row }) < attempts_left t

goes-by : (t : TaskState) (e : Outcome) → end_of t ≡ e → IsOnCourse t → HasBlock t → GoesOn t (row_after t.row (block_of t).hi e)
goes-by t (Committed delta) is on b =
    let lt = b.0 in
    let le = b.1 in
    record { at_to = le; redo_to = on.redo_to; some_left = λ w. below-at (block_of t).hi t.row.hi le w; fewer = λ w. omega (arith, lt, le) }
goes-by t (Rolled class) is on b =
    let lt = b.0 in
    let le = b.1 in
    let redo = on.redo_to in
    let below = rolled-below t class is in
    record { at_to = on.at_to; redo_to = omega (arith, redo, le); some_left = λ w. omega (arith, lt, le); fewer = λ w. omega (arith, below) }
goes-by t (Failed class) is on b = record {
  at_to = on.at_to;
  redo_to = on.redo_to;
  some_left = λ w. absurd (never state.Failed refl w);
  fewer = λ w. absurd (never state.Failed refl w);
}
goes-by t NoMemory is on b =
    let lt = b.0 in
    let never : HasDelta ((block_of t).hi - t.row.at) NoMemory = subst (HasDelta ((block_of t).hi - t.row.at)) is ((end-added t on.count).1 (omega (arith, lt))) in
    absurd never

course-by : (t : TaskState) (again : ℕ) → IsOnCourse t → HasBlock t → Goes t (ending_by t again (end_of t)).task
course-by t again on b =
    let row = goes-by t (end_of t) refl on b in (
      record {
        at_to = row.at_to;
        redo_to = row.redo_to;
        item_counted = on.item_counted;
        some_left = row.some_left;
        place = refl;
        count = length-take-le (row_after t.row (block_of t).hi (end_of t)).written (artifacts_used t (settled_at t)).writer.written (end-added t on.count).0;
      },
      row.fewer,
    )

-- all repeats leave the task on course
after_repeats-course : (t : TaskState) → IsOnCourse t → IsOnCourse (after_repeats t)
after_repeats-course t on =
    let row = after_repeats-row t in
    let artifacts = after_repeats-artifacts t in
    let P : Row → Type 0 = λ x. (x.at ≤ x.hi) × (x.redo ≤ x.hi) × (x.state ≡ state.Waiting → x.at < x.hi) in
    let kept = subst P (sym row) (on.at_to, on.redo_to, on.some_left) in
    record {
      at_to = kept.0;
      redo_to = kept.1;
      item_counted = on.item_counted;
      some_left = kept.2;
      place = ap (λ (r : Reader). r.place) artifacts.reader ∙ on.place ∙ sym (ap (λ (x : Row). x.at) row);
      count = ap (λ (r : Writer). length r.written) artifacts.writer ∙ on.count ∙ sym (ap (λ (x : Row). x.written) row);
    }

after_repeats-waits : (t : TaskState) → t.row.state ≡ state.Waiting → (after_repeats t).row.state ≡ state.Waiting
after_repeats-waits t waiting = ap (λ (x : Row). x.state) (after_repeats-row t) ∙ waiting

has-block : ChunksFollow → (t : TaskState) → IsOnCourse t → t.row.state ≡ state.Waiting → HasBlock t
has-block law t on waiting = block-in law t (on.some_left waiting) on.redo_to on.item_counted

pub course-next : ChunksFollow → (t : TaskState) → IsOnCourse t → t.row.state ≡ state.Waiting → Goes t (attempt_of t).task
course-next law t on waiting =
    let s = after_repeats t in
    let there = after_repeats-course t on in
    let goes = course-by s (again_of t) there (has-block law s there (after_repeats-waits t waiting)) in
    let left = after_repeats-left t in
    let at = ap (λ (x : Row). x.at) (after_repeats-row t) in
    let hi = ap (λ (x : Row). x.hi) (after_repeats-row t) in
    (goes.0, λ w. (let fewer = goes.1 w in omega (arith, fewer, left, at, hi)))

-- RETRIES

-- a rollback is a retry, and no other end is
pub retry-by : (t : TaskState) (e : Outcome) → end_of t ≡ e → let row = row_after t.row (block_of t).hi e in (row.retries ≡ t.row.retries + one_if (is_rolled e)) × (one_if (is_rolled e) + retries_left (record t { row = row }) ≡ retries_left t)
retry-by t (Committed delta) is = (omega arith, omega arith)
retry-by t (Rolled class) is = let below = rolled-below t class is in (refl, omega (arith, below))
retry-by t (Failed class) is = (omega arith, omega arith)
retry-by t NoMemory is = (omega arith, omega arith)

-- READY

-- no attempt takes a rollback back
rolled-by : (row : Row) (hi : ℕ) (e : Outcome) → row.counts.rollback ≤ (row_after row hi e).counts.rollback
rolled-by row hi (Committed delta) = omega arith
rolled-by row hi (Rolled class) = omega arith
rolled-by row hi (Failed class) = omega arith
rolled-by row hi NoMemory = omega arith

pub rollbacks-rise : (t : TaskState) → t.row.counts.rollback ≤ (attempt_of t).task.row.counts.rollback
rollbacks-rise t =
    let s = after_repeats t in
    let same = ap (λ (x : Row). x.counts.rollback) (after_repeats-row t) in
    let more = rolled-by s.row (block_of s).hi (end_of s) in
    omega (arith, same, more)

-- nor a repeat
pub repeats-grow : (t : TaskState) → (attempt_of t).task.row.in_place ≡ t.row.in_place + again_of t
repeats-grow t = in_place-kept (after_repeats t).row (block_of (after_repeats t)).hi (end_of (after_repeats t)) ∙ after_repeats-in_place t

sound-end : RowsStaySound → (t : TaskState) (e : Outcome) → HasDelta ((block_of t).hi - t.row.at) e → IsSoundRow t.row → HasBlock t → (row_after t.row (block_of t).hi e).counts.rollback ≤ max_rollbacks → IsSoundRow (row_after t.row (block_of t).hi e)
sound-end stay t (Committed delta) added sound b room = stay.committed t.row (block_of t).hi _ sound b.0 b.1 added
sound-end stay t (Rolled class) added sound b room = stay.rolled t.row (block_of t).hi sound b.1 (omega (arith, room))
sound-end stay t (Failed class) added sound b room =
    let lt = b.0 in
    let le = b.1 in
    stay.failed t.row sound (omega (arith, lt, le)) (omega (arith, room))
sound-end stay t NoMemory added sound b room = sound

pub ready-next : ChunksFollow → RowsStaySound → (t : TaskState) → IsReady t → t.row.state ≡ state.Waiting → (attempt_of t).task.row.counts.rollback ≤ max_rollbacks → (attempt_of t).task.row.in_place ≤ max_in_place → IsReady (attempt_of t).task
ready-next law stay t ready waiting room repeats =
    let s = after_repeats t in
    let grown = repeats-grow t in
    let there = after_repeats-ready stay t ready (omega (arith, repeats, grown)) in
    let block = has-block law s (ready-course s there) (after_repeats-waits t waiting) in
    let added = end-added s there.count in
    let lt = block.0 in
    ready-by s (again_of t) (end_of s) added.0 (sound-end stay s (end_of s) (added.1 (omega (arith, lt))) there.sound block room) there

-- COMMITS

taken-by : ChunksFollow → (t : TaskState) (e : Outcome) (delta : Counts) → IsOnCourse t → t.row.at < t.row.hi → e ≡ Committed delta → blocks_of t ≡ block_of t ∷ blocks_of (record t { row = row_after t.row (block_of t).hi e })
taken-by law t (Committed d) delta on lt o = (law.next t.row.at t.row.redo t.row.hi t.item_count lt on.redo_to on.item_counted.some).others
taken-by law t (Rolled class) delta on lt o = absurd cc
taken-by law t (Failed class) delta on lt o = absurd cc
taken-by law t NoMemory delta on lt o = absurd cc

pub one-chunk : ChunksFollow → (t : TaskState) (delta : Counts) → IsOnCourse t → t.row.state ≡ state.Waiting → (attempt_of t).outcome ≡ Committed delta → blocks_of t ≡ block_of t ∷ blocks_of (attempt_of t).task
one-chunk law t delta on waiting o =
    let s = after_repeats t in
    let there = after_repeats-course t on in
    let taken = taken-by law s (end_of s) delta there (there.some_left (after_repeats-waits t waiting)) o in
    ap (λ (x : Row). blocks x.at x.redo x.hi t.item_count) (sym (after_repeats-row t))
    ∙ taken
    ∙ ap (λ b. b ∷ blocks_of (attempt_of t).task) (after_repeats-block t)

-- the counts of a commit are those of a chunk
pub commits-have-deltas : ChunksFollow → CommitsHaveDeltas
commits-have-deltas law t e delta ready waiting is committed =
    let s = after_repeats t in
    let b = has-block law s (after_repeats-course t (ready-course t ready)) (after_repeats-waits t waiting) in
    let lt = b.0 in
    let whole : e ≡ attempt_of t = subst (λ (o : Outcome). IsAttemptBy o t e) committed is in
    let ends : end_of s ≡ Committed delta = sym (ap (λ (x : AttemptEnd). x.outcome) whole) ∙ committed in
    let made = subst (HasDelta ((block_of s).hi - s.row.at)) ends ((end-added s (after_repeats-course t (ready-course t ready)).count).1 (omega (arith, lt))) in
    subst (λ n. IsDelta n delta) (ap₂ ◌-◌ (ap (λ (x : Range). x.hi) (after_repeats-block t)) (ap (λ (x : Row). x.at) (after_repeats-row t))) made
