-- An attempt from its parts.
use Rattle.std.proofs.Common.{◌≡◌, ℕ, ◌-◌, ◌≤◌, List, [], length, ap, sym, ◌∙◌, subst, arith}
use Rattle.jb_base.specs.Limits.{max_retry_limit}
use Rattle.jb_rules.specs.Rows.{row_block, repeated_row}
use Rattle.jb_rules.specs.Sound.{IsSoundRow}
use Rattle.jb_rules.specs.declared.row.Row.{Row}
use Rattle.jb_artifacts.specs.Reader.{Reader, reader_end}
use Rattle.jb_artifacts.specs.Writer.{Writer}
use Rattle.jb_artifacts.specs.Meaning.{ArtifactsMeaning}
use Rattle.jb_chunk.specs.declared.outcome.Outcome.{Outcome}
use Rattle.jb_chunk.specs.declared.outcome.Outcome.TheVariants.{Committed, Rolled, Failed, NoMemory}
use Rattle.jb_chunk.specs.Attempt.{IsRestored, block_of, all_repeated, after_repeats, again_of, settled_at, row_after, artifacts_used, values_of, IsAttempt, ending_of, ending_by, attempt_of}
use Rattle.jb_chunk.specs.TaskState.{TaskState, IsReady, at_checkpoint}
use Rattle.jb_chunk.specs.inside.TriedChunk.{IsTried, HasDelta}
use Rattle.jb_chunk.proofs.AddedCounts.{end-added}
use Rattle.jb_chunk.proofs.AfterRepeats.{repeats-count, after_repeats-is, after_repeats-row, after_repeats-block, after_repeats-artifacts, after_repeats-ready-by, again-few}
use Rattle.jb_chunk.proofs.ChunkRepeats.{restored-trans}
use Rattle.jb_chunk.proofs.AttemptLeaves.{ready-by, tried-attempt, restored-by, CanReopen, can-reopen-by}
use Rattle.jb_chunk.proofs.ArtifactsUsed.{used-there}

-- what `try_block` gives: the row after the repeats, and the chunk tried
abbrev pub IsChunkTried : TaskState → (repeated : Row) → Outcome → ArtifactsMeaning → Type 0
IsChunkTried t repeated end now = (repeated ≡ (all_repeated t).row) × IsTried (all_repeated t) end now

tried-behind : (t : TaskState) (repeated : Row) (end : Outcome) (now : ArtifactsMeaning) → IsChunkTried t repeated end now → IsTried (after_repeats t) end now
tried-behind t repeated end now done = subst (λ u. IsTried u end now) (after_repeats-is t) done.1

attempt-by : (t : TaskState) (records : ℕ) (e : Outcome) (values : List (List ℕ)) (again : ℕ) (after : TaskState) → HasDelta records e → ending_of after e values again ≡ attempt_of t → IsAttempt t (ending_of after e values again)
attempt-by t records (Committed delta) values again after found done = done
attempt-by t records (Rolled class) values again after found done = done
attempt-by t records (Failed class) values again after found done = done
attempt-by t records NoMemory values again after found done = absurd found

-- the row after the repeats is as it was, but for them
pub repeated-row : (t : TaskState) (repeated : Row) → repeated ≡ (all_repeated t).row → repeated ≡ repeated_row t.row (again_of t)
repeated-row t repeated e = e ∙ after_repeats-row t

pub counted-row : (t : TaskState) (hi : ℕ) (repeated : Row) (end : Outcome) (now : ArtifactsMeaning) → IsReady t → hi ≡ (block_of t).hi → t.row.at ≤ hi → IsChunkTried t repeated end now → HasDelta (hi - repeated.at) end
counted-row t hi repeated end now ready h le done =
    let s = after_repeats t in
    let tr = tried-behind t repeated end now done in
    let there : (block_of s).hi ≡ hi = ap (λ b. b.hi) (after_repeats-block t) ∙ sym h in
    let at : s.row.at ≡ t.row.at = ap (λ (x : Row). x.at) (after_repeats-row t) in
    let own = (end-added s (repeats-count t ready.count)).1 (omega (arith, there, at, le)) in
    subst (λ (x : Row). HasDelta (hi - x.at) end) (sym done.0) (subst (λ n. HasDelta (n - s.row.at) end) there (subst (λ e. HasDelta ((block_of s).hi - s.row.at) e) (sym tr.ended) own))

pub row-same : (t : TaskState) (hi : ℕ) (repeated : Row) (end : Outcome) (now : ArtifactsMeaning) (row : Row) → hi ≡ (block_of t).hi → IsChunkTried t repeated end now → row ≡ row_after repeated hi end → row ≡ row_after (after_repeats t).row (block_of (after_repeats t)).hi end
row-same t hi repeated end now row h done r =
    let there = h ∙ sym (ap (λ b. b.hi) (after_repeats-block t)) in
    r ∙ (λ i. row_after (done.0 i) (there i) end)

pub done-attempt : (t : TaskState) (hi : ℕ) (repeated : Row) (end : Outcome) (now : ArtifactsMeaning) (row : Row) (values : List (List ℕ)) (again : ℕ) (after : TaskState) → IsReady t → hi ≡ (block_of t).hi → t.row.at ≤ hi → IsChunkTried t repeated end now → row ≡ row_after repeated hi end → values ≡ values_of now.collector t.partition row end → again ≡ repeated.in_place - t.row.in_place → after ≡ record t { row = row; artifacts = now } → IsAttempt t (ending_of after end values again)
done-attempt t hi repeated end now row values again after ready h le done r v n a =
    let s = after_repeats t in
    let tr = tried-behind t repeated end now done in
    let row_is = row-same t hi repeated end now row h done r in
    let left = subst (λ (x : ArtifactsMeaning). IsTried s end x) (sym (ap (λ (x : TaskState). x.artifacts) a)) tr in
    let collector = ap (λ (x : ArtifactsMeaning). x.collector) tr.left ∙ (used-there s (settled_at s)).collector in
    let collected = v ∙ (λ i. values_of (collector i) t.partition (row_is i) end) in
    let same : after ≡ record s { row = after.row; artifacts = after.artifacts } = a ∙ (λ i. record t { row = (sym a i).row; artifacts = (sym a i).artifacts }) in
    let is : again ≡ again_of t = n ∙ ap (λ (x : Row). x.in_place - t.row.in_place) done.0 in
    let finished = tried-attempt t end values again after left same (ap (λ (x : TaskState). x.row) a ∙ row_is) collected is in
    attempt-by t _ end values again after (counted-row t hi repeated end now ready h le done) finished

pub after_repeats-is-ready : (t : TaskState) (repeated : Row) → IsReady t → IsSoundRow repeated → repeated ≡ (all_repeated t).row → IsReady (after_repeats t)
after_repeats-is-ready t repeated ready sound is = after_repeats-ready-by t ready (subst IsSoundRow is sound)

pub done-ready : (t : TaskState) (hi : ℕ) (repeated : Row) (end : Outcome) (now : ArtifactsMeaning) (row : Row) (after : TaskState) → IsReady t → IsSoundRow repeated → IsSoundRow row → hi ≡ (block_of t).hi → IsChunkTried t repeated end now → row ≡ row_after repeated hi end → after ≡ record t { row = row; artifacts = now } → IsReady after
done-ready t hi repeated end now row after ready whole sound h done r a =
    let s = after_repeats t in
    let tr = tried-behind t repeated end now done in
    let row_is = row-same t hi repeated end now row h done r in
    let there = after_repeats-is-ready t repeated ready whole done.0 in
    let kept = subst (λ (e : Outcome). (row_after s.row (block_of s).hi e).written ≤ length (artifacts_used s (settled_at s)).writer.written) (sym tr.ended) (end-added s there.count).0 in
    subst IsReady (sym (a ∙ (λ i. record t { row = row_is i; artifacts = tr.left i }))) (ready-by s 0 end kept (subst IsSoundRow row_is sound) there)

-- no more calls are repeated than retries are left
pub done-few : (t : TaskState) (repeated : Row) (again : ℕ) → repeated ≡ (all_repeated t).row → IsReady t → again ≡ repeated.in_place - t.row.in_place → again ≤ max_retry_limit
done-few t repeated again row ready n =
    let is : again ≡ again_of t = n ∙ ap (λ (x : Row). x.in_place - t.row.in_place) row in
    let few = again-few t in
    let limit = ready.retried in
    omega (arith, is, few, limit)

-- the collector found no memory: what the end left is opened again at the checkpoint
pub undone-restored : (t : TaskState) (repeated : Row) (end : Outcome) (now : ArtifactsMeaning) → IsReady t → IsSoundRow repeated → IsChunkTried t repeated end now → IsRestored t.row.at (block_of t).hi t.artifacts (at_checkpoint t.row now)
undone-restored t repeated end now ready sound done =
    let s = after_repeats t in
    let tr = tried-behind t repeated end now done in
    let there = after_repeats-is-ready t repeated ready sound done.0 in
    let left = (ending_by s 0 end).task.artifacts in
    let P : Row → Type 0 = λ x. IsRestored x.at (row_block t.item_count x).hi s.artifacts (at_checkpoint x left) in
    let here = subst P (after_repeats-row t) (restored-by s 0 end there) in
    let whole = restored-trans t.row.at (block_of t).hi t.artifacts s.artifacts (at_checkpoint t.row left) (after_repeats-artifacts t) here in
    subst (λ (x : ArtifactsMeaning). IsRestored t.row.at (block_of t).hi t.artifacts (at_checkpoint t.row x)) (sym tr.left) whole

pub undone-attempt : (t : TaskState) (artifacts : ArtifactsMeaning) (out : Outcome) (values : List (List ℕ)) (again : ℕ) (after : TaskState) → out ≡ NoMemory → values ≡ [] → again ≡ 0 → after ≡ record t { artifacts = artifacts } → IsRestored t.row.at (block_of t).hi t.artifacts artifacts → IsAttempt t (ending_of after out values again)
undone-attempt t artifacts out values again after o v n a restored =
    let Out : Outcome → Type 0 = λ x. IsAttempt t (ending_of after x values again) in
    let Left : ArtifactsMeaning → Type 0 = λ x. IsRestored t.row.at (block_of t).hi t.artifacts x in
    subst Out (sym o) (
      v,
      n,
      record {
        task = a ∙ (λ i. record t { artifacts = (sym a i).artifacts });
        artifacts = subst Left (sym (ap (λ (x : TaskState). x.artifacts) a)) restored;
      },
    )

pub undone-ready : (t : TaskState) (artifacts : ArtifactsMeaning) (after : TaskState) → IsReady t → IsRestored t.row.at (block_of t).hi t.artifacts artifacts → after ≡ record t { artifacts = artifacts } → IsReady after
undone-ready t artifacts after ready restored a =
    let first : artifacts.reader.first ≡ t.artifacts.reader.first = ap (λ (r : Reader). r.first) restored.reader in
    let place : artifacts.reader.place ≡ t.artifacts.reader.place = ap (λ (r : Reader). r.place) restored.reader in
    let to : reader_end artifacts.reader ≡ reader_end t.artifacts.reader = ap (λ (r : Reader). reader_end r) restored.reader in
    let written : length artifacts.writer.written ≡ length t.artifacts.writer.written = ap (λ (r : Writer). length r.written) restored.writer in
    let fits_from = ready.fits.from in
    let fits_to = ready.fits.to in
    let fits_count = ready.fits.count in
    let stands = ready.place in
    let count = ready.count in
    subst IsReady (sym a) (record {
      sound = ready.sound;
      item_counted = ready.item_counted;
      retried = ready.retried;
      fits = record { from = omega (arith, first, fits_from); to = omega (arith, to, fits_to); count = omega (arith, written, fits_count) };
      place = place ∙ ready.place;
      count = written ∙ ready.count;
    })

-- where it can be opened
pub can-reopen : (t : TaskState) (repeated : Row) (end : Outcome) (now : ArtifactsMeaning) → IsReady t → IsSoundRow repeated → IsChunkTried t repeated end now → CanReopen t.row now
can-reopen t repeated end now ready sound done =
    let s = after_repeats t in
    let there = after_repeats-is-ready t repeated ready sound done.0 in
    let left = (ending_by s 0 end).task.artifacts in
    let own = subst (λ (x : Row). CanReopen x left) (after_repeats-row t) (can-reopen-by s 0 end there) in
    subst (λ (x : ArtifactsMeaning). CanReopen t.row x) (sym (tried-behind t repeated end now done).left) (record { from = own.from; to = own.to; count = own.count })
