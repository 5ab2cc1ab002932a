-- What an attempt leaves.
use Rattle.std.proofs.Common.{◌≡◌, ℕ, ◌≤◌, List, length, length-append, length-take, refl, ap, sym, ◌∙◌, subst, arith, Option, Some, None}
use Rattle.std.proofs.lemmas.List.{length-take-le}
use Rattle.jb_rules.specs.Sound.{IsSoundRow}
use Rattle.jb_rules.specs.declared.row.Row.{Row}
use Rattle.jb_artifacts.specs.Reader.{reader_end}
use Rattle.jb_artifacts.specs.Writer.{failing}
use Rattle.jb_artifacts.specs.Meaning.{ArtifactsMeaning}
use Rattle.jb_chunk.specs.declared.outcome.Outcome.{Outcome}
use Rattle.jb_chunk.specs.declared.outcome.Outcome.TheVariants.{Committed, Rolled, Failed, NoMemory}
use Rattle.jb_chunk.specs.Attempt.{after_repeats, block_of, results_of, settled_at, artifacts_used, row_after, values_of, IsRestored, again_of, ending_of, ending_by, attempt_of}
use Rattle.jb_chunk.specs.Block.{passed, MayBeUsed}
use Rattle.jb_chunk.specs.TaskState.{TaskState, IsReady, at_checkpoint}
use Rattle.jb_chunk.specs.inside.TriedChunk.{IsTried}
use Rattle.jb_chunk.proofs.WrittenResults.{front-kept}
use Rattle.jb_chunk.proofs.ArtifactsUsed.{read_end, write_plans, more_written, used-as, used-there}
use Rattle.jb_chunk.proofs.ChunkRepeats.{may-same, may-used_for}
use Rattle.jb_chunk.proofs.UsedPlans.{worn-passed}
use Rattle.jb_chunk.proofs.OwnRecords.{read-in, failing-in}

-- no end changes the range of a row, or takes a result back
record IsAfter (row now : Row) : Type 0 where
  lo : now.lo ≡ row.lo
  hi : now.hi ≡ row.hi
  written : row.written ≤ now.written

after-row : (row : Row) (hi : ℕ) (e : Outcome) → IsAfter row (row_after row hi e)
after-row row hi (Committed delta) = record { lo = refl; hi = refl; written = omega arith }
after-row row hi (Rolled class) = record { lo = refl; hi = refl; written = omega arith }
after-row row hi (Failed class) = record { lo = refl; hi = refl; written = omega arith }
after-row row hi NoMemory = record { lo = refl; hi = refl; written = omega arith }

-- where a chunk ended so, reader and writer stand at the checkpoint of its row
pub ready-by : (t : TaskState) (again : ℕ) (e : Outcome) → (row_after t.row (block_of t).hi e).written ≤ length (artifacts_used t (settled_at t)).writer.written → IsSoundRow (row_after t.row (block_of t).hi e) → IsReady t → IsReady (ending_by t again e).task
ready-by t again e kept sound r =
    let row = after-row t.row (block_of t).hi e in
    let there = used-there t (settled_at t) in
    let count = length-take-le (row_after t.row (block_of t).hi e).written (artifacts_used t (settled_at t)).writer.written kept in
    record {
      sound = sound;
      item_counted = r.item_counted;
      retried = r.retried;
      fits = record {
        from = let at = r.fits.from in let first = there.first in let lo = row.lo in omega (arith, at, first, lo);
        to = let at = r.fits.to in let end = there.end in let hi = row.hi in omega (arith, at, end, hi);
        count = omega (arith, count);
      };
      place = refl;
      count = count;
    }

-- a task whose chunk, after all its repeats, was tried to its end was attempted
pub tried-attempt : (t : TaskState) (end : Outcome) (values : List (List ℕ)) (again : ℕ) (after : TaskState) → let s = after_repeats t in IsTried s end after.artifacts → after ≡ record s { row = after.row; artifacts = after.artifacts } → after.row ≡ row_after s.row (block_of s).hi end → values ≡ values_of s.artifacts.collector s.partition (row_after s.row (block_of s).hi end) end → again ≡ again_of t → ending_of after end values again ≡ attempt_of t
tried-attempt t end values again after done same row collected is =
    let s = after_repeats t in
    let left : after ≡ (ending_by s again end).task = same ∙ (λ i. record s { row = row i; artifacts = done.left i }) in
    (λ i. ending_of (left i) end (collected i) (is i)) ∙ ap (ending_by s (again_of t)) done.ended

may-write : (t : TaskState) (settled : Option ℕ) → MayBeUsed t.row.at (block_of t).hi t.artifacts.writer.faults (write_plans t settled)
may-write t (Some k) = may-same t.row.at (block_of t).hi t.artifacts.writer.faults
may-write t None = may-used_for t.artifacts.writer.faults (failing t.artifacts.writer.faults (results_of t)) t.row.at (block_of t).hi (failing-in t)

-- what an end leaves, opened again at the checkpoint
pub restored-by : (t : TaskState) (again : ℕ) (e : Outcome) → IsReady t → IsRestored t.row.at (block_of t).hi t.artifacts (at_checkpoint t.row (ending_by t again e).task.artifacts)
restored-by t again e r =
    let s = settled_at t in
    let end = read_end t s in
    let row = row_after t.row (block_of t).hi e in
    let worn = worn-passed t.artifacts (passed t.artifacts t.row.at end) t.row.at end (block_of t).hi (read-in t s refl) refl in
    subst (λ (w : ArtifactsMeaning). IsRestored t.row.at (block_of t).hi t.artifacts (at_checkpoint t.row (at_checkpoint row w))) (sym (used-as t s)) (record {
      reader = λ i. record t.artifacts.reader { place = sym r.place i; faults = (passed t.artifacts t.row.at end).reader.faults };
      processor = refl;
      writer = λ i. record { written = front-kept t.artifacts.writer.written (more_written t s) t.row.written row.written r.count (after-row t.row (block_of t).hi e).written i; faults = write_plans t s };
      collector = refl;
      read_plans = worn.read_plans;
      process_plans = worn.process_plans;
      write_plans = may-write t s;
    })

-- and it can be opened there
pub record CanReopen (row : Row) (now : ArtifactsMeaning) : Type 0 where
  pub from : now.reader.first ≤ row.at
  pub to : row.at ≤ reader_end now.reader
  pub count : row.written ≤ length now.writer.written

pub can-reopen-by : (t : TaskState) (again : ℕ) (e : Outcome) → IsReady t → CanReopen t.row (ending_by t again e).task.artifacts
can-reopen-by t again e r =
    let there = used-there t (settled_at t) in
    let row = row_after t.row (block_of t).hi e in
    let used = artifacts_used t (settled_at t) in
    let from = r.fits.from in
    let to = r.fits.to in
    let count = r.count in
    let first = there.first in
    let end = there.end in
    let at_from = r.sound.placed.at_from in
    let at_to = r.sound.placed.at_to in
    let more = (after-row t.row (block_of t).hi e).written in
    let grown = ap (λ (w : ArtifactsMeaning). length w.writer.written) (used-as t (settled_at t)) in
    let long = length-append t.artifacts.writer.written (more_written t (settled_at t)) in
    let cut = length-take row.written used.writer.written in
    record { from = omega (arith, first, from, at_from); to = omega (arith, end, to, at_to); count = omega (arith, count, more, grown, long, cut) }
