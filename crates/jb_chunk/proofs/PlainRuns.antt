-- A task none of whose calls fails: running alone does what the Plain run does.
use Rattle.std.proofs.Common.{◌≡◌, ℕ, suc, ◌+◌, ◌-◌, ◌≤◌, ◌<◌, Bool, true, false, cond, List, [], ◌∷◌, ◌++◌, length, None, refl, ap, sym, ◌∙◌, subst, arith, length-append, append-nil, append_assoc}
use Rattle.std.specs.Prelude.{◌==◌}
use Rattle.std.specs.List.{filter_map, range_with_len}
use Rattle.std.proofs.lemmas.List.Elements.{filter_map-append}
use Rattle.std.proofs.lemmas.Bool.Decides.{nat_tests}
use Rattle.jb_rules.specs.declared.row.Row.{Row}
use Rattle.jb_rules.specs.declared.row.RowState.TheVariants as state
use Rattle.jb_plan.specs.Blocks.{left, ChunksFollow}
use Rattle.jb_chunk.specs.Alone.{IsRunOf, IsAlone}
use Rattle.jb_rules.specs.States.{has_ended}
use Rattle.jb_rules.specs.Rows.{committed_row, state_at}
use Rattle.jb_artifacts.specs.Faults.{FaultTable, live}
use Rattle.jb_artifacts.specs.Writer.{fault_of, used_for}
use Rattle.jb_artifacts.specs.Meaning.{ArtifactsMeaning}
use Rattle.jb_artifacts.proofs.Writing.{length-texts}
use Rattle.jb_chunk.specs.declared.outcome.Outcome.TheVariants.{Committed}
use Rattle.jb_chunk.specs.Attempt.{block_of, all_repeated, again_of, asks_repeat, fault_at, skips_at, end_of, end_at, counts_with, counts_of, results_of, artifacts_used, AttemptEnd, ending_by, attempt_of}
use Rattle.jb_chunk.specs.Block.{results, skips_before, repeats}
use Rattle.jb_chunk.specs.Entries.{is_fault, is_read_fault}
use Rattle.jb_chunk.specs.Plain.{plain_answers, plain_delta, plain_row, plain_outputs, IsCalm, IsPlain}
use Rattle.jb_chunk.specs.TaskState.{TaskState, HasItemCount, IsReady, at_checkpoint}
use Rattle.jb_rules.specs.declared.row.RowState.{RowState}
use Rattle.jb_chunk.proofs.ChunkRepeats.{after_repeats-last}
use Rattle.jb_chunk.proofs.ArtifactsUsed.{artifacts_as}
use Rattle.jb_chunk.proofs.WrittenResults.{whole-written, whole-kept}
use Rattle.jb_chunk.proofs.RecordCounts.{few-counted}
use Rattle.jb_chunk.proofs.PassedRecords.{between-outside}
use Rattle.jb_chunk.proofs.SettlingRecord.{numbers-split}
use Rattle.jb_chunk.proofs.CalmRecords.{answer_at, calm-texts, calm-failing, calm-settling, calm-counts}
use Rattle.jb_chunk.proofs.RunsAlone.{block-in, finished-at, waiting-at, below-at, left-waiting}

-- two chunks are as one, but for the commits
merged : (row : Row) (mid hi r1 w1 r2 w2 c2 r w c : ℕ) → r1 + r2 ≡ r → w1 + w2 ≡ w → 1 + c2 ≡ c → w1 ≤ r1 → w2 ≤ r2 → committed_row (committed_row row mid (plain_delta r1 w1 1)) hi (plain_delta r2 w2 c2) ≡ committed_row row hi (plain_delta r w c)
merged row mid hi r1 w1 r2 w2 c2 r w c er ew ec l1 l2 =
    let written : row.written + w1 + w2 ≡ row.written + w = omega (arith, ew) in
    let read : row.counts.read + r1 + r2 ≡ row.counts.read + r = omega (arith, er) in
    let write : row.counts.write + w1 + w2 ≡ row.counts.write + w = omega (arith, ew) in
    let commit : row.counts.commit + 1 + c2 ≡ row.counts.commit + c = omega (arith, ec) in
    let rollback : row.counts.rollback + 0 + 0 ≡ row.counts.rollback + 0 = omega arith in
    let read_skip : row.counts.read_skip + 0 + 0 ≡ row.counts.read_skip + 0 = omega arith in
    let process_skip : row.counts.process_skip + 0 + 0 ≡ row.counts.process_skip + 0 = omega arith in
    let filter : row.counts.filter + (r1 - w1) + (r2 - w2) ≡ row.counts.filter + (r - w) = omega (arith, er, ew, l1, l2) in
    let write_skip : row.counts.write_skip + 0 + 0 ≡ row.counts.write_skip + 0 = omega arith in
    λ i. record row {
      at = hi;
      written = written i;
      counts = record {
        read = read i;
        write = write i;
        commit = commit i;
        rollback = rollback i;
        read_skip = read_skip i;
        process_skip = process_skip i;
        filter = filter i;
        write_skip = write_skip i;
      };
      state = state_at hi row.hi;
    }

none-done : (row : Row) (r w c : ℕ) → row.at ≡ row.hi → row.state ≡ state_at row.at row.hi → r ≡ 0 → w ≡ 0 → c ≡ 0 → row ≡ committed_row row row.hi (plain_delta r w c)
none-done row r w c at stands er ew ec =
    let last = stands ∙ ap (λ m. state_at m row.hi) at in
    let written : row.written ≡ row.written + w = omega (arith, ew) in
    let read : row.counts.read ≡ row.counts.read + r = omega (arith, er) in
    let write : row.counts.write ≡ row.counts.write + w = omega (arith, ew) in
    let commit : row.counts.commit ≡ row.counts.commit + c = omega (arith, ec) in
    let rollback : row.counts.rollback ≡ row.counts.rollback + 0 = omega arith in
    let read_skip : row.counts.read_skip ≡ row.counts.read_skip + 0 = omega arith in
    let process_skip : row.counts.process_skip ≡ row.counts.process_skip + 0 = omega arith in
    let filter : row.counts.filter ≡ row.counts.filter + (r - w) = omega (arith, er, ew) in
    let write_skip : row.counts.write_skip ≡ row.counts.write_skip + 0 = omega arith in
    λ i. record row {
      at = at i;
      written = written i;
      counts = record {
        read = read i;
        write = write i;
        commit = commit i;
        rollback = rollback i;
        read_skip = read_skip i;
        process_skip = process_skip i;
        filter = filter i;
        write_skip = write_skip i;
      };
      state = last i;
    }

answers-append : (w : ArtifactsMeaning) (lo mid hi : ℕ) → lo ≤ mid → mid ≤ hi → plain_answers w lo hi ≡ plain_answers w lo mid ++ plain_answers w mid hi
unfolding plain_answers
answers-append w lo mid hi a b =
    let len : hi - lo ≡ (mid - lo) + (hi - mid) = omega (arith, a, b) in
    let start : lo + (mid - lo) ≡ mid = omega (arith, a) in
    ap (λ n. filter_map (answer_at w) (range_with_len lo n)) len
    ∙ ap (filter_map (answer_at w)) (numbers-split lo (mid - lo) (hi - mid))
    ∙ filter_map-append (answer_at w) (range_with_len lo (mid - lo)) (range_with_len (lo + (mid - lo)) (hi - mid))
    ∙ ap (λ m. filter_map (answer_at w) (range_with_len lo (mid - lo)) ++ filter_map (answer_at w) (range_with_len m (hi - mid))) start

answers-none : (w : ArtifactsMeaning) (lo hi : ℕ) → lo ≡ hi → plain_answers w lo hi ≡ []
unfolding plain_answers
answers-none w lo hi e =
    let none : hi - lo ≡ 0 = omega (arith, e) in
    ap (λ n. filter_map (answer_at w) (range_with_len lo n)) none

-- a block of calm records is written
end-calm : (u : TaskState) → u.row.at ≤ (block_of u).hi → IsCalm u.artifacts u.row.at (block_of u).hi → end_of u ≡ Committed (counts_of u (length (results_of u)) 0)
unfolding end_of
end-calm u le calm =
    ap (λ s. end_at u (fault_at u s) (skips_at u s)) (calm-settling u.rules u.row u.artifacts (block_of u).hi le calm)
    ∙ ap (λ r. end_at u (fault_of u.artifacts.writer.faults r) (skips_before u.row u.artifacts (block_of u).hi)) (calm-failing u.artifacts u.row.at (block_of u).hi le calm)

-- and asks for no repeat
asks-calm : (u : TaskState) → u.row.at ≤ (block_of u).hi → IsCalm u.artifacts u.row.at (block_of u).hi → asks_repeat u ≡ false
unfolding asks_repeat
asks-calm u le calm =
    ap (λ s. repeats u.rules u.row (fault_at u s) (skips_at u s)) (calm-settling u.rules u.row u.artifacts (block_of u).hi le calm)
    ∙ ap (λ r. repeats u.rules u.row (fault_of u.artifacts.writer.faults r) (skips_before u.row u.artifacts (block_of u).hi)) (calm-failing u.artifacts u.row.at (block_of u).hi le calm)

after_repeats-calm : (u : TaskState) → u.row.at ≤ (block_of u).hi → IsCalm u.artifacts u.row.at (block_of u).hi → all_repeated u ≡ u
after_repeats-calm u le calm = after_repeats-last u (asks-calm u le calm)

found-calm : (u : TaskState) → u.row.at ≤ (block_of u).hi → IsCalm u.artifacts u.row.at (block_of u).hi → length (results_of u) ≡ length (plain_answers u.artifacts u.row.at (block_of u).hi)
found-calm u le calm = sym (length-texts (results_of u)) ∙ ap length (calm-texts u.artifacts u.row.at (block_of u).hi le calm)

delta-calm : (u : TaskState) → u.row.at ≤ (block_of u).hi → IsCalm u.artifacts u.row.at (block_of u).hi → counts_of u (length (results_of u)) 0 ≡ plain_delta ((block_of u).hi - u.row.at) (length (plain_answers u.artifacts u.row.at (block_of u).hi)) 1
delta-calm u le calm =
    let records = (block_of u).hi - u.row.at in
    let skips = calm-counts is_fault (λ answer. refl) u.artifacts u.row.at (block_of u).hi le calm in
    let reads = calm-counts is_read_fault (λ answer. refl) u.artifacts u.row.at (block_of u).hi le calm in
    let found = found-calm u le calm in
    let all : records - 0 ≡ records = omega arith in
    (λ i. counts_with records (skips i) (reads i) (found i) (found i) 0)
    ∙ ap (λ n. record (plain_delta records (length (plain_answers u.artifacts u.row.at (block_of u).hi)) 1) { read = n; filter = n - length (plain_answers u.artifacts u.row.at (block_of u).hi) }) all

abbrev calm_artifacts : TaskState → ArtifactsMeaning
calm_artifacts u = record (artifacts_as u None) { writer = record (artifacts_as u None).writer { written = u.artifacts.writer.written ++ plain_answers u.artifacts u.row.at (block_of u).hi } }

abbrev calm_next : TaskState → TaskState
calm_next t =
    record t {
      row = committed_row t.row (block_of t).hi (plain_delta ((block_of t).hi - t.row.at) (length (plain_answers t.artifacts t.row.at (block_of t).hi)) 1);
      artifacts = calm_artifacts t;
    }

-- what a calm block used, opened behind all its results
opened-calm : (t : TaskState) → length t.artifacts.writer.written ≡ t.row.written → t.row.at ≤ (block_of t).hi → IsCalm t.artifacts t.row.at (block_of t).hi → (ending_by t (again_of t) (Committed (counts_of t (length (results_of t)) 0))).task.artifacts ≡ calm_artifacts t
unfolding artifacts_used
opened-calm t count le calm =
    let row = committed_row t.row (block_of t).hi (counts_of t (length (results_of t)) 0) in
    let faultless = ap (fault_of t.artifacts.writer.faults) (calm-failing t.artifacts t.row.at (block_of t).hi le calm) in
    let whole = whole-kept t.artifacts.writer (results_of t) t.row.written count faultless in
    let all = whole-written t.artifacts.writer (results_of t) faultless ∙ ap (λ xs. t.artifacts.writer.written ++ xs) (calm-texts t.artifacts t.row.at (block_of t).hi le calm) in
    ap (λ s. at_checkpoint row (artifacts_used t s)) (calm-settling t.rules t.row t.artifacts (block_of t).hi le calm)
    ∙ (λ i. record (artifacts_as t None) { writer = whole i })
    ∙ (λ i. record (artifacts_as t None) { writer = record (artifacts_as t None).writer { written = all i } })

attempted-calm : (t : TaskState) → length t.artifacts.writer.written ≡ t.row.written → t.row.at ≤ (block_of t).hi → IsCalm t.artifacts t.row.at (block_of t).hi → (attempt_of t).task ≡ calm_next t
attempted-calm t count le calm =
    let unchanged = ap (λ (v : TaskState). record t { row = v.row; artifacts = v.artifacts }) (after_repeats-calm t le calm) in
    let delta = delta-calm t le calm in
    let artifacts = opened-calm t count le calm in
    ap (λ v. (ending_by v (again_of t) (end_of v)).task) unchanged
    ∙ ap (λ e. (ending_by t (again_of t) e).task) (end-calm t le calm)
    ∙ (λ i. record t { row = committed_row t.row (block_of t).hi (delta i); artifacts = artifacts i })

-- the records after a calm block are as calm as before
calm-rest : (u : TaskState) (hi : ℕ) → u.row.at ≤ (block_of u).hi → (block_of u).hi ≤ hi → IsCalm u.artifacts u.row.at hi → IsCalm (calm_artifacts u) (block_of u).hi hi
calm-rest u hi le to calm =
    let first : IsCalm u.artifacts u.row.at (block_of u).hi = record {
      reads = λ k a b. calm.reads k a (omega (arith, b, to));
      processes = λ k a b. calm.processes k a (omega (arith, b, to));
      writes = λ k a b. calm.writes k a (omega (arith, b, to));
    } in
    let plans = ap (used_for u.artifacts.writer.faults) (calm-failing u.artifacts u.row.at (block_of u).hi le first) in
    record {
      reads = λ k a b. ap live (between-outside _ u.artifacts.reader.faults u.row.at (block_of u).hi k a) ∙ calm.reads k (omega (arith, le, a)) b;
      processes = λ k a b. ap live (between-outside _ u.artifacts.processor.faults u.row.at (block_of u).hi k a) ∙ calm.processes k (omega (arith, le, a)) b;
      writes = λ k a b. ap (λ (p : FaultTable). live (p k)) plans ∙ calm.writes k (omega (arith, le, a)) b;
    }

calm-answers : (u : TaskState) (lo hi : ℕ) → plain_answers (calm_artifacts u) lo hi ≡ plain_answers u.artifacts lo hi
unfolding plain_answers
calm-answers u lo hi = refl

calm-written : (u : TaskState) → (calm_artifacts u).writer.written ≡ u.artifacts.writer.written ++ plain_answers u.artifacts u.row.at (block_of u).hi
calm-written u = refl

calm-few : (w : ArtifactsMeaning) (lo hi : ℕ) → lo ≤ hi → IsCalm w lo hi → length (plain_answers w lo hi) ≤ hi - lo
calm-few w lo hi le calm =
    let all = (few-counted w lo hi le).all in
    let found = ap length (calm-texts w lo hi le calm) in
    omega (arith, all, found, length-texts (results w lo hi))

-- the number of chunks that are left falls by one with each
left-more : ChunksFollow → (t : TaskState) → t.row.at < t.row.hi → t.row.redo ≤ t.row.hi → HasItemCount t.item_count → left t.row.at t.row.redo t.row.hi t.item_count ≡ 1 + left (block_of t).hi t.row.redo t.row.hi t.item_count
left-more law t lt redo count =
    let others = ap length (law.next t.row.at t.row.redo t.row.hi t.item_count lt redo count.some).others in
    let one : suc (left (block_of t).hi t.row.redo t.row.hi t.item_count) ≡ 1 + left (block_of t).hi t.row.redo t.row.hi t.item_count = omega arith in
    others ∙ one

left-none : ChunksFollow → (at redo hi count : ℕ) → at ≡ hi → redo ≤ hi → left at redo hi count ≡ 0
left-none law at redo hi count e le = ap (λ a. left a redo hi count) e ∙ ap length (law.none redo hi count le)

next-row : ChunksFollow → (t : TaskState) → t.row.at < t.row.hi → t.row.redo ≤ t.row.hi → HasItemCount t.item_count → IsCalm t.artifacts t.row.at t.row.hi → plain_row (calm_next t) ≡ plain_row t
next-row law t lt redo count calm =
    let b = block-in law t lt redo count in
    let from : t.row.at < (block_of t).hi = b.0 in
    let to : (block_of t).hi ≤ t.row.hi = b.1 in
    let le : t.row.at ≤ (block_of t).hi = omega (arith, from) in
    let first : IsCalm t.artifacts t.row.at (block_of t).hi = record {
      reads = λ k p q. calm.reads k p (omega (arith, q, to));
      processes = λ k p q. calm.processes k p (omega (arith, q, to));
      writes = λ k p q. calm.writes k p (omega (arith, q, to));
    } in
    let second : IsCalm t.artifacts (block_of t).hi t.row.hi = record {
      reads = λ k p q. calm.reads k (omega (arith, le, p)) q;
      processes = λ k p q. calm.processes k (omega (arith, le, p)) q;
      writes = λ k p q. calm.writes k (omega (arith, le, p)) q;
    } in
    let whole = ap length (answers-append t.artifacts t.row.at (block_of t).hi t.row.hi le to) ∙ length-append (plain_answers t.artifacts t.row.at (block_of t).hi) (plain_answers t.artifacts (block_of t).hi t.row.hi) in
    let same = ap length (calm-answers t (block_of t).hi t.row.hi) in
    let records : ((block_of t).hi - t.row.at) + (t.row.hi - (block_of t).hi) ≡ t.row.hi - t.row.at = omega (arith, le, to) in
    let found : length (plain_answers t.artifacts t.row.at (block_of t).hi) + length (plain_answers (calm_artifacts t) (block_of t).hi t.row.hi) ≡ length (plain_answers t.artifacts t.row.at t.row.hi) = omega (arith, whole, same) in
    let few = calm-few t.artifacts (block_of t).hi t.row.hi to second in
    merged t.row (block_of t).hi t.row.hi _ _ _ _ _ _ _ _ records found (sym (left-more law t lt redo count)) (calm-few t.artifacts t.row.at (block_of t).hi le first) (omega (arith, few, same))

next-outputs : ChunksFollow → (t : TaskState) → t.row.at < t.row.hi → t.row.redo ≤ t.row.hi → HasItemCount t.item_count → plain_outputs (calm_next t) ≡ plain_outputs t
next-outputs law t lt redo count =
    let b = block-in law t lt redo count in
    let from : t.row.at < (block_of t).hi = b.0 in
    ap (λ xs. xs ++ plain_answers (calm_artifacts t) (block_of t).hi t.row.hi) (calm-written t)
    ∙ ap (λ xs. (t.artifacts.writer.written ++ plain_answers t.artifacts t.row.at (block_of t).hi) ++ xs) (calm-answers t (block_of t).hi t.row.hi)
    ∙ append_assoc t.artifacts.writer.written (plain_answers t.artifacts t.row.at (block_of t).hi) (plain_answers t.artifacts (block_of t).hi t.row.hi)
    ∙ ap (λ xs. t.artifacts.writer.written ++ xs) (sym (answers-append t.artifacts t.row.at (block_of t).hi t.row.hi (omega (arith, from)) b.1))

-- nothing is left to be done
plain-none : ChunksFollow → (t : TaskState) → t.row.at ≡ t.row.hi → t.row.redo ≤ t.row.hi → t.row.state ≡ state_at t.row.at t.row.hi → HasItemCount t.item_count → IsPlain t t
plain-none law t at redo stands count =
    let records : t.row.hi - t.row.at ≡ 0 = omega (arith, at) in
    let none = answers-none t.artifacts t.row.at t.row.hi at in (
      none-done t.row _ _ _ at stands records (ap length none) (left-none law t.row.at t.row.redo t.row.hi t.item_count at redo),
      sym (append-nil t.artifacts.writer.written) ∙ ap (λ xs. t.artifacts.writer.written ++ xs) (sym none),
    )

ended-at : (b : Bool) (at hi : ℕ) → (at == hi) ≡ b → has_ended (cond b state.Finished state.Waiting) ≡ true → at ≡ hi
ended-at true at hi e ended = grind (arith, nat_tests)
ended-at false at hi e ended = cc

calm-first : (t : TaskState) (hi : ℕ) → hi ≤ t.row.hi → IsCalm t.artifacts t.row.at t.row.hi → IsCalm t.artifacts t.row.at hi
calm-first t hi le calm = record {
  reads = λ k p q. calm.reads k p (omega (arith, q, le));
  processes = λ k p q. calm.processes k p (omega (arith, q, le));
  writes = λ k p q. calm.writes k p (omega (arith, q, le));
}

-- where no call in the range fails, attempts that end the task leave what the Plain run leaves
pub plain-run : ChunksFollow → (t : TaskState) (es : List AttemptEnd) (s : TaskState) → IsRunOf t es s → has_ended s.row.state ≡ true → t.row.at ≤ t.row.hi → t.row.redo ≤ t.row.hi → t.row.state ≡ state_at t.row.at t.row.hi → HasItemCount t.item_count → length t.artifacts.writer.written ≡ t.row.written → IsCalm t.artifacts t.row.at t.row.hi → IsPlain t s
plain-run law t [] s run ended le redo stands count written calm =
    let here : has_ended (state_at t.row.at t.row.hi) ≡ true = ap has_ended (sym stands) ∙ ap (λ (v : TaskState). has_ended v.row.state) (sym run) ∙ ended in
    let P : TaskState → Type 0 = λ v. IsPlain t v in
    subst P (sym run) (plain-none law t (ended-at (t.row.at == t.row.hi) t.row.at t.row.hi refl here) redo stands count)
plain-run law t (e ∷ es) s run ended le redo stands count written calm =
    let lt = below-at t.row.at t.row.hi le (sym stands ∙ run.0) in
    let b = block-in law t lt redo count in
    let from = b.0 in
    let to = b.1 in
    let next : e.task ≡ calm_next t = ap (λ (x : AttemptEnd). x.task) run.1 ∙ attempted-calm t written (omega (arith, from)) (calm-first t (block_of t).hi to calm) in
    let P : TaskState → Type 0 = λ v. IsRunOf v es s in
    let grown = length-append t.artifacts.writer.written (plain_answers t.artifacts t.row.at (block_of t).hi) in
    let then = plain-run law (calm_next t) es s (subst P next run.2) ended to redo refl count (omega (arith, grown, written)) (calm-rest t t.row.hi (omega (arith, from)) to calm) in
    (then.0 ∙ next-row law t lt redo count calm, then.1 ∙ next-outputs law t lt redo count)

-- where no call in the range fails, a task that waits and runs alone does what its Plain run does
pub plain-alone : ChunksFollow → (t s : TaskState) → IsReady t → t.row.state ≡ state.Waiting → IsAlone t s → IsCalm t.artifacts t.row.at t.row.hi → IsPlain t s
plain-alone law t s ready waiting alone calm =
    let sound = ready.sound in
    let lt = left-waiting t.row sound waiting in
    plain-run law t alone.attempts s alone.run alone.ended sound.placed.at_to sound.placed.redo_to (waiting ∙ sym (waiting-at t.row.at t.row.hi lt)) ready.item_counted ready.count calm

unlike-failed : (s : RowState) → s ≡ state.Failed → s ≡ state.Finished → ⊥
unlike-failed s f e = cc

-- and it doesn't fail
pub never-fails : ChunksFollow → (t s : TaskState) → IsReady t → t.row.state ≡ state.Waiting → IsAlone t s → s.row.state ≡ state.Failed → IsCalm t.artifacts t.row.at t.row.hi → ⊥
never-fails law t s ready waiting alone failed calm =
    let plain = plain-alone law t s ready waiting alone calm in
    unlike-failed s.row.state failed (ap (λ (r : Row). r.state) plain.0 ∙ finished-at t.row.hi t.row.hi refl)
