-- The task after all repeats of its next block: where an attempt's end is looked for.
use Rattle.std.proofs.Common.{◌≡◌, ℕ, ◌+◌, ◌-◌, ◌≤◌, ◌⊎◌, inl, inr, length, ap, sym, ◌∙◌, subst, arith}
use Rattle.jb_base.specs.Limits.{max_in_place}
use Rattle.jb_rules.specs.declared.row.Row.{Row}
use Rattle.jb_rules.specs.Laws.{RowsStaySound}
use Rattle.jb_rules.specs.Rows.{row_block, repeated_row}
use Rattle.jb_rules.specs.Sound.{IsSoundRow}
use Rattle.jb_artifacts.specs.Reader.{Reader, reader_end}
use Rattle.jb_artifacts.specs.Writer.{Writer}
use Rattle.jb_chunk.specs.Alone.{retries_left}
use Rattle.jb_chunk.specs.Attempt.{block_of, all_repeated, after_repeats, again_of, IsRestored}
use Rattle.jb_chunk.specs.TaskState.{TaskState, IsReady}
use Rattle.jb_chunk.proofs.ChunkRepeats.{after_repeats-repeated}

-- all repeats change nothing else of the task
pub after_repeats-is : (t : TaskState) → all_repeated t ≡ after_repeats t
after_repeats-is t = (after_repeats-repeated t).rest

-- the row has grown by the repeats, and nothing else
again-is : (row now : Row) (n : ℕ) → now ≡ repeated_row row n → now.in_place - row.in_place ≡ n
again-is row now n e = let in_place : now.in_place ≡ row.in_place + n = ap (λ (r : Row). r.in_place) e in omega (arith, in_place)

pub after_repeats-row : (t : TaskState) → (after_repeats t).row ≡ repeated_row t.row (again_of t)
after_repeats-row t = let r = after_repeats-repeated t in r.row ∙ ap (repeated_row t.row) (sym (again-is t.row _ r.again r.row))

pub after_repeats-block : (t : TaskState) → block_of (after_repeats t) ≡ block_of t
after_repeats-block t = ap (row_block t.item_count) (after_repeats-row t)

few-by : (again limit retries : ℕ) → (again ≡ 0) ⊎ (retries + again ≤ limit) → again ≤ limit - retries
few-by again limit retries (inl none) = omega (arith, none)
few-by again limit retries (inr few) = omega (arith, few)

-- no more are made than retries are left
pub again-few : (t : TaskState) → again_of t ≤ retries_left t
again-few t =
    let r = after_repeats-repeated t in
    let few = few-by r.again t.rules.retry_limit t.row.retries r.few in
    let is = again-is t.row _ r.again r.row in
    omega (arith, few, is)

pub after_repeats-left : (t : TaskState) → again_of t + retries_left (after_repeats t) ≡ retries_left t
after_repeats-left t =
    let few = again-few t in
    let retries : (after_repeats t).row.retries ≡ t.row.retries + again_of t = ap (λ (r : Row). r.retries) (after_repeats-row t) in
    omega (arith, few, retries)

pub after_repeats-in_place : (t : TaskState) → (after_repeats t).row.in_place ≡ t.row.in_place + again_of t
after_repeats-in_place t = ap (λ (r : Row). r.in_place) (after_repeats-row t)

pub after_repeats-artifacts : (t : TaskState) → IsRestored t.row.at (block_of t).hi t.artifacts (after_repeats t).artifacts
after_repeats-artifacts t = (after_repeats-repeated t).artifacts

-- as many results are written as its row says
pub repeats-count : (t : TaskState) → length t.artifacts.writer.written ≡ t.row.written → length (after_repeats t).artifacts.writer.written ≡ (after_repeats t).row.written
repeats-count t count = ap (λ (r : Writer). length r.written) (after_repeats-artifacts t).writer ∙ count ∙ sym (ap (λ (x : Row). x.written) (after_repeats-row t))

pub after_repeats-ready-by : (t : TaskState) → IsReady t → IsSoundRow (after_repeats t).row → IsReady (after_repeats t)
after_repeats-ready-by t ready sound =
    let restored = after_repeats-artifacts t in
    let artifacts = (after_repeats t).artifacts in
    let row = after_repeats-row t in
    let first : artifacts.reader.first ≡ t.artifacts.reader.first = ap (λ (r : Reader). r.first) restored.reader in
    let place : artifacts.reader.place ≡ t.artifacts.reader.place = ap (λ (r : Reader). r.place) restored.reader in
    let to : reader_end artifacts.reader ≡ reader_end t.artifacts.reader = ap (λ (r : Reader). reader_end r) restored.reader in
    let written : length artifacts.writer.written ≡ length t.artifacts.writer.written = ap (λ (r : Writer). length r.written) restored.writer in
    let lo = ap (λ (r : Row). r.lo) row in
    let at = ap (λ (r : Row). r.at) row in
    let hi = ap (λ (r : Row). r.hi) row in
    let kept = ap (λ (r : Row). r.written) row in
    let fits_from = ready.fits.from in
    let fits_to = ready.fits.to in
    let fits_count = ready.fits.count in
    record {
      sound = sound;
      item_counted = ready.item_counted;
      retried = ready.retried;
      fits = record { from = omega (arith, first, fits_from, lo); to = omega (arith, to, fits_to, hi); count = omega (arith, written, fits_count, kept) };
      place = place ∙ ready.place ∙ sym at;
      count = written ∙ ready.count ∙ sym kept;
    }

pub after_repeats-ready : RowsStaySound → (t : TaskState) → IsReady t → t.row.in_place + again_of t ≤ max_in_place → IsReady (after_repeats t)
after_repeats-ready stay t ready room = after_repeats-ready-by t ready (subst IsSoundRow (sym (after_repeats-row t)) (stay.repeated t.row (again_of t) ready.sound room))
