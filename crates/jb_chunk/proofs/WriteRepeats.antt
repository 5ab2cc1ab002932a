-- A block whose records are done and whose write is repeated; and a block that a record's fault settles.
use Rattle.std.proofs.Common.{◌≡◌, ℕ, zero, suc, ◌+◌, ◌-◌, ◌≤◌, ◌<◌, Bool, true, false, ◌++◌, length, take, Some, None, Ok, Err, refl, ap, sym, ◌∙◌, subst, arith}
use Rattle.std.proofs.Math.Seq.{take-append_seam}
use Rattle.jb_base.specs.declared.class.ClassId.{ClassId}
use Rattle.jb_base.specs.declared.artifact_error.ArtifactError.TheVariants.{Fault, Memory}
use Rattle.jb_base.specs.Rules.{RulesRecord}
use Rattle.jb_rules.specs.declared.row.Row.{Row}
use Rattle.jb_rules.specs.declared.choice.Choice.{Choice}
use Rattle.jb_rules.specs.declared.choice.Choice.TheVariants.{Skip, Retry, Again, Fail}
use Rattle.jb_rules.specs.declared.counts.Counts.{Counts}
use Rattle.jb_rules.specs.Counts.{no_counts}
use Rattle.jb_rules.specs.Rows.{repeated_row, skips_of}
use Rattle.jb_artifacts.specs.Faults.{FaultTable}
use Rattle.jb_artifacts.specs.Reader.{Reader, opened, reader_end}
use Rattle.jb_artifacts.specs.Writer.{Writer, Numbered, texts_of, cut, write_fault, after_write, failing}
use Rattle.jb_artifacts.specs.Meaning.{ArtifactsMeaning}
use Rattle.jb_chunk.specs.declared.outcome.Outcome.{Outcome}
use Rattle.jb_chunk.specs.declared.outcome.Outcome.TheVariants.{Committed}
use Rattle.jb_chunk.specs.declared.gather.Gathered.TheVariants.{Settled}
use Rattle.jb_chunk.specs.Attempt.{settled_at, results_of, fault_at, skips_at, repeated, repeated_artifacts, asks_repeat, all_repeated, end_by, row_after, block_of}
use Rattle.jb_chunk.specs.TaskState.{TaskState, at_checkpoint}
use Rattle.jb_chunk.specs.Block.{entry, results, repeats, is_skip, is_again, choice_at, passed, skips_before, MayBeUsed}
use Rattle.jb_chunk.specs.Entries.{fault_in}
use Rattle.jb_chunk.specs.inside.Gathering.{Yield, IsTally, IsWornTo}
use Rattle.jb_chunk.specs.inside.Repeats.{IsRepeated, IsWhole, IsGathered, IsPut, IsFinishAfter, IsTornWrite, rewritten, written_times}
use Rattle.jb_chunk.specs.inside.TriedChunk.{IsTried, IsFinish, IsTorn, counts_by, end_from}
use Rattle.jb_chunk.proofs.RecordRepeats.{row-none, row-suc, settling-alike, tally-alike, skips-alike}
use Rattle.jb_chunk.proofs.ChunkRepeats.{same-rules, same-hi, repeated-more, repeated-last, may-same, may-trans, may-used_for}
use Rattle.jb_chunk.proofs.SettlingRecord.{skips-tally}
use Rattle.jb_chunk.proofs.WrittenResults.{front-longer, whole-kept}
use Rattle.jb_chunk.proofs.TriedChunk.{settled-tried, whole-tried}
use Rattle.jb_chunk.proofs.UsedPlans.{worn-passed}
use Rattle.jb_chunk.proofs.DoneRecords.{restored-worn}
use Rattle.jb_chunk.proofs.OwnRecords.{failing-of}

-- THE WRITE

-- no entry depends on the writer
entry-writer : (w : ArtifactsMeaning) (v : Writer) (k : ℕ) → entry (record w { writer = v }) k ≡ entry w k
unfolding entry
entry-writer w v k = refl

found-writer : (w : ArtifactsMeaning) (v : Writer) (lo hi : ℕ) → results (record w { writer = v }) lo hi ≡ results w lo hi
unfolding results entry
found-writer w v lo hi = refl

-- the block between two writes
record IsWriting (t v : TaskState) (found : Numbered) (skips : ℕ) : Type 0 where
  repeated : IsRepeated t v
  le : v.row.at ≤ (block_of v).hi
  none : settled_at v ≡ None
  found_is : results_of v ≡ found
  skipped : skips_before v.row v.artifacts (block_of v).hi ≡ skips

-- the block when the write is repeated
abbrev rewriting : TaskState → Numbered → TaskState
rewriting v found = record v { row = repeated_row v.row 1; artifacts = record v.artifacts { writer = record v.artifacts.writer { faults = (after_write v.artifacts.writer found).faults } } }

asks-write : (v : TaskState) (found : Numbered) (skips : ℕ) (b : Bool) → settled_at v ≡ None → results_of v ≡ found → skips_before v.row v.artifacts (block_of v).hi ≡ skips → repeats v.rules v.row (write_fault v.artifacts.writer found) skips ≡ b → asks_repeat v ≡ b
unfolding asks_repeat
asks-write v found skips b none is skipped e =
    ap (λ s. repeats v.rules v.row (fault_at v s) (skips_at v s)) none
    ∙ (λ i. repeats v.rules v.row (write_fault v.artifacts.writer (is i)) (skipped i)) ∙ e

writing-more : (t v : TaskState) (found : Numbered) (skips : ℕ) → IsWriting t v found skips → repeats v.rules v.row (write_fault v.artifacts.writer found) skips ≡ true → IsWriting t (rewriting v found) found skips
writing-more t v found skips w asked =
    let writer : Writer = record v.artifacts.writer { faults = (after_write v.artifacts.writer found).faults } in
    let more = repeated-more t v w.repeated (asks-write v found skips true w.none w.found_is w.skipped asked) in
    let none = w.none in
    let is = w.found_is in
    let first : repeated v ≡ record v { row = repeated_row v.row 1; artifacts = repeated_artifacts v None } = ap (λ s. record v { row = repeated_row v.row 1; artifacts = repeated_artifacts v s }) none in
    let second : record v { row = repeated_row v.row 1; artifacts = repeated_artifacts v None } ≡ rewriting v found = ap (λ xs. rewriting v xs) is in
    let same : (k : ℕ) → v.row.at ≤ k → k < v.row.at + ((block_of v).hi - v.row.at) → entry (record v.artifacts { writer = writer }) k ≡ entry v.artifacts k = λ k from to. entry-writer v.artifacts writer k in
    record {
      repeated = subst (IsRepeated t) (first ∙ second) more;
      le = w.le;
      none = settling-alike v.rules v.row v.artifacts (record v.artifacts { writer = writer }) (block_of v).hi w.le same none;
      found_is = found-writer v.artifacts writer v.row.at (block_of v).hi ∙ is;
      skipped = skips-alike v.row v.artifacts (record v.artifacts { writer = writer }) (block_of v).hi (block_of v).hi w.le (omega arith) same ∙ w.skipped;
    }

abbrev after_writes : TaskState → Numbered → ℕ → TaskState
after_writes u found m = record u { row = repeated_row u.row m; artifacts = record u.artifacts { writer = rewritten u.artifacts.writer found m } }

writing-times : (t u : TaskState) (found : Numbered) (skips m : ℕ) → IsWriting t u found skips → ((j : ℕ) → j < m → repeats u.rules (repeated_row u.row j) (write_fault (rewritten u.artifacts.writer found j) found) skips ≡ true) → IsWriting t (after_writes u found m) found skips
writing-times t u found skips zero w asked = subst (λ (row : Row). IsWriting t (record u { row = row }) found skips) (row-none u.row) w
writing-times t u found skips (suc m) w asked =
    let here = writing-times t u found skips m w (λ j lt. asked j (omega (arith, lt))) in
    let more = writing-more t (after_writes u found m) found skips here (asked m (omega arith)) in
    subst (λ (row : Row). IsWriting t (record (after_writes u found (suc m)) { row = row }) found skips) (row-suc u.row m) more

tally-writer : (w : ArtifactsMeaning) (v : Writer) (lo hi : ℕ) (tally : Yield) → lo ≤ hi → IsTally w lo hi tally → IsTally (record w { writer = v }) lo hi tally
tally-writer w v lo hi tally le counted = tally-alike w (record w { writer = v }) lo hi tally le (λ k from to. entry-writer w v k) counted

-- a block that was written, after the repeats of its write
pub finished-tried : (t : TaskState) (tally : Yield) (row next : Row) (left new : ArtifactsMeaning) (end : Outcome) → t.row.at ≤ (block_of t).hi → IsWhole t tally row left → IsFinishAfter t.rules row (block_of t).hi tally left end next new → (next ≡ (all_repeated t).row) × IsTried (all_repeated t) end new
finished-tried t tally row next left new end le (u, repeated, row_is, none, counted, passes) (again, wrote, finish) =
    let found = tally.found in
    let skips = skips_of row + tally.skips in
    let at : u.row.at ≡ t.row.at = ap (λ (x : Row). x.at) repeated.row in
    let hi = same-hi repeated in
    let rules = same-rules repeated in
    let le_u : u.row.at ≤ (block_of u).hi = omega (arith, at, hi, le) in
    let writer : left.writer ≡ u.artifacts.writer = ap (λ (x : ArtifactsMeaning). x.writer) passes in
    let start : IsWriting t u found skips = record {
      repeated = repeated;
      le = le_u;
      none = none;
      found_is = sym counted.found;
      skipped = skips-tally u.row u.artifacts (block_of u).hi tally counted ∙ ap (λ (x : Row). skips_of x + tally.skips) (sym row_is);
    } in
    let asked : (j : ℕ) → j < again → repeats u.rules (repeated_row u.row j) (write_fault (rewritten u.artifacts.writer found j) found) skips ≡ true =
    λ j lt. (λ i. repeats (rules i) (repeated_row (sym row_is i) j) (write_fault (rewritten (sym writer i) found j) found) skips) ∙ wrote.asked j lt in
    let v = after_writes u found again in
    let w = writing-times t u found skips again start asked in
    let grown : next ≡ v.row = wrote.grown ∙ ap (λ x. repeated_row x again) row_is in
    let last : repeats v.rules v.row (write_fault v.artifacts.writer found) skips ≡ false =
    (λ i. repeats (rules i) (sym grown i) (write_fault (rewritten (sym writer i) found again) found) skips) ∙ wrote.last in
    let is : v ≡ all_repeated t = repeated-last t v w.repeated (asks-write v found skips false w.none w.found_is w.skipped last) in
    let whole = record left { writer = rewritten left.writer found again } in
    let passes_v : whole ≡ passed v.artifacts v.row.at (block_of v).hi = ap (λ (x : ArtifactsMeaning). record x { writer = rewritten x.writer found again }) passes in
    let f1 = subst (λ x. IsFinish x next (block_of t).hi tally whole end new) (sym rules) finish in
    let f2 = subst (λ x. IsFinish u.rules x (block_of t).hi tally whole end new) grown f1 in
    let f3 = subst (λ x. IsFinish u.rules v.row x tally whole end new) (sym hi) f2 in
    let done = whole-tried v tally whole new end w.none (tally-writer u.artifacts (rewritten u.artifacts.writer found again) u.row.at (block_of u).hi tally le_u counted) passes_v f3 in
    (grown ∙ ap (λ (x : TaskState). x.row) is, subst (λ x. IsTried x end new) is done)

-- A FAULT

asks-settled : (u : TaskState) (k : ℕ) (class : ClassId) (choice : Choice) → settled_at u ≡ Some k → fault_in (entry u.artifacts k) ≡ Some class → choice ≡ choice_at u.rules u.row class (skips_before u.row u.artifacts k) → is_again choice ≡ false → asks_repeat u ≡ false
unfolding asks_repeat
asks-settled u k class choice at fault chosen last =
    ap (λ s. repeats u.rules u.row (fault_at u s) (skips_at u s)) at
    ∙ ap (λ f. repeats u.rules u.row f (skips_before u.row u.artifacts k)) fault
    ∙ ap is_again (sym chosen) ∙ last

-- a chunk that a record's fault settled
pub stopped-tried : (t : TaskState) (k : ℕ) (class : ClassId) (choice : Choice) (row : Row) (left new : ArtifactsMeaning) (end : Outcome) (found : Numbered) → length t.artifacts.writer.written ≡ t.row.written → IsGathered t (Settled k class choice) found row left → end ≡ end_by no_counts class choice → new ≡ record left { reader = opened left.reader row.at } → (row ≡ (all_repeated t).row) × IsTried (all_repeated t) end new
stopped-tried t k class choice row left new end found count (u, repeated, row_is, at, fault, chosen, unskipped, last, passes) ends opens =
    let is : u ≡ all_repeated t = repeated-last t u repeated (asks-settled u k class choice at fault chosen last) in
    let place = ap (λ (x : Row). record left { reader = opened left.reader x.at }) row_is in
    let written = ap (λ (x : Writer). length x.written) repeated.artifacts.writer ∙ count ∙ sym (ap (λ (x : Row). x.written) repeated.row) in
    let done = settled-tried u k class left new end written at fault (ap is_skip (sym chosen) ∙ unskipped) passes (ends ∙ ap (end_by no_counts class) chosen) (opens ∙ place) in
    (row_is ∙ ap (λ (x : TaskState). x.row) is, subst (λ x. IsTried x end new) is done)

-- where the reader may be opened again, and how much is written
pub record IsWithin (t : TaskState) (row : Row) (left : ArtifactsMeaning) : Type 0 where
  pub at : row.at ≡ t.row.at
  pub hi : row.hi ≡ t.row.hi
  pub kept : row.written ≡ t.row.written
  pub first : left.reader.first ≡ t.artifacts.reader.first
  pub end : reader_end left.reader ≡ reader_end t.artifacts.reader
  pub written : left.writer.written ≡ t.artifacts.writer.written

within-by : (t u : TaskState) (row : Row) (left : ArtifactsMeaning) (n : ℕ) → IsRepeated t u → row ≡ u.row → left ≡ passed u.artifacts u.row.at n → IsWithin t row left
within-by t u row left n repeated row_is passes =
    let same = row_is ∙ repeated.row in
    record {
      at = ap (λ (x : Row). x.at) same;
      hi = ap (λ (x : Row). x.hi) same;
      kept = ap (λ (x : Row). x.written) same;
      first = ap (λ (x : ArtifactsMeaning). x.reader.first) passes ∙ ap (λ (x : Reader). x.first) repeated.artifacts.reader;
      end = ap (λ (x : ArtifactsMeaning). reader_end x.reader) passes ∙ ap (λ (x : Reader). reader_end x) repeated.artifacts.reader;
      written = ap (λ (x : ArtifactsMeaning). x.writer.written) passes ∙ ap (λ (x : Writer). x.written) repeated.artifacts.writer;
    }

pub settled-within : (t : TaskState) (k : ℕ) (class : ClassId) (choice : Choice) (row : Row) (left : ArtifactsMeaning) (found : Numbered) → IsGathered t (Settled k class choice) found row left → IsWithin t row left
settled-within t k class choice row left found (u, repeated, row_is, at, fault, chosen, unskipped, last, passes) = within-by t u row left _ repeated row_is passes

pub whole-within : (t : TaskState) (tally : Yield) (row : Row) (left : ArtifactsMeaning) → IsWhole t tally row left → IsWithin t row left × (left.reader.place ≡ (block_of t).hi)
whole-within t tally row left (u, repeated, row_is, none, counted, passes) =
    (within-by t u row left _ repeated row_is passes, ap (λ (x : ArtifactsMeaning). x.reader.place) passes ∙ same-hi repeated)

pub whole-tally : (t : TaskState) (tally : Yield) (row : Row) (left : ArtifactsMeaning) → IsWhole t tally row left → (w : ArtifactsMeaning) × IsTally w t.row.at (block_of t).hi tally
whole-tally t tally row left (u, repeated, row_is, none, counted, passes) =
    let at : u.row.at ≡ t.row.at = ap (λ (x : Row). x.at) repeated.row in
    (u.artifacts, subst (λ x. IsTally u.artifacts x (block_of t).hi tally) at (subst (λ x. IsTally u.artifacts u.row.at x tally) (same-hi repeated) counted))

-- WITHOUT MEMORY

may-written : (w : ArtifactsMeaning) (lo hi m : ℕ) (plans : FaultTable) → MayBeUsed lo hi plans (written_times m plans (results w lo hi))
may-written w lo hi zero plans = may-same lo hi plans
may-written w lo hi (suc m) plans =
    let p = written_times m plans (results w lo hi) in
    may-trans lo hi _ _ _ (may-written w lo hi m plans) (may-used_for p (failing p (results w lo hi)) lo hi (λ r e. failing-of p w lo hi r e))

pub whole-torn : (t : TaskState) (tally : Yield) (row : Row) (left new : ArtifactsMeaning) → t.row.at ≤ (block_of t).hi → IsWhole t tally row left → IsTornWrite left tally.found new → IsTorn t.row.at (block_of t).hi t.artifacts new
whole-torn t tally row left new le (u, repeated, row_is, none, counted, passes) torn =
    let at : u.row.at ≡ t.row.at = ap (λ (x : Row). x.at) repeated.row in
    let hi = same-hi repeated in
    let le_u : (block_of u).hi ≤ (block_of t).hi = omega (arith, hi) in
    let worn0 = worn-passed u.artifacts left u.row.at (block_of u).hi (block_of t).hi le_u passes in
    let worn = subst (λ lo. IsWornTo lo (block_of t).hi u.artifacts left) at worn0 in
    let read = restored-worn t.row.at (block_of t).hi t.artifacts u.artifacts left repeated.artifacts worn in
    let others = torn.others in
    let found : tally.found ≡ results u.artifacts t.row.at (block_of t).hi = counted.found ∙ (λ i. results u.artifacts (at i) (hi i)) in
    let plans = torn.plans ∙ ap (written_times torn.again left.writer.faults) found in
    let used = subst (λ p. MayBeUsed t.row.at (block_of t).hi left.writer.faults p) (sym plans) (may-written u.artifacts t.row.at (block_of t).hi torn.again left.writer.faults) in
    let kept : left.writer.written ≡ t.artifacts.writer.written = (within-by t u row left (block_of u).hi repeated row_is passes).written in
    let long = ap length kept in
    let longer = torn.longer in
    record {
      reader = ap (λ (x : ArtifactsMeaning). x.reader) others ∙ read.reader ∙ (λ i. record t.artifacts.reader { place = (sym others i).reader.place; faults = (sym others i).reader.faults });
      processor = ap (λ (x : ArtifactsMeaning). x.processor) others ∙ read.processor ∙ (λ i. record t.artifacts.processor { faults = (sym others i).processor.faults });
      collector = ap (λ (x : ArtifactsMeaning). x.collector) others ∙ read.collector;
      read_plans = subst (λ (x : ArtifactsMeaning). MayBeUsed t.row.at (block_of t).hi t.artifacts.reader.faults x.reader.faults) (sym others) read.read_plans;
      process_plans = subst (λ (x : ArtifactsMeaning). MayBeUsed t.row.at (block_of t).hi t.artifacts.processor.faults x.processor.faults) (sym others) read.process_plans;
      write_plans = may-trans t.row.at (block_of t).hi _ _ _ read.write_plans used;
      written = subst (λ xs. take (length xs) new.writer.written ≡ xs) kept torn.written;
      longer = omega (arith, long, longer);
    }

-- HOW A WRITE CALL ENDS THE BLOCK

skips-now : (row now : Row) (tally : Yield) (again : ℕ) → now ≡ repeated_row row again → skips_of now + tally.skips ≡ skips_of row + tally.skips
skips-now row now tally again e = ap (λ (x : Row). skips_of x + tally.skips) e

records-now : (row now : Row) (hi again : ℕ) → now ≡ repeated_row row again → hi - now.at ≡ hi - row.at
records-now row now hi again e = ap (λ (x : Row). hi - x.at) e

pub put-written : (rules : RulesRecord) (row now : Row) (hi : ℕ) (w left : ArtifactsMeaning) (tally : Yield) (end : Outcome) → w.reader.place ≡ hi → length w.writer.written ≡ row.written → IsPut rules (skips_of row + tally.skips) row w tally.found (Ok tt) now left → end ≡ Committed (counts_by (hi - row.at) tally (length tally.found) 0) → IsFinishAfter rules row hi tally w end now left
put-written rules row now hi w left tally end place count put ends =
    let found = tally.found in
    let fault = put.answered.0 in
    let writer = rewritten w.writer found put.again in
    let kept : now.written ≡ row.written = ap (λ (x : Row). x.written) put.grown in
    let whole = sym (whole-kept writer found now.written (count ∙ sym kept) fault) in (
      put.again,
      record { grown = put.grown; asked = put.asked; last = ap (λ f. repeats rules now f (skips_of row + tally.skips)) fault },
      record {
        ended =
            ends
            ∙ ap (λ n. Committed (counts_by n tally (length found) 0)) (sym (records-now row now hi put.again put.grown))
            ∙ ap (λ f. end_from rules now (hi - now.at) tally f (skips_of now + tally.skips)) (sym fault);
        left =
            put.answered.2
            ∙ (λ i. record w { reader = opened w.reader (place i); writer = whole i })
            ∙ ap (λ e. at_checkpoint (row_after now hi e) (record w { writer = after_write writer found })) (sym ends);
      },
    )

-- a fault keeps no result of the write
fault-kept : (row : Row) (hi : ℕ) (skipped : Counts) (class : ClassId) (choice : Choice) → skipped.write ≡ 0 → row.written ≡ (row_after row hi (end_by skipped class choice)).written
fault-kept row hi skipped class Skip none = omega (arith, none)
fault-kept row hi skipped class Retry none = refl
fault-kept row hi skipped class Again none = refl
fault-kept row hi skipped class Fail none = refl

pub put-faulted : (rules : RulesRecord) (row now : Row) (hi : ℕ) (w left back new : ArtifactsMeaning) (tally : Yield) (class : ClassId) (end : Outcome) → IsPut rules (skips_of row + tally.skips) row w tally.found (Err (Fault class)) now left → end ≡ end_from rules now (hi - row.at) tally (Some class) (skips_of row + tally.skips) → back ≡ record left { writer = cut left.writer now.written } → new ≡ record back { reader = opened back.reader (row_after now hi end).at } → IsFinishAfter rules row hi tally w end now new
put-faulted rules row now hi w left back new tally class end put ends cuts opens =
    let found = tally.found in
    let skips = skips_of row + tally.skips in
    let fault = put.faulted.0 in
    let writer = rewritten w.writer found put.again in
    let kept = fault-kept now hi (counts_by (hi - row.at) tally 0 1) class (choice_at rules now class skips) refl in (
      put.again,
      record { grown = put.grown; asked = put.asked; last = ap (λ f. repeats rules now f skips) fault ∙ put.last },
      record {
        ended =
            ends
            ∙ ap (λ n. end_from rules now n tally (Some class) skips) (sym (records-now row now hi put.again put.grown))
            ∙ ap (λ n. end_from rules now (hi - now.at) tally (Some class) n) (sym (skips-now row now tally put.again put.grown))
            ∙ ap (λ f. end_from rules now (hi - now.at) tally f (skips_of now + tally.skips)) (sym fault);
        left =
            opens
            ∙ ap (λ (v : ArtifactsMeaning). record v { reader = opened v.reader (row_after now hi end).at }) (cuts ∙ ap (λ (v : ArtifactsMeaning). record v { writer = cut v.writer now.written }) put.faulted.1)
            ∙ ap (λ n. record w { reader = opened w.reader (row_after now hi end).at; writer = cut (after_write writer found) n }) (kept ∙ ap (λ e. (row_after now hi e).written) (sym ends));
      },
    )

pub put-torn : (rules : RulesRecord) (skips : ℕ) (row now : Row) (w left : ArtifactsMeaning) (found : Numbered) → IsPut rules skips row w found (Err Memory) now left → IsTornWrite w found left
put-torn rules skips row now w left found put =
    let is = put.no_memory in
    let more = texts_of (take (length left.writer.written - length w.writer.written) found) in
    let grown : left.writer.written ≡ w.writer.written ++ more = ap (λ (v : ArtifactsMeaning). v.writer.written) is in
    let long = ap length grown in
    let longer = front-longer w.writer.written more in
    record {
      again = put.again;
      others = is ∙ (λ i. record w { writer = (sym is i).writer });
      plans = ap (λ (v : ArtifactsMeaning). v.writer.faults) is;
      written = ap (take (length w.writer.written)) grown ∙ take-append_seam w.writer.written more;
      longer = omega (arith, long, longer);
    }
