-- A record that was read and processed, with repeats; and a block whose records are done one after another.
use Rattle.std.proofs.Common.{◌≡◌, ℕ, zero, suc, ◌+◌, ◌≤◌, ◌<◌, inl, inr, Bool, false, List, [], ◌++◌, length, take, option_to_list, Option, Some, None, Ok, Err, refl, ap, sym, ◌∙◌, subst, arith}
use Rattle.std.proofs.lemmas.Grind.{common_steps}
use Rattle.jb_base.specs.declared.class.ClassId.{ClassId}
use Rattle.jb_base.specs.declared.artifact_error.ArtifactError.TheVariants.{Fault, Memory}
use Rattle.jb_base.specs.Rules.{RulesRecord}
use Rattle.jb_rules.specs.declared.row.Row.{Row}
use Rattle.jb_rules.specs.declared.choice.Choice.{Choice}
use Rattle.jb_rules.specs.Rows.{repeated_row, skips_of}
use Rattle.jb_artifacts.specs.Faults.{FaultTable, live, used_at}
use Rattle.jb_artifacts.specs.Reader.{Reader, reader_end, record_at, after_read}
use Rattle.jb_artifacts.specs.Writer.{Writer, Numbered}
use Rattle.jb_artifacts.specs.Meaning.{ArtifactsMeaning}
use Rattle.jb_chunk.specs.declared.entry.EntryKind.TheVariants as kind
use Rattle.jb_chunk.specs.declared.gather.Gathered.TheVariants.{Settled}
use Rattle.jb_chunk.specs.Attempt.{IsRestored, block_of}
use Rattle.jb_chunk.specs.TaskState.{TaskState}
use Rattle.jb_chunk.specs.Block.{entry, entry_by, repeats, is_again, choice_at, settling, passed, MayBeUsed}
use Rattle.jb_chunk.specs.Entries.{Entry, ReadFault, ProcessFault, Processed, fault_in, numbered}
use Rattle.jb_chunk.specs.inside.Gathering.{Yield, IsTally, IsGatheringStep, IsWornTo, passed_one, processed_at}
use Rattle.jb_chunk.specs.inside.Repeats.{AreRepeats, next_fault, called_times, called, IsRead, IsProcessed, IsDone, IsEntered, IsGathering, IsWhole, IsGathered}
use Rattle.jb_chunk.specs.inside.TriedChunk.{IsTorn}
use Rattle.jb_chunk.proofs.RecordCounts.{tally-more}
use Rattle.jb_chunk.proofs.PassedRecords.{entry-passed, passed-none}
use Rattle.jb_chunk.proofs.RecordRepeats.{IsBetween, IsAfter, done-after, row-none}
use Rattle.jb_chunk.proofs.ChunkRepeats.{same-rules, same-hi, may-same, may-trans, may-used_at, repeated-none}
use Rattle.jb_chunk.proofs.SettlingRecord.{settling-none, skips-tally, step-some, step-none}
use Rattle.jb_chunk.proofs.UsedPlans.{worn-passed, worn-trans, worn-wide}

-- ONE RECORD

called-entry : (w : ArtifactsMeaning) (k reads processes : ℕ) (r p : Option ClassId) → live (called_times reads w.reader.faults k k) ≡ r → live (called_times processes w.processor.faults k k) ≡ p → entry_by r p (w.processor.answer k (record_at w.reader k)) ≡ entry (called w k reads processes) k
unfolding entry
called-entry w k reads processes r p er ep = λ i. entry_by (sym er i) (sym ep i) (w.processor.answer k (record_at w.reader k))

read-entry : (w : ArtifactsMeaning) (k reads : ℕ) (class : ClassId) → live (called_times reads w.reader.faults k k) ≡ Some class → ReadFault class ≡ entry (called w k reads 0) k
read-entry w k reads class e = called-entry w k reads 0 (Some class) _ e refl

read-one : (w left : ArtifactsMeaning) (k m : ℕ) (class : ClassId) → w.reader.place ≡ k → live (called_times m w.reader.faults k k) ≡ Some class → left ≡ record w { reader = after_read (called w k m 0).reader } → left ≡ passed_one (called w k m 0) k
read-one w left k m class place fault e =
    e
    ∙ (λ i. record w {
      reader = record w.reader { place = place i + 1; faults = used_at (called_times m w.reader.faults k) (place i) };
      processor = record w.processor { faults = processed_at (sym fault i) w.processor.faults k };
    })

read-fault-done : (rules : RulesRecord) (skips : ℕ) (row : Row) (w : ArtifactsMeaning) (k : ℕ) (class : ClassId) (now : Row) (left : ArtifactsMeaning) → w.reader.place ≡ k → IsRead rules skips row w k (Err (Fault class)) now left → IsDone rules skips row w k (ReadFault class) now left
read-fault-done rules skips row w k class now left place r = record {
  reads = r.again;
  processes = 0;
  grown = r.grown ∙ row-none (repeated_row row r.again);
  read = r.asked;
  processed = λ j lt. absurd (omega (arith, lt));
  read_first = inl refl;
  becomes = read-entry w k r.again class r.faulted.0;
  last = r.last;
  passes = read-one w left k r.again class place r.faulted.0 r.faulted.1;
}

process-one : (w between left : ArtifactsMeaning) (k reads processes : ℕ) → w.reader.place ≡ k → live (called_times reads w.reader.faults k k) ≡ None → between ≡ record w { reader = after_read (called w k reads 0).reader } → left ≡ record between { processor = record between.processor { faults = used_at (called_times processes between.processor.faults k) k } } → left ≡ passed_one (called w k reads processes) k
process-one w between left k reads processes place sound b e =
    e
    ∙ ap (λ (v : ArtifactsMeaning). record v { processor = record v.processor { faults = used_at (called_times processes v.processor.faults k) k } }) b
    ∙ (λ i. record w {
      reader = record w.reader { place = place i + 1; faults = used_at (called_times reads w.reader.faults k) (place i) };
      processor = record w.processor { faults = processed_at (sym sound i) (called_times processes w.processor.faults k) k };
    })

-- the read's part of what the process call keeps
process-done : (rules : RulesRecord) (skips : ℕ) (row between now : Row) (w v left : ArtifactsMeaning) (k : ℕ) (item : List ℕ) (processes : ℕ) (o : Option ClassId) (e : Entry) → w.reader.place ≡ k → IsRead rules skips row w k (Ok item) between v
    → now ≡ repeated_row between processes → AreRepeats rules skips between (next_fault v.processor.faults k) processes
    → live (called_times processes v.processor.faults k k) ≡ o → e ≡ entry_by None o (w.processor.answer k (record_at w.reader k))
    → left ≡ record v { processor = record v.processor { faults = used_at (called_times processes v.processor.faults k) k } }
    → repeats rules now (fault_in e) skips ≡ false → IsDone rules skips row w k e now left
process-done rules skips row between now w v left k item processes o e place r grown asked fault is leaves last =
    let same : v.processor.faults ≡ w.processor.faults = ap (λ (x : ArtifactsMeaning). x.processor.faults) r.answered.2 in
    record {
      reads = r.again;
      processes = processes;
      grown = grown ∙ ap (λ x. repeated_row x processes) r.grown;
      read = r.asked;
      processed = subst (λ (x : Row). AreRepeats rules skips x (next_fault w.processor.faults k) processes) r.grown (subst (λ plans. AreRepeats rules skips between (next_fault plans k) processes) same asked);
      read_first = inr r.answered.0;
      becomes = is ∙ called-entry w k r.again processes None o r.answered.0 (ap (λ plans. live (called_times processes plans k k)) (sym same) ∙ fault);
      last = last;
      passes = process-one w v left k r.again processes place r.answered.0 r.answered.2 leaves;
    }

answer-same : (w v : ArtifactsMeaning) (k m : ℕ) (item : List ℕ) → v ≡ record w { reader = after_read (called w k m 0).reader } → item ≡ record_at w.reader k → v.processor.answer k item ≡ w.processor.answer k (record_at w.reader k)
answer-same w v k m item at is = ap (λ (x : ArtifactsMeaning). x.processor.answer k item) at ∙ ap (w.processor.answer k) is

process-fault-done : (rules : RulesRecord) (skips : ℕ) (row between now : Row) (w v left : ArtifactsMeaning) (k : ℕ) (item text : List ℕ) (class : ClassId) → w.reader.place ≡ k → IsRead rules skips row w k (Ok item) between v → text ≡ item → IsProcessed rules skips between v k text (Err (Fault class)) now left → IsDone rules skips row w k (ProcessFault class) now left
process-fault-done rules skips row between now w v left k item text class place r same p =
    process-done rules skips row between now w v left k item p.again (Some class) (ProcessFault class) place r p.grown p.asked p.faulted.0 refl p.faulted.1 p.last

processed-done : (rules : RulesRecord) (skips : ℕ) (row between now : Row) (w v left : ArtifactsMeaning) (k : ℕ) (item text : List ℕ) (found : Bool) → w.reader.place ≡ k → IsRead rules skips row w k (Ok item) between v → text ≡ item → IsProcessed rules skips between v k text (Ok found) now left → IsDone rules skips row w k (Processed (v.processor.answer k text)) now left
processed-done rules skips row between now w v left k item text found place r same p =
    let is = ap (v.processor.answer k) same ∙ answer-same w v k r.again item r.answered.2 r.answered.1 in
    process-done rules skips row between now w v left k item p.again None (Processed (v.processor.answer k text)) place r p.grown p.asked p.answered.0 (ap Processed is) p.answered.2 refl

-- ITS KIND OF ENTRY

added-none : (before after : Numbered) → after ≡ before → after ≡ before ++ []
added-none before after e = e ∙ grind (arith, common_steps)

pub read-fault-entered : (rules : RulesRecord) (skips : ℕ) (row : Row) (w : ArtifactsMeaning) (k : ℕ) (class : ClassId) (now : Row) (left : ArtifactsMeaning) (results : Numbered) → w.reader.place ≡ k → IsRead rules skips row w k (Err (Fault class)) now left → IsEntered rules skips row w k results (kind.ReadFault class) now left results
read-fault-entered rules skips row w k class now left results place r = record {
  answer = None;
  done = read-fault-done rules skips row w k class now left place r;
  added = added-none results results refl;
}

-- a record that was read is what its bytes are
pub read-same : (rules : RulesRecord) (skips : ℕ) (row between : Row) (w v : ArtifactsMeaning) (k : ℕ) (item : List ℕ) (bytes : List ℕ → List ℕ) → IsRead rules skips row w k (Ok item) between v → bytes (record_at v.reader k) ≡ bytes (record_at w.reader k)
read-same rules skips row between w v k item bytes r = ap (λ (x : ArtifactsMeaning). bytes (record_at x.reader k)) r.answered.2

pub read-there : (rules : RulesRecord) (skips : ℕ) (row between : Row) (w v : ArtifactsMeaning) (k : ℕ) (item : List ℕ) → IsRead rules skips row w k (Ok item) between v → (v.reader.first ≡ w.reader.first) × (reader_end v.reader ≡ reader_end w.reader)
read-there rules skips row between w v k item r = (ap (λ (x : ArtifactsMeaning). x.reader.first) r.answered.2, ap (λ (x : ArtifactsMeaning). reader_end x.reader) r.answered.2)

pub process-fault-entered : (rules : RulesRecord) (skips : ℕ) (row between now : Row) (w v left : ArtifactsMeaning) (k : ℕ) (item text : List ℕ) (class : ClassId) (before after : Numbered) → w.reader.place ≡ k → IsRead rules skips row w k (Ok item) between v → text ≡ item → IsProcessed rules skips between v k text (Err (Fault class)) now left → after ≡ before → IsEntered rules skips row w k before (kind.ProcessFault class) now left after
process-fault-entered rules skips row between now w v left k item text class before after place r same p kept = record {
  answer = None;
  done = process-fault-done rules skips row between now w v left k item text class place r same p;
  added = added-none before after kept;
}

pub processed-entered : (rules : RulesRecord) (skips : ℕ) (row between now : Row) (w v left : ArtifactsMeaning) (k : ℕ) (item text : List ℕ) (found : Bool) (before after : Numbered) → w.reader.place ≡ k → IsRead rules skips row w k (Ok item) between v → text ≡ item → IsProcessed rules skips between v k text (Ok found) now left → after ≡ before ++ option_to_list (numbered k (v.processor.answer k text)) → IsEntered rules skips row w k before kind.Processed now left after
processed-entered rules skips row between now w v left k item text found before after place r same p added = record {
  answer = v.processor.answer k text;
  done = processed-done rules skips row between now w v left k item text found place r same p;
  added = added;
}

-- WITHOUT MEMORY FOR ONE

may-times : (lo hi k m : ℕ) (plans : FaultTable) → lo ≤ k → k < hi → MayBeUsed lo hi plans (called_times m plans k)
may-times lo hi k zero plans from to = may-same lo hi plans
may-times lo hi k (suc m) plans from to = may-trans lo hi _ _ _ (may-times lo hi k m plans from to) (may-used_at lo hi k _ from to)

pub read-worn : (rules : RulesRecord) (skips : ℕ) (row now : Row) (w left : ArtifactsMeaning) (k : ℕ) → IsRead rules skips row w k (Err Memory) now left → IsWornTo k (k + 1) w left
read-worn rules skips row now w left k r =
    subst (λ v. IsWornTo k (k + 1) w v) (sym r.no_memory) (record {
      reader = refl;
      processor = refl;
      writer = refl;
      collector = refl;
      read_plans = may-times k (k + 1) k r.again _ (omega arith) (omega arith);
      process_plans = may-same k (k + 1) _;
    })

pub process-worn : (rules : RulesRecord) (skips : ℕ) (row between now : Row) (w v left : ArtifactsMeaning) (k : ℕ) (item text : List ℕ) → w.reader.place ≡ k → IsRead rules skips row w k (Ok item) between v → IsProcessed rules skips between v k text (Err Memory) now left → IsWornTo k (k + 1) w left
process-worn rules skips row between now w v left k item text place r p =
    let lt : w.reader.place < k + 1 = omega (arith, place) in
    let le : k ≤ w.reader.place = omega (arith, place) in
    let first : IsWornTo k (k + 1) w v = subst (λ x. IsWornTo k (k + 1) w x) (sym r.answered.2) (record {
      reader = refl;
      processor = refl;
      writer = refl;
      collector = refl;
      read_plans = may-trans k (k + 1) _ _ _ (may-times k (k + 1) k r.again _ (omega arith) (omega arith)) (may-used_at k (k + 1) w.reader.place _ le lt);
      process_plans = may-same k (k + 1) _;
    }) in
    let second : IsWornTo k (k + 1) v left = subst (λ x. IsWornTo k (k + 1) v x) (sym p.no_memory) (record {
      reader = refl;
      processor = refl;
      writer = refl;
      collector = refl;
      read_plans = may-same k (k + 1) _;
      process_plans = may-times k (k + 1) k p.again _ (omega arith) (omega arith);
    }) in
    worn-trans k (k + 1) w v left first second

process-plans-worn : (lo hi k : ℕ) (o : Option ClassId) (plans : FaultTable) → lo ≤ k → k < hi → MayBeUsed lo hi plans (processed_at o plans k)
process-plans-worn lo hi k None plans from to = may-used_at lo hi k plans from to
process-plans-worn lo hi k (Some class) plans from to = may-same lo hi plans

pub done-worn : (rules : RulesRecord) (skips : ℕ) (row : Row) (w : ArtifactsMeaning) (k : ℕ) (e : Entry) (now : Row) (left : ArtifactsMeaning) → w.reader.place ≡ k → IsDone rules skips row w k e now left → IsWornTo k (k + 1) w left
done-worn rules skips row w k e now left place done =
    let v = called w k done.reads done.processes in
    subst (λ x. IsWornTo k (k + 1) w x) (sym done.passes) (record {
      reader = refl;
      processor = refl;
      writer = refl;
      collector = refl;
      read_plans = may-trans k (k + 1) _ _ _ (may-times k (k + 1) k done.reads _ (omega arith) (omega arith)) (may-used_at k (k + 1) k _ (omega arith) (omega arith));
      process_plans = may-trans k (k + 1) _ _ _ (may-times k (k + 1) k done.processes _ (omega arith) (omega arith)) (process-plans-worn k (k + 1) k (live (v.reader.faults k)) _ (omega arith) (omega arith));
    })

-- RECORD BY RECORD

pub gathering-none : (t : TaskState) (tally : Yield) → t.artifacts.reader.place ≡ t.row.at → t.row.at ≤ (block_of t).hi → IsTally t.artifacts t.row.at t.row.at tally → IsGathering t t.row.at tally t.row t.artifacts
gathering-none t tally place le counted = record {
  last = t;
  repeated = repeated-none t;
  row = refl;
  passes = passed-none t.artifacts t.row.at place;
  counted = counted;
  none = settling-none t.rules t.row t.artifacts;
}

abbrev skips_now : Row → Yield → ℕ
skips_now row tally = skips_of row + tally.skips

done-at : (t : TaskState) (n : ℕ) (tally : Yield) (now next : Row) (w left : ArtifactsMeaning) (e : Entry) → IsGathering t n tally now w → t.row.at ≤ n → n < (block_of t).hi → IsDone t.rules (skips_now now tally) now w n e next left → (v : TaskState) × IsAfter t v n (skips_now now tally) tally e next left
done-at t n tally now next w left e g from to done =
    let u = g.last in
    let at : u.row.at ≡ t.row.at = ap (λ (x : Row). x.at) g.repeated.row in
    let hi = same-hi g.repeated in
    let skips = skips_now now tally in
    let between : IsBetween t u n skips tally = record {
      repeated = g.repeated;
      from = omega (arith, at, from);
      to = omega (arith, hi, to);
      none = g.none;
      skipped = skips-tally u.row u.artifacts n tally g.counted ∙ ap (λ x. skips_now x tally) (sym g.row);
      counted = g.counted;
    } in
    let a = subst (λ x. IsDone x skips now w n e next left) (sym (same-rules g.repeated)) done in
    let b = subst (λ x. IsDone u.rules skips x w n e next left) g.row a in
    let c = subst (λ x. IsDone u.rules skips u.row x n e next left) g.passes b in
    done-after t u n skips tally e next left between c

pub gathering-more : (t : TaskState) (n : ℕ) (tally new : Yield) (now next : Row) (w left : ArtifactsMeaning) (e : Entry) → IsGathering t n tally now w → t.row.at ≤ n → n < (block_of t).hi → IsDone t.rules (skips_now now tally) now w n e next left → IsGatheringStep t.rules next e n tally None new → IsGathering t (n + 1) new next left
gathering-more t n tally new now next w left e g from to done step =
    let after = done-at t n tally now next w left e g from to done in
    let v = after.0 in
    let a = after.1 in
    let b = a.between in
    let place : e ≡ entry (passed v.artifacts v.row.at n) n = a.becomes ∙ sym (entry-passed v.artifacts v.row.at n) in
    let s1 = subst (λ x. IsGatheringStep x next e n tally None new) (sym (same-rules b.repeated)) step in
    let s2 = subst (λ x. IsGatheringStep v.rules x e n tally None new) a.row s1 in
    let s3 = subst (λ x. IsGatheringStep v.rules v.row x n tally None new) place s2 in
    record {
      last = v;
      repeated = b.repeated;
      row = a.row;
      passes = a.passes;
      counted = tally-more v.artifacts (passed v.artifacts v.row.at n) v.row.at n tally new b.from refl b.counted s3.1;
      none = step-none v.rules v.row v.artifacts (passed v.artifacts v.row.at n) n tally new b.from refl b.counted b.none s3;
    }

not-again : (rules : RulesRecord) (row : Row) (class : ClassId) (skips : ℕ) (fault : Option ClassId) → fault ≡ Some class → repeats rules row fault skips ≡ false → is_again (choice_at rules row class skips) ≡ false
not-again rules row class skips fault e last = ap (λ f. repeats rules row f skips) (sym e) ∙ last

pub gathering-settled : (t : TaskState) (n : ℕ) (tally new : Yield) (now next : Row) (w left : ArtifactsMeaning) (e : Entry) (class : ClassId) (choice : Choice) (found : Numbered) → IsGathering t n tally now w → t.row.at ≤ n → n < (block_of t).hi → IsDone t.rules (skips_now now tally) now w n e next left → IsGatheringStep t.rules next e n tally (Some (class, choice)) new → IsGathered t (Settled n class choice) found next left
gathering-settled t n tally new now next w left e class choice found g from to done step =
    let after = done-at t n tally now next w left e g from to done in
    let v = after.0 in
    let a = after.1 in
    let b = a.between in
    let place : e ≡ entry (passed v.artifacts v.row.at n) n = a.becomes ∙ sym (entry-passed v.artifacts v.row.at n) in
    let s1 = subst (λ x. IsGatheringStep x next e n tally (Some (class, choice)) new) (sym (same-rules b.repeated)) step in
    let s2 = subst (λ x. IsGatheringStep v.rules x e n tally (Some (class, choice)) new) a.row s1 in
    let s3 = subst (λ x. IsGatheringStep v.rules v.row x n tally (Some (class, choice)) new) place s2 in
    let settled = step-some v.rules v.row v.artifacts (passed v.artifacts v.row.at n) n (block_of v).hi tally new class choice b.from b.to refl b.counted b.none s3 in
    let last = not-again v.rules v.row class (skips_now now tally) (fault_in (entry v.artifacts n)) settled.1 a.last in (
      v,
      b.repeated,
      a.row,
      settled.0,
      settled.1,
      settled.2,
      settled.3,
      ap is_again (settled.2 ∙ ap (choice_at v.rules v.row class) b.skipped) ∙ last,
      a.passes,
    )

pub gathering-whole : (t : TaskState) (n : ℕ) (tally : Yield) (now : Row) (left : ArtifactsMeaning) → n ≡ (block_of t).hi → IsGathering t n tally now left → IsWhole t tally now left
gathering-whole t n tally now left end g =
    let u = g.last in
    let same : (block_of u).hi ≡ (block_of t).hi = same-hi g.repeated in
    let hi : n ≡ (block_of u).hi = end ∙ sym same in (
      u,
      g.repeated,
      g.row,
      ap (settling u.rules u.row u.artifacts) (sym hi) ∙ g.none,
      subst (λ x. IsTally u.artifacts u.row.at x tally) hi g.counted,
      g.passes ∙ ap (passed u.artifacts u.row.at) hi,
    )

-- where the reader stands between two records
pub record IsStanding (t : TaskState) (n : ℕ) (now : Row) (left : ArtifactsMeaning) : Type 0 where
  pub place : left.reader.place ≡ n
  pub first : left.reader.first ≡ t.artifacts.reader.first
  pub end : reader_end left.reader ≡ reader_end t.artifacts.reader

pub gathering-stands : (t : TaskState) (n : ℕ) (tally : Yield) (now : Row) (left : ArtifactsMeaning) → IsGathering t n tally now left → IsStanding t n now left
gathering-stands t n tally now left g = record {
  place = ap (λ (x : ArtifactsMeaning). x.reader.place) g.passes;
  first = ap (λ (x : ArtifactsMeaning). x.reader.first) g.passes ∙ ap (λ (x : Reader). x.first) g.repeated.artifacts.reader;
  end = ap (λ (x : ArtifactsMeaning). reader_end x.reader) g.passes ∙ ap (λ (x : Reader). reader_end x) g.repeated.artifacts.reader;
}

-- WITHOUT MEMORY

take-same : (xs ys : List (List ℕ)) → ys ≡ xs → take (length xs) ys ≡ xs
take-same xs ys e = rw e (grind (arith, common_steps))

same-longer : (xs ys : List (List ℕ)) → ys ≡ xs → length xs ≤ length ys
same-longer xs ys e = let same = ap length e in omega (arith, same)

pub restored-worn : (lo hi : ℕ) (a b c : ArtifactsMeaning) → IsRestored lo hi a b → IsWornTo lo hi b c → IsTorn lo hi a c
restored-worn lo hi a b c one two =
    let written : c.writer.written ≡ a.writer.written = ap (λ (w : Writer). w.written) (two.writer ∙ one.writer) in
    record {
      reader = two.reader ∙ (λ i. record (one.reader i) { place = c.reader.place; faults = c.reader.faults });
      processor = two.processor ∙ (λ i. record (one.processor i) { faults = c.processor.faults });
      collector = two.collector ∙ one.collector;
      read_plans = may-trans lo hi _ _ _ one.read_plans two.read_plans;
      process_plans = may-trans lo hi _ _ _ one.process_plans two.process_plans;
      write_plans = subst (λ (w : Writer). MayBeUsed lo hi a.writer.faults w.faults) (sym two.writer) one.write_plans;
      written = take-same a.writer.written c.writer.written written;
      longer = same-longer a.writer.written c.writer.written written;
    }

pub gathering-torn : (t : TaskState) (n : ℕ) (tally : Yield) (now : Row) (w left : ArtifactsMeaning) → IsGathering t n tally now w → t.row.at ≤ n → n < (block_of t).hi → IsWornTo n (n + 1) w left → IsTorn t.row.at (block_of t).hi t.artifacts left
gathering-torn t n tally now w left g from to worn =
    let u = g.last in
    let at : u.row.at ≡ t.row.at = ap (λ (x : Row). x.at) g.repeated.row in
    let first = worn-passed u.artifacts w u.row.at n (block_of t).hi (omega (arith, to)) g.passes in
    let here = subst (λ lo. IsWornTo lo (block_of t).hi u.artifacts w) at first in
    let there = worn-wide n (n + 1) t.row.at (block_of t).hi w left from (omega (arith, to)) worn in
    restored-worn t.row.at (block_of t).hi t.artifacts u.artifacts left g.repeated.artifacts (worn-trans t.row.at (block_of t).hi u.artifacts w left here there)
