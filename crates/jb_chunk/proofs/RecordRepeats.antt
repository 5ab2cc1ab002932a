-- A record whose calls are repeated, in the middle of its block.
use Rattle.std.proofs.Common.{◌≡◌, ℕ, zero, suc, ◌+◌, ◌-◌, ◌≤◌, ◌<◌, ◌⊎◌, inl, inr, Bool, true, false, not, ◌&&◌, nat_lt, cond, Option, Some, None, is_some, refl, ap, sym, ◌∙◌, subst, arith, eqb}
use Rattle.std.specs.Prelude.{nat_le}
use Rattle.std.specs.List.{find, range_with_len, filter_map, cons_option, count_by}
use Rattle.std.proofs.lemmas.Bool.{ltb-true}
use Rattle.std.proofs.lemmas.Bool.Decides.{nat_tests}
use Rattle.std.proofs.Math.Nat.{eq-or-lt_of_le}
use Rattle.std.proofs.lemmas.List.Sums.{sum_by-cons}
use Rattle.jb_base.specs.declared.class.ClassId.{ClassId}
use Rattle.jb_base.specs.Rules.{RulesRecord}
use Rattle.jb_rules.specs.declared.row.Row.{Row}
use Rattle.jb_rules.specs.Rows.{repeated_row, skips_of}
use Rattle.jb_artifacts.specs.declared.faults.FaultPlan.{FaultPlan}
use Rattle.jb_artifacts.specs.Faults.{FaultTable, used, used_at, live, is_live}
use Rattle.jb_artifacts.specs.Reader.{record_at}
use Rattle.jb_artifacts.specs.Meaning.{ArtifactsMeaning}
use Rattle.jb_chunk.specs.Attempt.{settled_at, fault_at, skips_at, called_again, repeated_artifacts, asks_repeat, block_of}
use Rattle.jb_chunk.specs.TaskState.{TaskState}
use Rattle.jb_chunk.specs.Block.{entry, entry_by, settles, settling, stops, repeats, skips_before, count_of, results, used_between, passed}
use Rattle.jb_chunk.specs.Entries.{Entry, ReadFault, ProcessFault, Processed, fault_in, is_fault, is_read_fault, text_in, numbered}
use Rattle.jb_chunk.specs.inside.Gathering.{Yield, IsTally, passed_one}
use Rattle.jb_chunk.specs.inside.Repeats.{IsRepeated, AreRepeats, next_fault, called_times, called, IsDone}
use Rattle.jb_chunk.proofs.PassedRecords.{fun_ext, between-outside, entry-passed, passed-more}
use Rattle.jb_chunk.proofs.ChunkRepeats.{repeats-stops, stops-kept, repeated-more}
use Rattle.jb_chunk.proofs.SettlingRecord.{settling-found}
use Rattle.jb_chunk.proofs.CalmRecords.{find-idle}

-- RECORDS OF WHICH NOTHING CHANGED

-- the records before `n` are the same
abbrev Alike : (lo n : ℕ) → ArtifactsMeaning → ArtifactsMeaning → Type 0
Alike lo n w v = (k : ℕ) → lo ≤ k → k < lo + n → entry v k ≡ entry w k

alike-rest : (lo n : ℕ) (w v : ArtifactsMeaning) → Alike lo (suc n) w v → Alike (lo + 1) n w v
alike-rest lo n w v same k le lt = same k (omega (arith, le)) (omega (arith, lt))

count-alike : (p : Entry → Bool) (w v : ArtifactsMeaning) (n lo : ℕ) → Alike lo n w v → count_by (λ k. p (entry v k)) (range_with_len lo n) ≡ count_by (λ k. p (entry w k)) (range_with_len lo n)
count-alike p w v zero lo same = refl
count-alike p w v (suc n) lo same =
    let first = same lo (omega arith) (omega arith) in
    let rest = count-alike p w v n (lo + 1) (alike-rest lo n w v same) in
    sum_by-cons (λ k. cond (p (entry v k)) 1 0) lo (range_with_len (lo + 1) n)
    ∙ (λ i. cond (p (first i)) 1 0 + rest i)
    ∙ sym (sum_by-cons (λ k. cond (p (entry w k)) 1 0) lo (range_with_len (lo + 1) n))

results-alike : (w v : ArtifactsMeaning) (n lo : ℕ) → Alike lo n w v → filter_map (λ k. numbered k (text_in (entry v k))) (range_with_len lo n) ≡ filter_map (λ k. numbered k (text_in (entry w k))) (range_with_len lo n)
results-alike w v zero lo same = refl
results-alike w v (suc n) lo same =
    let first = same lo (omega arith) (omega arith) in
    let rest = results-alike w v n (lo + 1) (alike-rest lo n w v same) in
    λ i. cons_option (numbered lo (text_in (first i))) (rest i)

counts-alike : (p : Entry → Bool) (w v : ArtifactsMeaning) (lo n : ℕ) → lo ≤ n → Alike lo (n - lo) w v → count_of p v lo n ≡ count_of p w lo n
unfolding count_of
counts-alike p w v lo n le same = count-alike p w v (n - lo) lo same

alike-in : (lo n k m : ℕ) (w v : ArtifactsMeaning) → lo ≤ m → m ≤ n → Alike lo (n - lo) w v → Alike lo (m - lo) w v
alike-in lo n k m w v from to same j le lt = same j le (omega (arith, from, to, lt))

pub skips-alike : (row : Row) (w v : ArtifactsMeaning) (n k : ℕ) → row.at ≤ k → k ≤ n → Alike row.at (n - row.at) w v → skips_before (repeated_row row 1) v k ≡ skips_before row w k
skips-alike row w v n k from to same =
    ap (λ m. skips_of row + m) (counts-alike is_fault w v row.at k from (alike-in row.at n k k w v from to same))

-- what isn't found holds nowhere
none-holds : (p : ℕ → Bool) (x : ℕ) (b : Bool) (others : Option ℕ) → p x ≡ b → cond b (Some x) others ≡ None → (p x ≡ false) × (others ≡ None)
none-holds p x true others h e = absurd cc
none-holds p x false others h e = (h, e)

pub unfound : (p : ℕ → Bool) (n lo : ℕ) → find p (range_with_len lo n) ≡ None → (k : ℕ) → lo ≤ k → k < lo + n → p k ≡ false
unfound p zero lo none k le lt = absurd (omega (arith, le, lt))
unfound p (suc n) lo none k le lt =
    let parts = none-holds p lo (p lo) (find p (range_with_len (lo + 1) n)) refl none in
    elim (eq-or-lt_of_le le) [
      | inl same ↦ subst (λ x. p x ≡ false) same parts.0
      | inr later ↦ unfound p n (lo + 1) parts.1 k (omega (arith, later)) (omega (arith, lt))
    ]

-- records that are skipped stay so behind a repeat at a later record
settles-alike : (rules : RulesRecord) (row : Row) (w v : ArtifactsMeaning) (n k : ℕ) → row.at ≤ k → k < n → Alike row.at (n - row.at) w v → settles rules row w k ≡ false → settles rules (repeated_row row 1) v k ≡ false
unfolding settles
settles-alike rules row w v n k from to same e =
    let fault = ap fault_in (same k from (omega (arith, from, to))) in
    let skips = skips-alike row w v n k from (omega (arith, to)) same in
    (λ i. stops rules (repeated_row row 1) (fault i) (skips i))
    ∙ stops-kept rules row (fault_in (entry w k)) (skips_before row w k) e

pub settling-alike : (rules : RulesRecord) (row : Row) (w v : ArtifactsMeaning) (n : ℕ) → row.at ≤ n → Alike row.at (n - row.at) w v → settling rules row w n ≡ None → settling rules (repeated_row row 1) v n ≡ None
unfolding settling
settling-alike rules row w v n le same none =
    find-idle (settles rules (repeated_row row 1) v) (n - row.at) row.at
    (λ k from to. settles-alike rules row w v n k from (omega (arith, le, to)) same (unfound (settles rules row w) (n - row.at) row.at none k from to))

pub tally-alike : (w v : ArtifactsMeaning) (lo n : ℕ) (t : Yield) → lo ≤ n → Alike lo (n - lo) w v → IsTally w lo n t → IsTally v lo n t
unfolding results
tally-alike w v lo n t le same tally = record {
  found = tally.found ∙ sym (results-alike w v (n - lo) lo same);
  skips = tally.skips ∙ sym (counts-alike is_fault w v lo n le same);
  read_skips = tally.read_skips ∙ sym (counts-alike is_read_fault w v lo n le same);
}

-- A CALL IS REPEATED AT RECORD `n`

other : (plans : FaultTable) (n k : ℕ) → k < n → used_at plans n k ≡ plans k
unfolding used_at
other plans n k lt = grind (arith, nat_tests)

process-other : (w : ArtifactsMeaning) (n k : ℕ) → k < n → entry (record w { processor = record w.processor { faults = used_at w.processor.faults n } }) k ≡ entry w k
unfolding entry
process-other w n k lt = ap (λ p. entry_by (live (w.reader.faults k)) (live p) (w.processor.answer k (record_at w.reader k))) (other w.processor.faults n k lt)

entry-other : (w : ArtifactsMeaning) (n k : ℕ) (e : Entry) → k < n → entry (called_again w n e) k ≡ entry w k
unfolding entry
entry-other w n k (ReadFault class) lt = ap (λ p. entry_by (live p) (live (w.processor.faults k)) (w.processor.answer k (record_at w.reader k))) (other w.reader.faults n k lt)
entry-other w n k (ProcessFault class) lt = process-other w n k lt
entry-other w n k (Processed answer) lt = process-other w n k lt

alike-call : (w : ArtifactsMeaning) (lo n : ℕ) (e : Entry) → lo ≤ n → Alike lo (n - lo) w (called_again w n e)
alike-call w lo n e le k from to = entry-other w n k e (omega (arith, le, to))

-- where a block is between two records, after some of its repeats
pub record IsBetween (t u : TaskState) (n : ℕ) (skips : ℕ) (tally : Yield) : Type 0 where
  pub repeated : IsRepeated t u
  pub from : u.row.at ≤ n
  pub to : n < (block_of u).hi
  pub none : settling u.rules u.row u.artifacts n ≡ None
  pub skipped : skips_before u.row u.artifacts n ≡ skips
  pub counted : IsTally u.artifacts u.row.at n tally

-- the block when the failing call of record `n` is repeated
abbrev pub recalled : TaskState → ℕ → TaskState
recalled u n = record u { row = repeated_row u.row 1; artifacts = called_again u.artifacts n (entry u.artifacts n) }

settled-here : (u : TaskState) (n : ℕ) → u.row.at ≤ n → n < (block_of u).hi → settling u.rules u.row u.artifacts n ≡ None → stops u.rules u.row (fault_in (entry u.artifacts n)) (skips_before u.row u.artifacts n) ≡ true → settled_at u ≡ Some n
unfolding settles
settled-here u n from to none stops_here = settling-found u.rules u.row u.artifacts n (block_of u).hi from to none stops_here

asks-here : (u : TaskState) (n : ℕ) → settled_at u ≡ Some n → repeats u.rules u.row (fault_in (entry u.artifacts n)) (skips_before u.row u.artifacts n) ≡ true → asks_repeat u ≡ true
unfolding asks_repeat
asks-here u n at e = ap (λ s. repeats u.rules u.row (fault_at u s) (skips_at u s)) at ∙ e

pub called-more : (t u : TaskState) (n skips : ℕ) (tally : Yield) → IsBetween t u n skips tally → repeats u.rules u.row (fault_in (entry u.artifacts n)) skips ≡ true → IsBetween t (recalled u n) n skips tally
called-more t u n skips tally b asked =
    let asks : repeats u.rules u.row (fault_in (entry u.artifacts n)) (skips_before u.row u.artifacts n) ≡ true = ap (repeats u.rules u.row (fault_in (entry u.artifacts n))) b.skipped ∙ asked in
    let at = settled-here u n b.from b.to b.none (repeats-stops u.rules u.row _ _ asks) in
    let more = repeated-more t u b.repeated (asks-here u n at asks) in
    let same = alike-call u.artifacts u.row.at n (entry u.artifacts n) b.from in
    record {
      repeated = subst (IsRepeated t) (ap (λ s. record u { row = repeated_row u.row 1; artifacts = repeated_artifacts u s }) at) more;
      from = b.from;
      to = b.to;
      none = settling-alike u.rules u.row u.artifacts _ n b.from same b.none;
      skipped = skips-alike u.row u.artifacts _ n n b.from (omega arith) same ∙ b.skipped;
      counted = tally-alike u.artifacts _ u.row.at n tally b.from same b.counted;
    }

-- ALL REPEATS AT RECORD `n`

pub row-none : (row : Row) → row ≡ repeated_row row 0
row-none row =
    let retries : row.retries ≡ row.retries + 0 = omega arith in
    let in_place : row.in_place ≡ row.in_place + 0 = omega arith in
    λ i. record row { retries = retries i; in_place = in_place i }

pub row-suc : (row : Row) (n : ℕ) → repeated_row (repeated_row row n) 1 ≡ repeated_row row (suc n)
row-suc row n =
    let retries : row.retries + n + 1 ≡ row.retries + suc n = omega arith in
    let in_place : row.in_place + n + 1 ≡ row.in_place + suc n = omega arith in
    λ i. record row { retries = retries i; in_place = in_place i }

-- what a call's fault makes of the record
read-called : (rules : RulesRecord) (row : Row) (w : ArtifactsMeaning) (n skips : ℕ) (o : Option ClassId) → live (w.reader.faults n) ≡ o → repeats rules row o skips ≡ true → (class : ClassId) × (entry w n ≡ ReadFault class) × (repeats rules row (Some class) skips ≡ true)
unfolding entry
read-called rules row w n skips None e asked = absurd cc
read-called rules row w n skips (Some class) e asked =
    (class, ap (λ o. entry_by o (live (w.processor.faults n)) (w.processor.answer n (record_at w.reader n))) e, asked)

process-called : (rules : RulesRecord) (row : Row) (w : ArtifactsMeaning) (n skips : ℕ) (o : Option ClassId) → live (w.reader.faults n) ≡ None → live (w.processor.faults n) ≡ o → repeats rules row o skips ≡ true → (class : ClassId) × (entry w n ≡ ProcessFault class) × (repeats rules row (Some class) skips ≡ true)
unfolding entry
process-called rules row w n skips None read e asked = absurd cc
process-called rules row w n skips (Some class) read e asked =
    (class, (λ i. entry_by (read i) (e i) (w.processor.answer n (record_at w.reader n))), asked)

abbrev after_calls : TaskState → (n reads processes : ℕ) → TaskState
after_calls u n reads processes = record u { row = repeated_row (repeated_row u.row reads) processes; artifacts = called u.artifacts n reads processes }

abbrev after_reads : TaskState → (n reads : ℕ) → TaskState
after_reads u n reads = record u { row = repeated_row u.row reads; artifacts = called u.artifacts n reads 0 }

fewer : (rules : RulesRecord) (skips : ℕ) (row : Row) (plans : FaultTable) (k m : ℕ) → AreRepeats rules skips row (next_fault plans k) (suc m) → AreRepeats rules skips row (next_fault plans k) m
fewer rules skips row plans k m asked j lt = asked j (omega (arith, lt))

reads-between : (t u : TaskState) (n skips : ℕ) (tally : Yield) (reads : ℕ) → IsBetween t u n skips tally → AreRepeats u.rules skips u.row (next_fault u.artifacts.reader.faults n) reads → IsBetween t (after_reads u n reads) n skips tally
reads-between t u n skips tally zero b asked = subst (λ (row : Row). IsBetween t (record u { row = row }) n skips tally) (row-none u.row) b
reads-between t u n skips tally (suc reads) b asked =
    let v = after_reads u n reads in
    let here = reads-between t u n skips tally reads b (fewer u.rules skips u.row u.artifacts.reader.faults n reads asked) in
    let call = read-called u.rules v.row v.artifacts n skips _ refl (asked reads (omega arith)) in
    let more = called-more t v n skips tally here (ap (λ e. repeats u.rules v.row (fault_in e) skips) call.1 ∙ call.2) in
    let same : recalled v n ≡ after_reads u n (suc reads) = λ i. record u { row = row-suc u.row reads i; artifacts = called_again v.artifacts n (call.1 i) } in
    subst (λ x. IsBetween t x n skips tally) same more

processes-between : (t u : TaskState) (n skips : ℕ) (tally : Yield) (reads processes : ℕ) → IsBetween t (after_reads u n reads) n skips tally → AreRepeats u.rules skips (repeated_row u.row reads) (next_fault u.artifacts.processor.faults n) processes → (processes ≡ 0) ⊎ (live (called_times reads u.artifacts.reader.faults n n) ≡ None) → IsBetween t (after_calls u n reads processes) n skips tally
processes-between t u n skips tally reads zero b asked read = subst (λ (row : Row). IsBetween t (record (after_reads u n reads) { row = row }) n skips tally) (row-none (repeated_row u.row reads)) b
processes-between t u n skips tally reads (suc processes) b asked (inl none) = absurd (omega (arith, none))
processes-between t u n skips tally reads (suc processes) b asked (inr read) =
    let v = after_calls u n reads processes in
    let here = processes-between t u n skips tally reads processes b (fewer u.rules skips (repeated_row u.row reads) u.artifacts.processor.faults n processes asked) (inr read) in
    let call = process-called u.rules v.row v.artifacts n skips _ read refl (asked processes (omega arith)) in
    let more = called-more t v n skips tally here (ap (λ e. repeats u.rules v.row (fault_in e) skips) call.1 ∙ call.2) in
    let same : recalled v n ≡ after_calls u n reads (suc processes) = λ i. record u { row = row-suc (repeated_row u.row reads) processes i; artifacts = called_again v.artifacts n (call.1 i) } in
    subst (λ x. IsBetween t x n skips tally) same more

-- THE ARTIFACTS IN THE MIDDLE OF THE BLOCK

once-alike : (p q : FaultTable) (n : ℕ) → p n ≡ q n → used_at p n n ≡ used_at q n n
unfolding used_at
once-alike p q n e = ap (λ x. cond (eqb n n) (used x) x) e

times-alike : (m : ℕ) (p q : FaultTable) (n : ℕ) → p n ≡ q n → called_times m p n n ≡ called_times m q n n
times-alike zero p q n e = e
times-alike (suc m) p q n e = once-alike (called_times m p n) (called_times m q n) n (times-alike m p q n e)

once-other : (plans : FaultTable) (n k : ℕ) → eqb k n ≡ false → used_at plans n k ≡ plans k
unfolding used_at
once-other plans n k e = ap (λ b. cond b (used (plans k)) (plans k)) e

times-other : (m : ℕ) (plans : FaultTable) (n k : ℕ) → eqb k n ≡ false → called_times m plans n k ≡ plans k
times-other zero plans n k e = refl
times-other (suc m) plans n k e = once-other (called_times m plans n) n k e ∙ times-other m plans n k e

three : (a b c d : Bool) → (b ≡ true → c ≡ d) → (a && b && c) ≡ (a && b && d)
three true true c d h = h refl
three true false c d h = refl
three false true c d h = refl
three false false c d h = refl

times-between-by : (b : Bool) (c d : ℕ → Bool) (plans : FaultTable) (lo n m k : ℕ) → eqb k n ≡ b → ((j : ℕ) → j < n → c j ≡ d j) → called_times m (used_between c plans lo n) n k ≡ used_between d (called_times m plans n) lo n k
unfolding used_between
times-between-by true c d plans lo n m k e same =
    let here : n ≡ k = grind (arith, nat_tests) in
    subst (λ x. called_times m (used_between c plans lo n) n x ≡ used_between d (called_times m plans n) lo n x) here
    (times-alike m _ _ n (between-outside c plans lo n n (omega arith)) ∙ sym (between-outside d (called_times m plans n) lo n n (omega arith)))
times-between-by false c d plans lo n m k e same =
    times-other m _ n k e
    ∙ (λ i. cond (three (nat_le lo k) (nat_lt k n) (c k) (d k) (λ h. same k (ltb-true k n h)) i) (used (sym (times-other m plans n k e) i)) (sym (times-other m plans n k e) i))

times-between : (c d : ℕ → Bool) (plans : FaultTable) (lo n m : ℕ) → ((j : ℕ) → j < n → c j ≡ d j) → called_times m (used_between c plans lo n) n ≡ used_between d (called_times m plans n) lo n
times-between c d plans lo n m same = fun_ext (λ k. times-between-by (eqb k n) c d plans lo n m k refl same)

apart-below : (j n : ℕ) → j < n → eqb j n ≡ false
apart-below j n lt = grind (arith, nat_tests)

called-passed : (w : ArtifactsMeaning) (lo n reads processes : ℕ) → called (passed w lo n) n reads processes ≡ passed (called w n reads processes) lo n
called-passed w lo n reads processes =
    let r = times-between (λ _. true) (λ _. true) w.reader.faults lo n reads (λ j lt. refl) in
    let p = times-between (λ k. not (is_live w.reader.faults k)) (λ k. not (is_live (called_times reads w.reader.faults n) k)) w.processor.faults lo n processes
    (λ j lt. ap (λ (x : FaultPlan). not (is_some (live x))) (sym (times-other reads w.reader.faults n j (apart-below j n lt)))) in
    λ i. record w {
      reader = record w.reader { place = n; faults = r i };
      processor = record w.processor { faults = p i };
    }

asked-passed : (rules : RulesRecord) (skips : ℕ) (row : Row) (c : ℕ → Bool) (plans : FaultTable) (lo n m : ℕ) → AreRepeats rules skips row (next_fault (used_between c plans lo n) n) m → AreRepeats rules skips row (next_fault plans n) m
asked-passed rules skips row c plans lo n m asked j lt =
    ap (λ (p : FaultPlan). repeats rules (repeated_row row j) (live p) skips) (sym (times-alike j _ _ n (between-outside c plans lo n n (omega arith)))) ∙ asked j lt

-- where a record's calls and their repeats left the block
pub record IsAfter (t v : TaskState) (n skips : ℕ) (tally : Yield) (e : Entry) (now : Row) (left : ArtifactsMeaning) : Type 0 where
  pub between : IsBetween t v n skips tally
  pub row : now ≡ v.row
  pub becomes : e ≡ entry v.artifacts n
  pub last : repeats v.rules v.row (fault_in (entry v.artifacts n)) skips ≡ false
  pub passes : left ≡ passed v.artifacts v.row.at (n + 1)

pub done-after : (t u : TaskState) (n skips : ℕ) (tally : Yield) (e : Entry) (now : Row) (left : ArtifactsMeaning) → IsBetween t u n skips tally → IsDone u.rules skips u.row (passed u.artifacts u.row.at n) n e now left → (v : TaskState) × IsAfter t v n skips tally e now left
done-after t u n skips tally e now left b done =
    let lo = u.row.at in
    let reads = done.reads in
    let processes = done.processes in
    let v = after_calls u n reads processes in
    let r = asked-passed u.rules skips u.row (λ _. true) u.artifacts.reader.faults lo n reads done.read in
    let p = asked-passed u.rules skips (repeated_row u.row reads) (λ k. not (is_live u.artifacts.reader.faults k)) u.artifacts.processor.faults lo n processes done.processed in
    let first = ap (λ (x : FaultPlan). live x) (sym (times-alike reads _ _ n (between-outside (λ _. true) u.artifacts.reader.faults lo n n (omega arith)))) in
    let read : (processes ≡ 0) ⊎ (live (called_times reads u.artifacts.reader.faults n n) ≡ None) = elim done.read_first [ inl none ↦ inl none | inr none ↦ inr (first ∙ none) ] in
    let between = processes-between t u n skips tally reads processes (reads-between t u n skips tally reads b r) p read in
    let becomes : e ≡ entry v.artifacts n = done.becomes ∙ ap (λ x. entry x n) (called-passed u.artifacts lo n reads processes) ∙ entry-passed v.artifacts lo n in (
      v,
      record {
        between = between;
        row = done.grown;
        becomes = becomes;
        last = (λ i. repeats u.rules (sym done.grown i) (fault_in (sym becomes i)) skips) ∙ done.last;
        passes = done.passes ∙ ap (λ x. passed_one x n) (called-passed u.artifacts lo n reads processes) ∙ passed-more v.artifacts lo n b.from;
      },
    )
