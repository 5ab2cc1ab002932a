-- A call that is repeated in place.
use Rattle.std.proofs.Common.{◌≡◌, ℕ, suc, ◌+◌, ◌-◌, ◌≤◌, ◌<◌, ◌⊎◌, inl, inr, Bool, true, false, not, List, ◌++◌, length, length-append, option_to_list, is_some, Option, Some, None, Result, Ok, Err, IfOk, OnOk, refl, ap, sym, ◌∙◌, subst, arith, eqb}
use Rattle.std.specs.List.{take_while}
use Rattle.std.proofs.lemmas.Bool.Decides.{nat_tests}
use Rattle.jb_base.specs.declared.class.ClassId.{ClassId}
use Rattle.jb_base.specs.declared.artifact_error.ArtifactError.{ArtifactError}
use Rattle.jb_base.specs.declared.artifact_error.ArtifactError.TheVariants.{Fault, Memory}
use Rattle.jb_base.specs.Limits.{max_in_place}
use Rattle.jb_base.specs.Rules.{RulesRecord}
use Rattle.jb_rules.specs.declared.row.Row.{Row}
use Rattle.jb_rules.specs.Rows.{repeated_row}
use Rattle.jb_artifacts.specs.Answers.{IfFault, IfNoMemory}
use Rattle.jb_artifacts.specs.Faults.{live, used_at, is_live}
use Rattle.jb_artifacts.specs.Reader.{reader_end, opened, record_at, read_fault, after_read}
use Rattle.jb_artifacts.specs.Processor.{process_fault, after_process}
use Rattle.jb_artifacts.specs.Writer.{Numbered, texts_of, cut, write_fault, after_write, torn_write}
use Rattle.jb_artifacts.specs.Meaning.{ArtifactsMeaning}
use Rattle.jb_chunk.specs.Block.{repeats}
use Rattle.jb_chunk.specs.Entries.{numbered}
use Rattle.jb_chunk.specs.TaskState.{HasRepeats}
use Rattle.jb_chunk.specs.inside.Repeats.{Call, called_times, called, next_fault, seen_as, fault_answered, results_behind, read_call, process_call, write_call, IsCalling, IsCalled, IsRead, IsProcessed, IsPut, rewritten, written_times}
use Rattle.jb_chunk.proofs.WrittenResults.{take-front}
use Rattle.jb_chunk.proofs.ChunkRepeats.{repeats-below}
use Rattle.jb_chunk.proofs.RecordRepeats.{row-suc, row-none}

-- a repeat leaves room for those that may follow
pub room-more : (rules : RulesRecord) (row now : Row) (fault : Option ClassId) (skips : ℕ) → HasRepeats rules row → repeats rules row fault skips ≡ true → now ≡ repeated_row row 1 → HasRepeats rules now
room-more rules row now fault skips room asked e =
    let below = repeats-below rules row fault skips asked in
    subst (λ r. HasRepeats rules r) (sym e) (omega (arith, room, below))

-- and was one itself
pub room-one : (rules : RulesRecord) (row : Row) (fault : Option ClassId) (skips : ℕ) → HasRepeats rules row → repeats rules row fault skips ≡ true → row.in_place + 1 ≤ max_in_place
room-one rules row fault skips room asked = let below = repeats-below rules row fault skips asked in omega (arith, room, below)

-- and there are fewer
pub fewer-left : (rules : RulesRecord) (row now : Row) (fault : Option ClassId) (skips : ℕ) → repeats rules row fault skips ≡ true → now ≡ repeated_row row 1 → rules.retry_limit - now.retries < rules.retry_limit - row.retries
fewer-left rules row now fault skips asked e =
    let below = repeats-below rules row fault skips asked in
    let retries : now.retries ≡ row.retries + 1 = ap (λ (r : Row). r.retries) e in
    omega (arith, below, retries)

-- a call that is repeated had a fault
faulted-call : {A : Type 0} {P : ClassId → Type 0} (rules : RulesRecord) (row : Row) (skips : ℕ) (answer : Result A ArtifactError) → IfFault answer P → repeats rules row (fault_answered answer) skips ≡ true → (class : ClassId) × P class × (repeats rules row (Some class) skips ≡ true)
faulted-call rules row skips (Ok x) p asked = absurd cc
faulted-call rules row skips (Err (Fault class)) p asked = (class, p, asked)
faulted-call rules row skips (Err Memory) p asked = absurd cc

last-or-earlier-by : (b : Bool) (j m : ℕ) → eqb j m ≡ b → j < suc m → (j < m) ⊎ (m ≡ j)
last-or-earlier-by true j m e lt = inr (grind (arith, nat_tests))
last-or-earlier-by false j m e lt = inl (grind (arith, nat_tests))

-- what holds below `m` and at `m`
one-more : (P : ℕ → Type 0) (m : ℕ) → ((j : ℕ) → j < m → P j) → P m → (j : ℕ) → j < suc m → P j
one-more P m below here j lt =
    elim (last-or-earlier-by (eqb j m) j m refl lt) [
      | inl earlier ↦ below j earlier
      | inr last ↦ subst P last here
    ]

-- a success that answers nothing
on_ok-if : {A E : Type 0} (P : Type 0) (answer : Result A E) → OnOk answer P → IfOk answer (λ x. P)
on_ok-if P (Ok x) p = p
on_ok-if P (Err e) p = tt

-- ANY CALL

pub calling-none : (rules : RulesRecord) (skips : ℕ) (row : Row) (call : Call) (w : ArtifactsMeaning) → w ≡ call.before 0 → IsCalling rules skips row call row w
calling-none rules skips row call w start = record { again = 0; grown = row-none row; asked = λ j lt. absurd (omega (arith, lt)); passes = start }

-- one more repeat
calling-more : (rules : RulesRecord) (skips : ℕ) (row now next : Row) (call : Call) (left back : ArtifactsMeaning) (class : ClassId) (c : IsCalling rules skips row call now left) → call.fault c.again ≡ Some class → repeats rules now (Some class) skips ≡ true → next ≡ repeated_row now 1 → back ≡ call.before (suc c.again) → IsCalling rules skips row call next back
calling-more rules skips row now next call left back class c fault asked grows passes =
    let grown = c.grown in
    record {
      again = suc c.again;
      grown = grows ∙ ap (λ x. repeated_row x 1) grown ∙ row-suc row c.again;
      asked = one-more (λ j. repeats rules (repeated_row row j) (call.fault j) skips ≡ true) c.again c.asked ((λ i. repeats rules (sym grown i) (fault i) skips) ∙ asked);
      passes = passes;
    }

-- the last call, by what its answer stands for
calling-last : {A B : Type 0} {P : A → Type 0} {Q : ClassId → Type 0} {R : Type 0} (seen : A → B) (rules : RulesRecord) (skips : ℕ) (row now : Row) (call : Call) (value : B) (left new : ArtifactsMeaning) (answer : Result A ArtifactError) (c : IsCalling rules skips row call now left)
    → IfOk answer P → IfFault answer Q → IfNoMemory answer R
    → ((x : A) → P x → (call.fault c.again ≡ None) × (seen x ≡ value) × (new ≡ call.behind c.again))
    → ((class : ClassId) → Q class → (call.fault c.again ≡ Some class) × (new ≡ call.behind c.again))
    → (R → new ≡ call.without_memory c.again new)
    → repeats rules now (fault_answered answer) skips ≡ false → IsCalled rules skips row call value (seen_as seen answer) now new
calling-last seen rules skips row now call value left new (Ok x) c ok fault none made failed broke last =
    record { again = c.again; grown = c.grown; asked = c.asked; last = last; answered = made x ok; faulted = tt; no_memory = tt }
calling-last seen rules skips row now call value left new (Err (Fault class)) c ok fault none made failed broke last =
    record { again = c.again; grown = c.grown; asked = c.asked; last = last; answered = tt; faulted = failed class fault; no_memory = tt }
calling-last seen rules skips row now call value left new (Err Memory) c ok fault none made failed broke last =
    record { again = c.again; grown = c.grown; asked = c.asked; last = last; answered = tt; faulted = tt; no_memory = broke none }

seen-same : {A : Type 0} (answer : Result A ArtifactError) → seen_as (λ x. x) answer ≡ answer
seen-same (Ok x) = refl
seen-same (Err e) = refl

-- READS

read-at : (w left : ArtifactsMeaning) (k m : ℕ) (o : Option ClassId) → w.reader.place ≡ k → left ≡ called w k m 0 → read_fault left.reader ≡ o → next_fault w.reader.faults k m ≡ o
read-at w left k m o place at e =
    ap (λ n. live (called_times m w.reader.faults k n)) (sym place)
    ∙ ap (λ (v : ArtifactsMeaning). read_fault v.reader) (sym at) ∙ e

-- the reader behind a failing read, opened again at the record
read-back : (w left failed back : ArtifactsMeaning) (k m : ℕ) → w.reader.place ≡ k → left ≡ called w k m 0 → failed ≡ record left { reader = after_read left.reader } → back ≡ record failed { reader = opened failed.reader k } → back ≡ called w k (suc m) 0
read-back w left failed back k m place at fails opens =
    opens
    ∙ ap (λ (v : ArtifactsMeaning). record v { reader = opened v.reader k }) fails
    ∙ ap (λ (v : ArtifactsMeaning). record v { reader = opened (after_read v.reader) k }) at
    ∙ (λ i. record w { reader = record w.reader { place = sym place i; faults = used_at (called_times m w.reader.faults k) (place i) } })

abbrev pub IsFailedRead : (left failed : ArtifactsMeaning) → ClassId → Type 0
IsFailedRead left failed class = (read_fault left.reader ≡ Some class) × (failed ≡ record left { reader = after_read left.reader })

pub reading-more : {A : Type 0} (rules : RulesRecord) (skips : ℕ) (row now next : Row) (w left failed back : ArtifactsMeaning) (k : ℕ) (answer : Result A ArtifactError) → w.reader.place ≡ k → IsCalling rules skips row (read_call w k) now left → IfFault answer (IsFailedRead left failed)
    → repeats rules now (fault_answered answer) skips ≡ true → next ≡ repeated_row now 1 → back ≡ record failed { reader = opened failed.reader k } → IsCalling rules skips row (read_call w k) next back
reading-more rules skips row now next w left failed back k answer place c faulted asked grows opens =
    let call = faulted-call rules now skips answer faulted asked in
    calling-more rules skips row now next (read_call w k) left back call.0 c (read-at w left k c.again _ place c.passes call.1.0) call.2 grows (read-back w left failed back k c.again place c.passes call.1.1 opens)

-- the records are there as before
pub read-bounds : {A : Type 0} (rules : RulesRecord) (skips : ℕ) (row now : Row) (w left failed : ArtifactsMeaning) (k : ℕ) (answer : Result A ArtifactError) → IsCalling rules skips row (read_call w k) now left → IfFault answer (IsFailedRead left failed)
    → repeats rules now (fault_answered answer) skips ≡ true → (failed.reader.first ≡ w.reader.first) × (reader_end failed.reader ≡ reader_end w.reader)
read-bounds rules skips row now w left failed k answer c faulted asked =
    let call = faulted-call rules now skips answer faulted asked in
    let past = call.1.1 ∙ ap (λ (v : ArtifactsMeaning). record v { reader = after_read v.reader }) c.passes in
    (ap (λ (v : ArtifactsMeaning). v.reader.first) past, ap (λ (v : ArtifactsMeaning). reader_end v.reader) past)

read-past : (w left new : ArtifactsMeaning) (k m : ℕ) → left ≡ called w k m 0 → new ≡ record left { reader = after_read left.reader } → new ≡ (read_call w k).behind m
read-past w left new k m at e = e ∙ ap (λ (v : ArtifactsMeaning). record v { reader = after_read v.reader }) at

read-own : (w left : ArtifactsMeaning) (k m : ℕ) → w.reader.place ≡ k → left ≡ called w k m 0 → record_at left.reader left.reader.place ≡ record_at w.reader k
read-own w left k m place at = ap (λ (v : ArtifactsMeaning). record_at v.reader v.reader.place) at ∙ ap (record_at w.reader) place

pub reading-last : {A : Type 0} (bytes : A → List ℕ → List ℕ) (rules : RulesRecord) (skips : ℕ) (row now : Row) (w left new : ArtifactsMeaning) (k : ℕ) (answer : Result A ArtifactError) → w.reader.place ≡ k → IsCalling rules skips row (read_call w k) now left
    → IfOk answer (λ item. (read_fault left.reader ≡ None) × (bytes item (record_at left.reader left.reader.place) ≡ record_at left.reader left.reader.place) × (new ≡ record left { reader = after_read left.reader }))
    → IfFault answer (IsFailedRead left new) → IfNoMemory answer (new ≡ left)
    → repeats rules now (fault_answered answer) skips ≡ false → IsRead rules skips row w k (seen_as (λ item. bytes item (record_at w.reader k)) answer) now new
reading-last bytes rules skips row now w left new k answer place c ok fault none last =
    calling-last (λ item. bytes item (record_at w.reader k)) rules skips row now (read_call w k) (record_at w.reader k) left new answer c ok fault none
    (λ item is. (
      read-at w left k c.again _ place c.passes is.0,
      (λ i. bytes item (sym (read-own w left k c.again place c.passes) i)) ∙ is.1 ∙ read-own w left k c.again place c.passes,
      read-past w left new k c.again c.passes is.2,
    ))
    (λ class is. (read-at w left k c.again _ place c.passes is.0, read-past w left new k c.again c.passes is.1))
    (λ is. is ∙ c.passes)
    last

-- PROCESS CALLS

process-at : (w left : ArtifactsMeaning) (k m : ℕ) (o : Option ClassId) → left ≡ called w k 0 m → process_fault left.processor k ≡ o → next_fault w.processor.faults k m ≡ o
process-at w left k m o at e = ap (λ (v : ArtifactsMeaning). process_fault v.processor k) (sym at) ∙ e

process-past : (w left new : ArtifactsMeaning) (k m : ℕ) → left ≡ called w k 0 m → new ≡ record left { processor = after_process left.processor k } → new ≡ (process_call w k).behind m
process-past w left new k m at e = e ∙ ap (λ (v : ArtifactsMeaning). record v { processor = after_process v.processor k }) at

abbrev pub IsFailedCall : (k : ℕ) → (left failed : ArtifactsMeaning) → (before after : Numbered) → ClassId → Type 0
IsFailedCall k left failed before after class = (process_fault left.processor k ≡ Some class) × (failed ≡ record left { processor = after_process left.processor k }) × (after ≡ before)

pub processing-more : {A : Type 0} (rules : RulesRecord) (skips : ℕ) (row now next : Row) (w left failed : ArtifactsMeaning) (k : ℕ) (before after : Numbered) (answer : Result A ArtifactError) → IsCalling rules skips row (process_call w k) now left → IfFault answer (IsFailedCall k left failed before after)
    → repeats rules now (fault_answered answer) skips ≡ true → next ≡ repeated_row now 1 → IsCalling rules skips row (process_call w k) next failed
processing-more rules skips row now next w left failed k before after answer c faulted asked grows =
    let call = faulted-call rules now skips answer faulted asked in
    calling-more rules skips row now next (process_call w k) left failed call.0 c (process-at w left k c.again _ c.passes call.1.0) call.2 grows (process-past w left failed k c.again c.passes call.1.1)

-- and left the results as they were
pub results-kept : {A : Type 0} (rules : RulesRecord) (skips : ℕ) (now : Row) (left failed : ArtifactsMeaning) (k : ℕ) (before after : Numbered) (answer : Result A ArtifactError) → IfFault answer (IsFailedCall k left failed before after) → repeats rules now (fault_answered answer) skips ≡ true → after ≡ before
results-kept rules skips now left failed k before after answer faulted asked = (faulted-call rules now skips answer faulted asked).1.2

-- what a process call answers that found its memory: this is an item's bytes where its reader has those
abbrev pub IsAnsweredCall : (k : ℕ) → (bytes : List ℕ → List ℕ) → (left new : ArtifactsMeaning) → (before after : Numbered) → (found : Bool) → Type 0
IsAnsweredCall k bytes left new before after found =
    let answer = left.processor.answer k (bytes (record_at left.reader k)) in
    (process_fault left.processor k ≡ None) × (found ≡ is_some answer)
    × (new ≡ record left { processor = after_process left.processor k })
    × (after ≡ before ++ option_to_list (numbered k answer))

pub processing-last : (rules : RulesRecord) (skips : ℕ) (row now : Row) (w left new : ArtifactsMeaning) (k : ℕ) (bytes : List ℕ → List ℕ) (before after : Numbered) (answer : Result Bool ArtifactError) → IsCalling rules skips row (process_call w k) now left
    → IfOk answer (IsAnsweredCall k bytes left new before after)
    → IfFault answer (IsFailedCall k left new before after) → IfNoMemory answer ((new ≡ left) × (after ≡ before))
    → repeats rules now (fault_answered answer) skips ≡ false → IsProcessed rules skips row w k (bytes (record_at w.reader k)) answer now new
processing-last rules skips row now w left new k bytes before after answer c ok fault none last =
    subst (λ a. IsProcessed rules skips row w k (bytes (record_at w.reader k)) a now new) (seen-same answer)
    (calling-last (λ found. found) rules skips row now (process_call w k) (is_some (w.processor.answer k (bytes (record_at w.reader k)))) left new answer c ok fault none
    (λ found is. (
      process-at w left k c.again _ c.passes is.0,
      is.1 ∙ ap (λ (v : ArtifactsMeaning). is_some (v.processor.answer k (bytes (record_at v.reader k)))) c.passes,
      process-past w left new k c.again c.passes is.2,
    ))
    (λ class is. (process-at w left k c.again _ c.passes is.0, process-past w left new k c.again c.passes is.1))
    (λ is. is.0 ∙ c.passes)
    last)

pub results-last : (rules : RulesRecord) (skips : ℕ) (row now : Row) (w left new : ArtifactsMeaning) (k : ℕ) (bytes : List ℕ → List ℕ) (before after : Numbered) (answer : Result Bool ArtifactError) → IsCalling rules skips row (process_call w k) now left
    → IfOk answer (IsAnsweredCall k bytes left new before after)
    → IfFault answer (IsFailedCall k left new before after) → IfNoMemory answer ((new ≡ left) × (after ≡ before))
    → after ≡ results_behind answer k (w.processor.answer k (bytes (record_at w.reader k))) before
results-last rules skips row now w left new k bytes before after (Ok found) c ok fault none = ok.3 ∙ ap (λ (v : ArtifactsMeaning). before ++ option_to_list (numbered k (v.processor.answer k (bytes (record_at v.reader k))))) c.passes
results-last rules skips row now w left new k bytes before after (Err (Fault class)) c ok fault none = fault.2
results-last rules skips row now w left new k bytes before after (Err Memory) c ok fault none = none.1

-- the records are there as before
pub process-bounds : (rules : RulesRecord) (skips : ℕ) (row now : Row) (w left : ArtifactsMeaning) (k : ℕ) → IsCalling rules skips row (process_call w k) now left → (left.reader.first ≡ w.reader.first) × (reader_end left.reader ≡ reader_end w.reader)
process-bounds rules skips row now w left k c = (ap (λ (v : ArtifactsMeaning). v.reader.first) c.passes, ap (λ (v : ArtifactsMeaning). reader_end v.reader) c.passes)

-- WRITES

put-at : (w left : ArtifactsMeaning) (found : Numbered) (m : ℕ) (o : Option ClassId) → left ≡ (write_call w found).before m → write_fault left.writer found ≡ o → (write_call w found).fault m ≡ o
put-at w left found m o at e = ap (λ (v : ArtifactsMeaning). write_fault v.writer found) (sym at) ∙ e

put-past : (w left new : ArtifactsMeaning) (found : Numbered) (m : ℕ) → left ≡ (write_call w found).before m → new ≡ record left { writer = after_write left.writer found } → new ≡ (write_call w found).behind m
put-past w left new found m at e = e ∙ ap (λ (v : ArtifactsMeaning). record v { writer = after_write v.writer found }) at

-- what a failing write left, cut back
put-back : (w left failed back : ArtifactsMeaning) (found : Numbered) (m n : ℕ) → length w.writer.written ≡ n → left ≡ (write_call w found).before m → failed ≡ record left { writer = after_write left.writer found } → back ≡ record failed { writer = cut failed.writer n } → back ≡ (write_call w found).before (suc m)
put-back w left failed back found m n count at fails cuts =
    cuts
    ∙ ap (λ (v : ArtifactsMeaning). record v { writer = cut v.writer n }) (put-past w left failed found m at fails)
    ∙ (λ i. record w { writer = record { written = take-front w.writer.written (texts_of (take_while (λ x. not (is_live (rewritten w.writer found m).faults x.0)) found)) n count i; faults = written_times (suc m) w.writer.faults found } })

abbrev pub IsFailedWrite : Numbered → (left failed : ArtifactsMeaning) → ClassId → Type 0
IsFailedWrite found left failed class = (write_fault left.writer found ≡ Some class) × (failed ≡ record left { writer = after_write left.writer found })

pub putting-more : (rules : RulesRecord) (skips : ℕ) (row now next : Row) (w left failed back : ArtifactsMeaning) (found : Numbered) (answer : Result (Unit {0}) ArtifactError) (n : ℕ) → length w.writer.written ≡ n → IsCalling rules skips row (write_call w found) now left → IfFault answer (IsFailedWrite found left failed)
    → repeats rules now (fault_answered answer) skips ≡ true → next ≡ repeated_row now 1 → back ≡ record failed { writer = cut failed.writer n } → IsCalling rules skips row (write_call w found) next back
putting-more rules skips row now next w left failed back found answer n count c faulted asked grows cuts =
    let call = faulted-call rules now skips answer faulted asked in
    calling-more rules skips row now next (write_call w found) left back call.0 c (put-at w left found c.again _ c.passes call.1.0) call.2 grows (put-back w left failed back found c.again n count c.passes call.1.1 cuts)

-- what is written may be cut back
pub can-cut : (w left failed : ArtifactsMeaning) (found : Numbered) (n : ℕ) (rules : RulesRecord) (skips : ℕ) (row now : Row) (answer : Result (Unit {0}) ArtifactError) → length w.writer.written ≡ n → IsCalling rules skips row (write_call w found) now left → IfFault answer (IsFailedWrite found left failed)
    → repeats rules now (fault_answered answer) skips ≡ true → n ≤ length failed.writer.written
can-cut w left failed found n rules skips row now answer count c faulted asked =
    let call = faulted-call rules now skips answer faulted asked in
    let past = put-past w left failed found c.again c.passes call.1.1 in
    let long = ap (λ (v : ArtifactsMeaning). length v.writer.written) past in
    omega (arith, count, long, length-append w.writer.written (texts_of (take_while (λ x. not (is_live (rewritten w.writer found c.again).faults x.0)) found)))

pub putting-last : (rules : RulesRecord) (skips : ℕ) (row now : Row) (w left new : ArtifactsMeaning) (found : Numbered) (answer : Result (Unit {0}) ArtifactError) → IsCalling rules skips row (write_call w found) now left
    → OnOk answer ((write_fault left.writer found ≡ None) × (new ≡ record left { writer = after_write left.writer found }))
    → IfFault answer (IsFailedWrite found left new)
    → IfNoMemory answer (new ≡ record left { writer = torn_write left.writer found (length new.writer.written) })
    → repeats rules now (fault_answered answer) skips ≡ false → IsPut rules skips row w found answer now new
putting-last rules skips row now w left new found answer c ok fault none last =
    subst (λ a. IsPut rules skips row w found a now new) (seen-same answer)
    (calling-last (λ done. done) rules skips row now (write_call w found) tt left new answer c (on_ok-if _ answer ok) fault none
    (λ done is. (put-at w left found c.again _ c.passes is.0, refl, put-past w left new found c.again c.passes is.1))
    (λ class is. (put-at w left found c.again _ c.passes is.0, put-past w left new found c.again c.passes is.1))
    (λ is. is ∙ ap (λ (v : ArtifactsMeaning). record v { writer = torn_write v.writer found (length new.writer.written) }) c.passes)
    last)
