-- What holds in the functions that repeat a call in place, and what a block is between two of its repeats.
use Rattle.std.specs.Prelude.{ℕ, zero, suc, ◌≡◌, ◌+◌, ◌≤◌, ◌<◌, ◌⊎◌, Bool, true, false, List, ◌++◌, length, take, option_to_list, is_some, Option, Some, None, Result, Ok, Err, IfOk}
use Rattle.jb_base.specs.declared.class.ClassId.{ClassId}
use Rattle.jb_base.specs.declared.artifact_error.ArtifactError.{ArtifactError}
use Rattle.jb_base.specs.declared.artifact_error.ArtifactError.TheVariants.{Fault, Memory}
use Rattle.jb_base.specs.Rules.{RulesRecord}
use Rattle.jb_rules.specs.declared.row.Row.{Row}
use Rattle.jb_rules.specs.Rows.{repeated_row, skips_of}
use Rattle.jb_artifacts.specs.Answers.{IfFault, IfNoMemory}
use Rattle.jb_artifacts.specs.Faults.{FaultTable, live, used_at}
use Rattle.jb_artifacts.specs.Reader.{record_at, after_read}
use Rattle.jb_artifacts.specs.Processor.{after_process}
use Rattle.jb_artifacts.specs.Writer.{Writer, Numbered, failing, used_for, write_fault, after_write, torn_write}
use Rattle.jb_artifacts.specs.Meaning.{ArtifactsMeaning}
use Rattle.jb_chunk.specs.declared.outcome.Outcome.{Outcome}
use Rattle.jb_chunk.specs.declared.entry.EntryKind.{EntryKind}
use Rattle.jb_chunk.specs.declared.gather.Gathered.{Gathered}
use Rattle.jb_chunk.specs.declared.gather.Gathered.TheVariants.{Settled, Whole}
use Rattle.jb_chunk.specs.Attempt.{all_repeated, settled_at, IsRestored, block_of}
use Rattle.jb_chunk.specs.TaskState.{TaskState}
use Rattle.jb_chunk.specs.Block.{entry, repeats, is_skip, is_again, choice_at, skips_before, settling, passed}
use Rattle.jb_chunk.specs.Entries.{Entry, fault_in, text_in, numbered}
use Rattle.jb_chunk.specs.inside.Gathering.{Yield, yield_of, entry_with, IsTally, passed_one}
use Rattle.jb_chunk.specs.inside.TriedChunk.{IsFinish}

-- an answer, by what its value means
abbrev pub seen_as : {A B : Type 0} → (A → B) → Result A ArtifactError → Result B ArtifactError
seen_as f (Ok x) = Ok (f x)
seen_as f (Err e) = Err e

-- the fault that a call answered
abbrev pub fault_answered : {A : Type 0} → Result A ArtifactError → Option ClassId
fault_answered (Ok x) = None
fault_answered (Err (Fault class)) = Some class
fault_answered (Err Memory) = None

-- A call that may be repeated in place, by how often it was: its fault, and the artifacts before it and after it. Last the
-- artifacts that it left, if it found no memory.
pub record Call : Type 0 where
  pub fault : ℕ → Option ClassId
  pub before : ℕ → ArtifactsMeaning
  pub behind : ℕ → ArtifactsMeaning
  pub without_memory : ℕ → (left : ArtifactsMeaning) → ArtifactsMeaning

-- each of the first calls, so many, failed, and was to be repeated
abbrev pub AreRepeats : RulesRecord → (skips : ℕ) → Row → (fault : ℕ → Option ClassId) → (again : ℕ) → Type 0
AreRepeats rules skips row fault again = (j : ℕ) → j < again → repeats rules (repeated_row row j) (fault j) skips ≡ true

-- between two calls
pub record IsCalling (rules : RulesRecord) (skips : ℕ) (row : Row) (call : Call) (now : Row) (left : ArtifactsMeaning) : Type 0 where
  pub again : ℕ
  pub grown : now ≡ repeated_row row again
  pub asked : AreRepeats rules skips row call.fault again
  pub passes : left ≡ call.before again

-- the call was made, with repeats, and isn't to be repeated any more; if it succeeds, it answers this value
pub record IsCalled {A : Type 0} (rules : RulesRecord) (skips : ℕ) (row : Row) (call : Call) (value : A) (answer : Result A ArtifactError) (now : Row) (left : ArtifactsMeaning) : Type 0 where
  pub again : ℕ
  pub grown : now ≡ repeated_row row again
  pub asked : AreRepeats rules skips row call.fault again
  pub last : repeats rules now (fault_answered answer) skips ≡ false
  pub answered : IfOk answer (λ x. (call.fault again ≡ None) × (x ≡ value) × (left ≡ call.behind again))
  pub faulted : IfFault answer (λ class. (call.fault again ≡ Some class) × (left ≡ call.behind again))
  pub no_memory : IfNoMemory answer (left ≡ call.without_memory again left)

-- the plans after so many calls for record `k`
abbrev pub called_times : ℕ → FaultTable → ℕ → FaultTable
called_times zero plans k = plans
called_times (suc m) plans k = used_at (called_times m plans k) k

-- the fault of the call for record `k` after so many others
abbrev pub next_fault : FaultTable → (k : ℕ) → ℕ → Option ClassId
next_fault plans k m = live (called_times m plans k k)

-- reader and processor after so many repeats for record `k`
abbrev pub called : ArtifactsMeaning → (k reads processes : ℕ) → ArtifactsMeaning
called w k reads processes = record w {
  reader = record w.reader { faults = called_times reads w.reader.faults k };
  processor = record w.processor { faults = called_times processes w.processor.faults k };
}

-- the read of record `k`, where the reader is
abbrev pub read_call : ArtifactsMeaning → (k : ℕ) → Call
read_call w k = record {
  fault = next_fault w.reader.faults k;
  before = λ m. called w k m 0;
  behind = λ m. record w { reader = after_read (called w k m 0).reader };
  without_memory = λ m left. called w k m 0;
}

abbrev pub IsRead : RulesRecord → (skips : ℕ) → Row → ArtifactsMeaning → (k : ℕ) → Result (List ℕ) ArtifactError → (now : Row) → (left : ArtifactsMeaning) → Type 0
IsRead rules skips row w k answer now left = IsCalled rules skips row (read_call w k) (record_at w.reader k) answer now left

-- the process call for record `k`
abbrev pub process_call : ArtifactsMeaning → (k : ℕ) → Call
process_call w k = record {
  fault = next_fault w.processor.faults k;
  before = λ m. called w k 0 m;
  behind = λ m. record w { processor = after_process (called w k 0 m).processor k };
  without_memory = λ m left. called w k 0 m;
}

-- it answers whether this item has a result
abbrev pub IsProcessed : RulesRecord → (skips : ℕ) → Row → ArtifactsMeaning → (k : ℕ) → (item : List ℕ) → Result Bool ArtifactError → (now : Row) → (left : ArtifactsMeaning) → Type 0
IsProcessed rules skips row w k item answer now left = IsCalled rules skips row (process_call w k) (is_some (w.processor.answer k item)) answer now left

-- the results after such a call: the item's is put after the others, if the call succeeds and there is one
abbrev pub results_behind : Result Bool ArtifactError → (k : ℕ) → Option (List ℕ) → Numbered → Numbered
results_behind (Ok found) k text results = results ++ option_to_list (numbered k text)
results_behind (Err e) k text results = results

-- a writer's plans after so many calls with these results
abbrev pub written_times : ℕ → FaultTable → Numbered → FaultTable
written_times zero plans found = plans
written_times (suc m) plans found = let p = written_times m plans found in used_for p (failing p found)

-- the writer after so many repeats, each cut back
abbrev pub rewritten : Writer → Numbered → ℕ → Writer
rewritten w found m = record w { faults = written_times m w.faults found }

-- the write of these results
abbrev pub write_call : ArtifactsMeaning → Numbered → Call
write_call w found = record {
  fault = λ m. write_fault (rewritten w.writer found m) found;
  before = λ m. record w { writer = rewritten w.writer found m };
  behind = λ m. record w { writer = after_write (rewritten w.writer found m) found };
  without_memory = λ m left. record w { writer = torn_write (rewritten w.writer found m) found (length left.writer.written) };
}

abbrev pub IsPut : RulesRecord → (skips : ℕ) → Row → ArtifactsMeaning → Numbered → Result (Unit {0}) ArtifactError → (now : Row) → (left : ArtifactsMeaning) → Type 0
IsPut rules skips row w found answer now left = IsCalled rules skips row (write_call w found) tt answer now left

-- a record was read and processed, with repeats, and this became of it
pub record IsDone (rules : RulesRecord) (skips : ℕ) (row : Row) (w : ArtifactsMeaning) (k : ℕ) (e : Entry) (now : Row) (left : ArtifactsMeaning) : Type 0 where
  pub reads : ℕ
  pub processes : ℕ
  pub grown : now ≡ repeated_row (repeated_row row reads) processes
  pub read : AreRepeats rules skips row (next_fault w.reader.faults k) reads
  pub processed : AreRepeats rules skips (repeated_row row reads) (next_fault w.processor.faults k) processes
  pub read_first : (processes ≡ 0) ⊎ (live (called_times reads w.reader.faults k k) ≡ None)
  pub becomes : e ≡ entry (called w k reads processes) k
  pub last : repeats rules now (fault_in e) skips ≡ false
  pub passes : left ≡ passed_one (called w k reads processes) k

-- so it was, its entry is of this kind, and its result, if it has one, is put after the others
pub record IsEntered (rules : RulesRecord) (skips : ℕ) (row : Row) (w : ArtifactsMeaning) (k : ℕ) (before : Numbered) (kind : EntryKind) (now : Row) (left : ArtifactsMeaning) (after : Numbered) : Type 0 where
  pub answer : Option (List ℕ)
  pub done : IsDone rules skips row w k (entry_with kind answer) now left
  pub added : after ≡ before ++ option_to_list (numbered k (text_in (entry_with kind answer)))

-- the second block is the first after some of its repeats
pub record IsRepeated (t u : TaskState) : Type 0 where
  pub again : ℕ
  pub rest : u ≡ record t { row = u.row; artifacts = u.artifacts }
  pub row : u.row ≡ repeated_row t.row again
  pub few : (again ≡ 0) ⊎ (t.row.retries + again ≤ t.rules.retry_limit)
  pub artifacts : IsRestored t.row.at (block_of t).hi t.artifacts u.artifacts
  pub same : all_repeated u ≡ all_repeated t

-- the records of a block before `n` are done, and each fault of theirs is skipped
pub record IsGathering (t : TaskState) (n : ℕ) (tally : Yield) (now : Row) (left : ArtifactsMeaning) : Type 0 where
  pub last : TaskState
  pub repeated : IsRepeated t last
  pub row : now ≡ last.row
  pub passes : left ≡ passed last.artifacts last.row.at n
  pub counted : IsTally last.artifacts last.row.at n tally
  pub none : settling last.rules last.row last.artifacts n ≡ None

-- the records of a block were read and processed, and each fault of theirs is skipped
abbrev pub IsWhole : TaskState → Yield → (now : Row) → (left : ArtifactsMeaning) → Type 0
IsWhole t tally now left =
    (u : TaskState) × IsRepeated t u × (now ≡ u.row)
    × (settled_at u ≡ None)
    × IsTally u.artifacts u.row.at (block_of u).hi tally
    × (left ≡ passed u.artifacts u.row.at (block_of u).hi)

-- the records of a block were read and processed: a fault settled it, which is neither skipped nor repeated, or no fault did
abbrev pub IsGathered : TaskState → Gathered → (found : Numbered) → (now : Row) → (left : ArtifactsMeaning) → Type 0
IsGathered t (Settled number class choice) found now left =
    (u : TaskState) × IsRepeated t u × (now ≡ u.row)
    × (settled_at u ≡ Some number)
    × (fault_in (entry u.artifacts number) ≡ Some class)
    × (choice ≡ choice_at u.rules u.row class (skips_before u.row u.artifacts number))
    × (is_skip choice ≡ false)
    × (is_again choice ≡ false)
    × (left ≡ passed u.artifacts u.row.at (number + 1))
IsGathered t (Whole tally) found now left = IsWhole t (yield_of tally found) now left

-- a write was repeated so often, and then no more
pub record IsRewritten (rules : RulesRecord) (skips : ℕ) (row : Row) (w : Writer) (found : Numbered) (again : ℕ) (now : Row) : Type 0 where
  pub grown : now ≡ repeated_row row again
  pub asked : AreRepeats rules skips row (λ j. write_fault (rewritten w found j) found) again
  pub last : repeats rules now (write_fault (rewritten w found again) found) skips ≡ false

-- a write found no memory: it was repeated so often, and some results may be written past what was there
pub record IsTornWrite (w : ArtifactsMeaning) (found : Numbered) (left : ArtifactsMeaning) : Type 0 where
  pub again : ℕ
  pub others : left ≡ record w { writer = left.writer }
  pub plans : left.writer.faults ≡ written_times again w.writer.faults found
  pub written : take (length w.writer.written) left.writer.written ≡ w.writer.written
  pub longer : length w.writer.written ≤ length left.writer.written

-- how a block ended that nothing settled before its write, after its repeats
abbrev pub IsFinishAfter : RulesRecord → Row → (hi : ℕ) → Yield → ArtifactsMeaning → Outcome → (now : Row) → (left : ArtifactsMeaning) → Type 0
IsFinishAfter rules row hi tally w end now left =
    (again : ℕ) × IsRewritten rules (skips_of row + tally.skips) row w.writer tally.found again now
    × IsFinish rules now hi tally (record w { writer = rewritten w.writer tally.found again }) end left
