-- Worked rows: what the definitions give for whole partitions, computed apart from the code. Records are the letters a, b,
-- c and so on. The processor puts an x before each. Faults are of the class E, whose number is 0, or F, whose number is 1.
use Rattle.std.specs.Prelude.{◌≡◌, ℕ, ◌==◌, if◌then◌else◌, List, [], ◌∷◌, ◌++◌, codes, Some, None}
use Rattle.std.proofs.Common.{lit<}
use Rattle.jb_base.specs.declared.class.ClassId.{ClassId}
use Rattle.jb_base.specs.Rules.{RulesRecord}
use Rattle.jb_rules.specs.declared.row.Row.{Row}
use Rattle.jb_rules.specs.declared.row.RowState.{RowState}
use Rattle.jb_rules.specs.declared.row.RowState.TheVariants.{Finished, Failed}
use Rattle.jb_rules.specs.Rows.{fresh_row}
use Rattle.jb_artifacts.specs.declared.faults.FaultPlan.{FaultPlan}
use Rattle.jb_artifacts.specs.declared.view.RowView.{RowView}
use Rattle.jb_artifacts.specs.declared.faults.FaultPlan.TheVariants.{Sound, Bad, Shaky}
use Rattle.jb_artifacts.specs.Collected.{count_text}
use Rattle.jb_artifacts.specs.Faults.{FaultTable}
use Rattle.jb_artifacts.specs.Meaning.{ArtifactsMeaning}
use Rattle.jb_artifacts.specs.Prefix.{prefixed}
use Rattle.jb_chunk.specs.Alone.{IsAlone}
use Rattle.jb_chunk.specs.Attempt.{AttemptEnd}
use Rattle.jb_chunk.specs.Plain.{plain_row, plain_outputs}
use Rattle.jb_chunk.specs.TaskState.{TaskState}

-- PARTITIONS

abbrev pub class_e : ClassId
class_e = record { number = 0; below = lit< tt }

abbrev pub class_f : ClassId
class_f = record { number = 1; below = lit< tt }

-- no record has a fault
abbrev pub sound : FaultTable
sound = λ k. Sound

-- this record alone has faults
abbrev pub only : ℕ → FaultPlan → FaultTable
only n plan = λ k. if k == n then plan else Sound

abbrev pub letters : List (List ℕ)
letters = codes "a" ∷ codes "b" ∷ codes "c" ∷ codes "d" ∷ codes "e" ∷ codes "f" ∷ codes "g" ∷ []

-- no class is skipped or retried
abbrev pub strict : RulesRecord
strict = record { skippable = 0; retryable = 0; no_rollback = 0; skip_limit = None; retry_limit = 1000 }

-- skippable classes and retryable classes, by their bits, and no limit that is met
abbrev pub rules_of : (skippable retryable : ℕ) → RulesRecord
rules_of skippable retryable = record strict { skippable = skippable; retryable = retryable }

-- the same, and a retry for these classes rolls nothing back
abbrev pub in_place : (no_rollback : ℕ) → RulesRecord → RulesRecord
in_place no_rollback rules = record rules { no_rollback = no_rollback }

-- the same with skip limit 1
abbrev pub one_skip : (skippable retryable : ℕ) → RulesRecord
one_skip skippable retryable = record (rules_of skippable retryable) { skip_limit = Some 1 }

-- the same with retry limit 2
abbrev pub two_retries : (skippable retryable : ℕ) → RulesRecord
two_retries skippable retryable = record (rules_of skippable retryable) { retry_limit = 2 }

-- the artifacts of a partition that begins at record `lo`
abbrev pub artifacts_from : (lo : ℕ) → (reads processes writes : FaultTable) → ArtifactsMeaning
artifacts_from lo reads processes writes = record {
  reader = record { first = 0; records = letters; place = lo; faults = reads };
  processor = record { answer = λ _ item. prefixed (codes "x") None item; faults = processes };
  writer = record { written = []; faults = writes };
  collector = count_text;
}

-- a partition of the records `lo` to `hi - 1` that has not started
abbrev pub task : (partition lo hi item_count : ℕ) → RulesRecord → (reads processes writes : FaultTable) → TaskState
task partition lo hi item_count rules reads processes writes = record {
  partition = partition;
  row = fresh_row (record { lo = lo; hi = hi });
  rules = rules;
  item_count = item_count;
  artifacts = artifacts_from lo reads processes writes;
}

-- records 0 and 3 always fail
abbrev pub two_bad : FaultTable
two_bad = λ k. if k == 0 then Bad class_e else (if k == 3 then Bad class_e else Sound)

abbrev pub first_task : TaskState
first_task = task 0 0 2 2 strict sound sound sound

abbrev pub second_task : TaskState
second_task = task 1 2 3 2 strict sound sound sound

abbrev pub recordless_task : TaskState
recordless_task = task 0 0 0 10 strict sound sound sound

abbrev pub retried_task : TaskState
retried_task = task 0 0 4 4 (rules_of 0 1) sound (only 2 (Shaky (class_e ∷ []))) sound

abbrev pub skipped_task : TaskState
skipped_task = task 0 0 4 2 (one_skip 1 1) sound (only 1 (Bad class_e)) sound

abbrev pub failed_task : TaskState
failed_task = task 0 0 4 2 (one_skip 1 0) sound two_bad sound

abbrev pub beside_failed_task : TaskState
beside_failed_task = task 1 4 6 2 (one_skip 1 0) sound two_bad sound

abbrev pub torn_task : TaskState
torn_task = task 0 0 3 3 (rules_of 1 0) sound sound (only 1 (Bad class_e))

abbrev pub rewritten_task : TaskState
rewritten_task = task 0 0 4 2 (rules_of 0 1) sound sound (only 1 (Shaky (class_e ∷ [])))

abbrev pub unwritable_task : TaskState
unwritable_task = task 0 0 4 2 (rules_of 2 2) sound sound (only 3 (Bad class_e))

abbrev pub shaky_writes_task : TaskState
shaky_writes_task = task 0 0 3 3 (rules_of 2 1) sound sound (only 1 (Shaky (class_e ∷ class_f ∷ [])))

abbrev pub retried_out_task : TaskState
retried_out_task = task 0 0 1 1 (two_retries 0 1) sound (only 0 (Bad class_e)) sound

abbrev pub read_skipped_task : TaskState
read_skipped_task = task 0 0 3 2 (rules_of 1 0) (only 0 (Bad class_e)) sound sound

abbrev pub skipped_and_unwritable_task : TaskState
skipped_and_unwritable_task = task 0 0 2 2 (one_skip 1 0) (only 0 (Bad class_e)) sound (only 1 (Bad class_e))

abbrev pub rolled_back_task : TaskState
rolled_back_task = task 0 0 3 2 (one_skip 1 2) (only 0 (Bad class_e)) (only 1 (Shaky (class_f ∷ []))) sound

-- partitions with classes that roll nothing back

abbrev pub repeated_task : TaskState
repeated_task = task 0 0 4 4 (in_place 1 (rules_of 0 1)) sound (only 2 (Shaky (class_e ∷ []))) sound

abbrev pub repeated_out_task : TaskState
repeated_out_task = task 0 0 1 1 (in_place 1 (two_retries 0 1)) sound (only 0 (Bad class_e)) sound

abbrev pub repeated_write_task : TaskState
repeated_write_task = task 0 0 3 3 (in_place 1 (rules_of 0 1)) sound sound (only 1 (Shaky (class_e ∷ [])))

abbrev pub repeated_and_rolled_task : TaskState
repeated_and_rolled_task =
    task 0 0 2 2 (in_place 1 (rules_of 0 3)) sound (λ k. if k == 0 then Shaky (class_e ∷ []) else (if k == 1 then Shaky (class_f ∷ []) else Sound)) sound

abbrev pub repeated_then_skipped_task : TaskState
repeated_then_skipped_task = task 0 0 4 2 (in_place 1 (record (two_retries 1 1) { skip_limit = Some 1 })) sound (only 1 (Bad class_e)) sound

abbrev pub skipped_and_repeated_task : TaskState
skipped_and_repeated_task = task 0 0 3 2 (in_place 2 (one_skip 1 2)) (only 0 (Bad class_e)) (only 1 (Shaky (class_f ∷ []))) sound

abbrev pub skipped_in_redo_task : TaskState
skipped_in_redo_task =
    task 0 0 2 2 (in_place 1 (rules_of 1 3)) sound (λ k. if k == 0 then Shaky (class_f ∷ []) else (if k == 1 then Shaky (class_e ∷ []) else Sound)) sound

abbrev pub repeated_reads_task : TaskState
repeated_reads_task = task 0 0 2 2 (in_place 3 (two_retries 0 3)) (only 0 (Shaky (class_e ∷ class_f ∷ []))) sound (only 1 (Shaky (class_e ∷ [])))

-- a collector that reports all that it sees
abbrev pub all_seen : RowView → List ℕ
all_seen view =
    view.partition ∷ view.lo ∷ view.hi ∷ view.at
    ∷ view.counts.read ∷ view.counts.write ∷ view.counts.commit ∷ view.counts.rollback
    ∷ view.counts.read_skip ∷ view.counts.process_skip ∷ view.counts.filter ∷ view.counts.write_skip
    ∷ (if view.last then 1 else 0) ∷ []

-- the last two of the records 10 to 45, where each count has another value; two results were written before them
abbrev pub seen_task : TaskState
seen_task = record (task 8 10 46 1 strict sound sound sound) {
  row = record (fresh_row (record { lo = 10; hi = 46 })) {
    at = 44;
    written = 2;
    counts = record { read = 31; write = 2; commit = 9; rollback = 6; read_skip = 3; process_skip = 5; filter = 7; write_skip = 4 };
  };
  artifacts = record (artifacts_from 44 sound sound sound) {
    reader = record { first = 40; records = letters; place = 44; faults = sound };
    writer = record { written = codes "xm" ∷ codes "xn" ∷ []; faults = sound };
    collector = all_seen;
  };
}

-- what it then sees: the checkpoint, READ, WRITE and COMMIT change
abbrev pub seen_at : (at read write commit last : ℕ) → List ℕ
seen_at at read write commit last =
    8 ∷ 10 ∷ 46 ∷ at ∷ read ∷ write ∷ commit ∷ 6 ∷ 3 ∷ 5 ∷ 7 ∷ 4 ∷ last ∷ []

-- WHERE THEY LEAD

-- What a row says after its range. First checkpoint, redo, retries and results. Then of its counts what was read and written, the
-- commits and the rollbacks, skips of reads and of process calls, filtered items, skips of writes. Last the repeats in place.
abbrev pub numbers : Row → List ℕ
numbers r =
    r.at ∷ r.redo ∷ r.retries ∷ r.written
    ∷ r.counts.read ∷ r.counts.write ∷ r.counts.commit ∷ r.counts.rollback
    ∷ r.counts.read_skip ∷ r.counts.process_skip ∷ r.counts.filter ∷ r.counts.write_skip ∷ r.in_place ∷ []

-- the collector's texts of some attempts
abbrev pub texts_in : List AttemptEnd → List (List ℕ)
texts_in [] = []
texts_in (e ∷ es) = e.values ++ texts_in es

-- the partition runs alone to a row with these numbers, this state, these outputs and these texts of its collector
pub record RunsTo (t : TaskState) (row_numbers : List ℕ) (row_state : RowState) (written collected : List (List ℕ)) : Type 0 where
  pub last : TaskState
  pub alone : IsAlone t last
  pub row : numbers last.row ≡ row_numbers
  pub state : last.row.state ≡ row_state
  pub outputs : last.artifacts.writer.written ≡ written
  pub texts : texts_in alone.attempts ≡ collected

-- THE ROWS

-- the first run: a partition whose two records are one chunk, and one of a single record
pub record FirstRunAlone : Type 0 where
  pub first :
      RunsTo first_task
      (2 ∷ 0 ∷ 0 ∷ 2 ∷ 2 ∷ 2 ∷ 1 ∷ 0 ∷ 0 ∷ 0 ∷ 0 ∷ 0 ∷ 0 ∷ []) Finished
      (codes "xa" ∷ codes "xb" ∷ []) (codes "0:2:2" ∷ codes "0:2:2:end" ∷ [])
  pub second :
      RunsTo second_task
      (3 ∷ 2 ∷ 0 ∷ 1 ∷ 1 ∷ 1 ∷ 1 ∷ 0 ∷ 0 ∷ 0 ∷ 0 ∷ 0 ∷ 0 ∷ []) Finished
      (codes "xc" ∷ []) (codes "1:3:1" ∷ codes "1:3:1:end" ∷ [])

-- everything filtered: each item of the only chunk begins with a z, so none has a result
abbrev pub filtered_task : TaskState
filtered_task = record (task 0 0 4 4 strict sound sound sound) {
  artifacts = record (artifacts_from 0 sound sound sound) {
    reader = record { first = 0; records = codes "za" ∷ codes "zb" ∷ codes "zc" ∷ codes "zd" ∷ []; place = 0; faults = sound };
    processor = record { answer = λ _ item. prefixed (codes "x") (Some (codes "z")) item; faults = sound };
  };
}

abbrev pub EverythingFiltered : Type 0
EverythingFiltered =
    RunsTo filtered_task
    (4 ∷ 0 ∷ 0 ∷ 0 ∷ 4 ∷ 0 ∷ 1 ∷ 0 ∷ 0 ∷ 0 ∷ 4 ∷ 0 ∷ 0 ∷ []) Finished
    [] (codes "0:4:0" ∷ codes "0:4:0:end" ∷ [])

-- an empty range: the partition is at its end without an attempt
abbrev pub NoRecordAlone : Type 0
NoRecordAlone =
    RunsTo recordless_task
    (0 ∷ 0 ∷ 0 ∷ 0 ∷ 0 ∷ 0 ∷ 0 ∷ 0 ∷ 0 ∷ 0 ∷ 0 ∷ 0 ∷ 0 ∷ []) Finished [] []

-- A retry rolls back to single records: of a chunk of four the third can't be processed at first, with a class that is retried. In
-- the redo each record is a chunk by itself.
abbrev pub RetryToSingles : Type 0
RetryToSingles =
    RunsTo retried_task
    (4 ∷ 4 ∷ 1 ∷ 4 ∷ 4 ∷ 4 ∷ 4 ∷ 1 ∷ 0 ∷ 0 ∷ 0 ∷ 0 ∷ 0 ∷ []) Finished
    (codes "xa" ∷ codes "xb" ∷ codes "xc" ∷ codes "xd" ∷ [])
    (codes "0:1:1" ∷ codes "0:2:2" ∷ codes "0:3:3" ∷ codes "0:4:4" ∷ codes "0:4:4:end" ∷ [])

-- A skip in the single-record redo: of a chunk of two the second can never be processed, with a class that is retried and that is
-- skipped once. Retrying comes first. In the redo the record is skipped.
abbrev pub SkipInRedo : Type 0
SkipInRedo =
    RunsTo skipped_task
    (4 ∷ 2 ∷ 1 ∷ 3 ∷ 4 ∷ 3 ∷ 3 ∷ 1 ∷ 0 ∷ 1 ∷ 0 ∷ 0 ∷ 0 ∷ []) Finished
    (codes "xa" ∷ codes "xc" ∷ codes "xd" ∷ [])
    (codes "0:1:1" ∷ codes "0:2:1" ∷ codes "0:4:3" ∷ codes "0:4:3:end" ∷ [])

-- one failed partition: two of its records can never be processed, and one may be skipped. The other partition has its own skips,
-- and continues.
pub record OneFailedAlone : Type 0 where
  pub failed :
      RunsTo failed_task
      (2 ∷ 0 ∷ 0 ∷ 1 ∷ 2 ∷ 1 ∷ 1 ∷ 1 ∷ 0 ∷ 1 ∷ 0 ∷ 0 ∷ 0 ∷ []) Failed
      (codes "xb" ∷ []) (codes "0:2:1" ∷ [])
  pub finished :
      RunsTo beside_failed_task
      (6 ∷ 4 ∷ 0 ∷ 2 ∷ 2 ∷ 2 ∷ 1 ∷ 0 ∷ 0 ∷ 0 ∷ 0 ∷ 0 ∷ 0 ∷ []) Finished
      (codes "xe" ∷ codes "xf" ∷ []) (codes "1:6:2" ∷ codes "1:6:2:end" ∷ [])

-- a torn write that is skipped: of three results in one call the second can never be written. The first is cut off too.
abbrev pub TornWrite : Type 0
TornWrite =
    RunsTo torn_task
    (3 ∷ 0 ∷ 0 ∷ 0 ∷ 3 ∷ 0 ∷ 1 ∷ 0 ∷ 0 ∷ 0 ∷ 0 ∷ 1 ∷ 0 ∷ []) Finished
    [] (codes "0:3:0" ∷ codes "0:3:0:end" ∷ [])

-- a write call that fails once after its first result, with a class that is retried: that result is cut off, and is written again in
-- the single-record redo
abbrev pub WriteRetried : Type 0
WriteRetried =
    RunsTo rewritten_task
    (4 ∷ 2 ∷ 1 ∷ 4 ∷ 4 ∷ 4 ∷ 3 ∷ 1 ∷ 0 ∷ 0 ∷ 0 ∷ 0 ∷ 0 ∷ []) Finished
    (codes "xa" ∷ codes "xb" ∷ codes "xc" ∷ codes "xd" ∷ [])
    (codes "0:1:1" ∷ codes "0:2:2" ∷ codes "0:4:4" ∷ codes "0:4:4:end" ∷ [])

-- the second write call fails after its first result with E, and F alone is retried and skipped: the partition fails, and keeps
-- what the first call wrote
abbrev pub WriteFailed : Type 0
WriteFailed =
    RunsTo unwritable_task
    (2 ∷ 0 ∷ 0 ∷ 2 ∷ 2 ∷ 2 ∷ 1 ∷ 1 ∷ 0 ∷ 0 ∷ 0 ∷ 0 ∷ 0 ∷ []) Failed
    (codes "xa" ∷ codes "xb" ∷ []) (codes "0:2:2" ∷ [])

-- a result that can't be written at first by a fault E, which is retried, nor in the redo by a fault F, which is skipped
abbrev pub ShakyWrite : Type 0
ShakyWrite =
    RunsTo shaky_writes_task
    (3 ∷ 3 ∷ 1 ∷ 2 ∷ 3 ∷ 2 ∷ 3 ∷ 1 ∷ 0 ∷ 0 ∷ 0 ∷ 1 ∷ 0 ∷ []) Finished
    (codes "xa" ∷ codes "xc" ∷ [])
    (codes "0:1:1" ∷ codes "0:2:1" ∷ codes "0:3:2" ∷ codes "0:3:2:end" ∷ [])

-- the retry limit reached: two retries are allowed, and the record can't be processed at the third try either
abbrev pub RetryLimit : Type 0
RetryLimit =
    RunsTo retried_out_task
    (0 ∷ 1 ∷ 2 ∷ 0 ∷ 0 ∷ 0 ∷ 0 ∷ 3 ∷ 0 ∷ 0 ∷ 0 ∷ 0 ∷ 0 ∷ []) Failed [] []

-- a read that is skipped: the first record can never be read, and its chunk has the one after it
abbrev pub ReadSkip : Type 0
ReadSkip =
    RunsTo read_skipped_task
    (3 ∷ 0 ∷ 0 ∷ 2 ∷ 2 ∷ 2 ∷ 2 ∷ 0 ∷ 1 ∷ 0 ∷ 0 ∷ 0 ∷ 0 ∷ []) Finished
    (codes "xb" ∷ codes "xc" ∷ []) (codes "0:2:1" ∷ codes "0:3:2" ∷ codes "0:3:2:end" ∷ [])

-- the skips before a write count at its fault: one is allowed, and the chunk's first read takes it. So the write call, which fails at
-- the other record, isn't skipped, and the partition fails.
abbrev pub SkippedBeforeWrite : Type 0
SkippedBeforeWrite =
    RunsTo skipped_and_unwritable_task
    (0 ∷ 0 ∷ 0 ∷ 0 ∷ 0 ∷ 0 ∷ 0 ∷ 1 ∷ 0 ∷ 0 ∷ 0 ∷ 0 ∷ 0 ∷ []) Failed [] []

-- A skip is forgotten with the chunk that is rolled back. A read takes the only one that is allowed. Then a process call of the chunk
-- fails with F, which is retried. In the redo the same read takes the skip again.
abbrev pub RolledBackSkip : Type 0
RolledBackSkip =
    RunsTo rolled_back_task
    (3 ∷ 2 ∷ 1 ∷ 2 ∷ 2 ∷ 2 ∷ 3 ∷ 1 ∷ 1 ∷ 0 ∷ 0 ∷ 0 ∷ 0 ∷ []) Finished
    (codes "xb" ∷ codes "xc" ∷ []) (codes "0:1:0" ∷ codes "0:2:1" ∷ codes "0:3:2" ∷ codes "0:3:2:end" ∷ [])

-- a repeat in place: the third of four process calls fails once, and is made again; the chunk continues
abbrev pub Repeat : Type 0
Repeat =
    RunsTo repeated_task
    (4 ∷ 0 ∷ 1 ∷ 4 ∷ 4 ∷ 4 ∷ 1 ∷ 0 ∷ 0 ∷ 0 ∷ 0 ∷ 0 ∷ 1 ∷ []) Finished
    (codes "xa" ∷ codes "xb" ∷ codes "xc" ∷ codes "xd" ∷ []) (codes "0:4:4" ∷ codes "0:4:4:end" ∷ [])

-- the retry limit reached by repeats: the call is made three times in all, and the partition fails
abbrev pub RepeatLimit : Type 0
RepeatLimit =
    RunsTo repeated_out_task
    (0 ∷ 0 ∷ 2 ∷ 0 ∷ 0 ∷ 0 ∷ 0 ∷ 1 ∷ 0 ∷ 0 ∷ 0 ∷ 0 ∷ 2 ∷ []) Failed [] []

-- a write that is repeated: the call fails once after its first result, which is cut back before all three are written
abbrev pub RepeatedWrite : Type 0
RepeatedWrite =
    RunsTo repeated_write_task
    (3 ∷ 0 ∷ 1 ∷ 3 ∷ 3 ∷ 3 ∷ 1 ∷ 0 ∷ 0 ∷ 0 ∷ 0 ∷ 0 ∷ 1 ∷ []) Finished
    (codes "xa" ∷ codes "xb" ∷ codes "xc" ∷ []) (codes "0:3:3" ∷ codes "0:3:3:end" ∷ [])

-- a repeat in a block that is rolled back counts: the first process call is repeated, for a fault E; the second fails with F, which
-- rolls the block back
abbrev pub RepeatedAndRolled : Type 0
RepeatedAndRolled =
    RunsTo repeated_and_rolled_task
    (2 ∷ 2 ∷ 2 ∷ 2 ∷ 2 ∷ 2 ∷ 2 ∷ 1 ∷ 0 ∷ 0 ∷ 0 ∷ 0 ∷ 1 ∷ []) Finished
    (codes "xa" ∷ codes "xb" ∷ []) (codes "0:1:1" ∷ codes "0:2:2" ∷ codes "0:2:2:end" ∷ [])

-- a call that fails each time, and is repeated as often as there may be retries and then skipped; nothing is rolled back
abbrev pub RepeatedThenSkipped : Type 0
RepeatedThenSkipped =
    RunsTo repeated_then_skipped_task
    (4 ∷ 0 ∷ 2 ∷ 3 ∷ 4 ∷ 3 ∷ 2 ∷ 0 ∷ 0 ∷ 1 ∷ 0 ∷ 0 ∷ 2 ∷ []) Finished
    (codes "xa" ∷ codes "xc" ∷ codes "xd" ∷ []) (codes "0:2:1" ∷ codes "0:4:3" ∷ codes "0:4:3:end" ∷ [])

-- a skip before a repeat still counts: the chunk's first read is skipped, and the process call of its other record is repeated
abbrev pub SkippedAndRepeated : Type 0
SkippedAndRepeated =
    RunsTo skipped_and_repeated_task
    (3 ∷ 0 ∷ 1 ∷ 2 ∷ 2 ∷ 2 ∷ 2 ∷ 0 ∷ 1 ∷ 0 ∷ 0 ∷ 0 ∷ 1 ∷ []) Finished
    (codes "xb" ∷ codes "xc" ∷ []) (codes "0:2:1" ∷ codes "0:3:2" ∷ codes "0:3:2:end" ∷ [])

-- In the single-record redo skipping comes before repeating. A fault F rolled the block back. E, which the other record meets in the
-- redo, may be skipped and may be repeated, and is skipped.
abbrev pub SkippedInRedo : Type 0
SkippedInRedo =
    RunsTo skipped_in_redo_task
    (2 ∷ 2 ∷ 1 ∷ 1 ∷ 2 ∷ 1 ∷ 2 ∷ 1 ∷ 0 ∷ 1 ∷ 0 ∷ 0 ∷ 0 ∷ []) Finished
    (codes "xa" ∷ []) (codes "0:1:1" ∷ codes "0:2:1" ∷ codes "0:2:1:end" ∷ [])

-- two repeats of one read are all that the retry limit has: the write that fails after them fails the partition
abbrev pub RepeatedReads : Type 0
RepeatedReads =
    RunsTo repeated_reads_task
    (0 ∷ 0 ∷ 2 ∷ 0 ∷ 0 ∷ 0 ∷ 0 ∷ 1 ∷ 0 ∷ 0 ∷ 0 ∷ 0 ∷ 2 ∷ []) Failed [] []

-- what a collector sees of a row: its partition, its range, its checkpoint, each count, and at last that nothing is left
abbrev pub AllSeen : Type 0
AllSeen =
    RunsTo seen_task
    (46 ∷ 10 ∷ 0 ∷ 4 ∷ 33 ∷ 4 ∷ 11 ∷ 6 ∷ 3 ∷ 5 ∷ 7 ∷ 4 ∷ 0 ∷ []) Finished
    (codes "xm" ∷ codes "xn" ∷ codes "xe" ∷ codes "xf" ∷ [])
    (seen_at 45 32 3 10 0 ∷ seen_at 46 33 4 11 0 ∷ seen_at 46 33 4 11 1 ∷ [])

-- the Plain runs of three records in two chunks, and of the partition whose items are all filtered
pub record PlainRuns : Type 0 where
  pub counts : numbers (plain_row (task 0 0 3 2 strict sound sound sound)) ≡ 3 ∷ 0 ∷ 0 ∷ 3 ∷ 3 ∷ 3 ∷ 2 ∷ 0 ∷ 0 ∷ 0 ∷ 0 ∷ 0 ∷ 0 ∷ []
  pub outputs : plain_outputs (task 0 0 3 2 strict sound sound sound) ≡ codes "xa" ∷ codes "xb" ∷ codes "xc" ∷ []
  pub filtered : numbers (plain_row filtered_task) ≡ 4 ∷ 0 ∷ 0 ∷ 0 ∷ 4 ∷ 0 ∷ 1 ∷ 0 ∷ 0 ∷ 0 ∷ 4 ∷ 0 ∷ 0 ∷ []
  pub nothing : plain_outputs filtered_task ≡ []
