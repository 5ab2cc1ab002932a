-- Faults of a block: one entry for each record, and the first fault that isn't skipped.
use Rattle.std.specs.Prelude.{ℕ, zero, suc, ◌+◌, ◌-◌, Bool, true, false, not, ◌&&◌, nat_lt, nat_le, if◌then◌else◌, List, Option, Some, None, find, count_by, ◌≡◌, ◌≤◌, ◌<◌, ◌⊎◌}
use Rattle.std.specs.List.{filter_map, range_with_len}
use Rattle.jb_base.specs.declared.class.ClassId.{ClassId}
use Rattle.jb_base.specs.Rules.{RulesRecord}
use Rattle.jb_rules.specs.declared.row.Row.{Row}
use Rattle.jb_rules.specs.declared.choice.Choice.{Choice}
use Rattle.jb_rules.specs.declared.choice.Choice.TheVariants.{Skip, Again}
use Rattle.jb_rules.specs.Decide.{choice_of}
use Rattle.jb_rules.specs.Rows.{skips_of}
use Rattle.jb_artifacts.specs.declared.faults.FaultPlan.{FaultPlan}
use Rattle.jb_artifacts.specs.Faults.{FaultTable, live, used, is_live}
use Rattle.jb_artifacts.specs.Reader.{record_at}
use Rattle.jb_artifacts.specs.Writer.{Numbered}
use Rattle.jb_artifacts.specs.Meaning.{ArtifactsMeaning}
use Rattle.jb_chunk.specs.Entries.{Entry, ReadFault, ProcessFault, Processed, fault_in, is_fault, text_in, numbered}

-- What becomes of a record is one of three things: its read fails; else its process call fails; else it is processed. A
-- processed record has a result, unless the processor answers none, which filters it (Jakarta Batch 2.1, "Regular Chunk
-- Processing" and "ItemProcessor").
abbrev pub entry_by : (read_fault process_fault : Option ClassId) → (answer : Option (List ℕ)) → Entry
entry_by (Some class) process_fault answer = ReadFault class
entry_by None (Some class) answer = ProcessFault class
entry_by None None answer = Processed answer

-- the entry of the record with this number
unfoldable pub entry : ArtifactsMeaning → ℕ → Entry
entry w k = entry_by (live (w.reader.faults k)) (live (w.processor.faults k)) (w.processor.answer k (record_at w.reader k))

-- the results of the records `lo` to `hi - 1`, in order
unfoldable pub results : ArtifactsMeaning → (lo hi : ℕ) → Numbered
results w lo hi = filter_map (λ k. numbered k (text_in (entry w k))) (range_with_len lo (hi - lo))

-- how many of these records have such an entry
unfoldable pub count_of : (Entry → Bool) → ArtifactsMeaning → (lo hi : ℕ) → ℕ
count_of p w lo hi = count_by (λ k. p (entry w k)) (range_with_len lo (hi - lo))

-- The skips before record `k`: those of the partition's committed chunks, and the faults of the block's earlier records.
-- No other partition's are among them (this project's choice: a limit for the whole step would make the answer depend on
-- the threads).
abbrev pub skips_before : Row → ArtifactsMeaning → ℕ → ℕ
skips_before row w k = skips_of row + count_of is_fault w row.at k

-- what becomes of a fault of this class after so many skips; below `redo` a rolled-back block is done again
abbrev pub choice_at : RulesRecord → Row → ClassId → (skips : ℕ) → Choice
choice_at rules row class skips = choice_of rules class (nat_lt row.at row.redo) skips row.retries

abbrev pub is_skip : Choice → Bool
is_skip Skip = true
is_skip _ = false

abbrev pub is_again : Choice → Bool
is_again Again = true
is_again _ = false

-- there is a fault, and its call is to be repeated in place
abbrev pub repeats : RulesRecord → Row → Option ClassId → (skips : ℕ) → Bool
repeats rules row None skips = false
repeats rules row (Some class) skips = is_again (choice_at rules row class skips)

-- there is a fault, and it isn't skipped
abbrev pub stops : RulesRecord → Row → Option ClassId → (skips : ℕ) → Bool
stops rules row None skips = false
stops rules row (Some class) skips = not (is_skip (choice_at rules row class skips))

-- record `k` has a fault that isn't skipped
unfoldable pub settles : RulesRecord → Row → ArtifactsMeaning → ℕ → Bool
settles rules row w k = stops rules row (fault_in (entry w k)) (skips_before row w k)

-- the settling record: the first of the block up to `hi` whose fault isn't skipped
unfoldable pub settling : RulesRecord → Row → ArtifactsMeaning → (hi : ℕ) → Option ℕ
settling rules row w hi = find (settles rules row w) (range_with_len row.at (hi - row.at))

-- the plans after a call for each record from `lo` to `hi - 1` at which `called` holds
unfoldable pub used_between : (called : ℕ → Bool) → FaultTable → (lo hi : ℕ) → FaultTable
used_between called plans lo hi = λ k. if nat_le lo k && nat_lt k hi && called k then used (plans k) else plans k

-- Reader and processor after the records from `lo` to `hi - 1`. Each is read. A read fault moves the reader past the
-- record (this project's choice). Only a record that was read is processed.
abbrev pub passed : ArtifactsMeaning → (lo hi : ℕ) → ArtifactsMeaning
passed w lo hi = record w {
  reader = record w.reader { place = hi; faults = used_between (λ _. true) w.reader.faults lo hi };
  processor = record w.processor { faults = used_between (λ k. not (is_live w.reader.faults k)) w.processor.faults lo hi };
}

-- a plan after so many calls
abbrev pub used_times : ℕ → FaultPlan → FaultPlan
used_times zero plan = plan
used_times (suc n) plan = used (used_times n plan)

-- each plan of the records from `lo` to `hi - 1` is as it was after some calls; the others are as they were
pub record MayBeUsed (lo hi : ℕ) (old new : FaultTable) : Type 0 where
  pub each : (k : ℕ) → (n : ℕ) × (new k ≡ used_times n (old k))
  pub others : (k : ℕ) → (k < lo) ⊎ (hi ≤ k) → new k ≡ old k
