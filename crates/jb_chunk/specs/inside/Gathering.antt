-- What the functions that read and process a block keep, record by record.
use Rattle.std.specs.Prelude.{ℕ, ◌≡◌, ◌+◌, ◌≤◌, ◌++◌, List, false, Option, Some, None, option_to_list}
use Rattle.jb_base.specs.declared.class.ClassId.{ClassId}
use Rattle.jb_base.specs.Limits.{max_records}
use Rattle.jb_rules.specs.declared.row.Row.{Row}
use Rattle.jb_base.specs.Rules.{RulesRecord}
use Rattle.jb_artifacts.specs.Faults.{FaultTable, live, used_at}
use Rattle.jb_artifacts.specs.Writer.{Numbered}
use Rattle.jb_artifacts.specs.Meaning.{ArtifactsMeaning}
use Rattle.jb_chunk.specs.declared.entry.EntryKind.{EntryKind}
use Rattle.jb_chunk.specs.declared.entry.EntryKind.TheVariants as kind
use Rattle.jb_chunk.specs.declared.tally.Tally.{Tally}
use Rattle.jb_rules.specs.declared.choice.Choice.{Choice}
use Rattle.jb_rules.specs.Rows.{skips_of}
use Rattle.jb_chunk.specs.Block.{results, count_of, choice_at, is_skip, stops, MayBeUsed}
use Rattle.jb_chunk.specs.Entries.{Entry, ReadFault, ProcessFault, Processed, fault_in, is_fault, is_read_fault, text_in, numbered, one_if}

-- the entry of such a kind; where it was processed, with this answer
abbrev pub entry_with : EntryKind → (answer : Option (List ℕ)) → Entry
entry_with (kind.ReadFault class) answer = ReadFault class
entry_with (kind.ProcessFault class) answer = ProcessFault class
entry_with kind.Processed answer = Processed answer

-- what records came to: their results, and how many were skipped
pub record Yield : Type 0 where
  pub found : Numbered
  pub skips : ℕ
  pub read_skips : ℕ

abbrev pub yield_of : Tally → (found : Numbered) → Yield
yield_of t found = record { found = found; skips = t.skips; read_skips = t.read_skips }

-- what the records `lo` to `hi - 1` came to
pub record IsTally (w : ArtifactsMeaning) (lo hi : ℕ) (t : Yield) : Type 0 where
  pub found : t.found ≡ results w lo hi
  pub skips : t.skips ≡ count_of is_fault w lo hi
  pub read_skips : t.read_skips ≡ count_of is_read_fault w lo hi

-- the processor's plans after record `k`: only a record that was read is processed
abbrev pub processed_at : (read_fault : Option ClassId) → FaultTable → ℕ → FaultTable
processed_at (Some class) plans k = plans
processed_at None plans k = used_at plans k

-- reader and processor after record `k`
abbrev pub passed_one : ArtifactsMeaning → ℕ → ArtifactsMeaning
passed_one w k = record w {
  reader = record w.reader { place = k + 1; faults = used_at w.reader.faults k };
  processor = record w.processor { faults = processed_at (live (w.reader.faults k)) w.processor.faults k };
}

-- reader and processor may have worked on the records from `lo` to `hi - 1`, and nothing else
pub record IsWornTo (lo hi : ℕ) (w now : ArtifactsMeaning) : Type 0 where
  pub reader : now.reader ≡ record w.reader { place = now.reader.place; faults = now.reader.faults }
  pub processor : now.processor ≡ record w.processor { faults = now.processor.faults }
  pub writer : now.writer ≡ w.writer
  pub collector : now.collector ≡ w.collector
  pub read_plans : MayBeUsed lo hi w.reader.faults now.reader.faults
  pub process_plans : MayBeUsed lo hi w.processor.faults now.processor.faults

-- the numbers of a tally are far from a limit
pub record IsSmallTally (t : Tally) : Type 0 where
  pub skips : t.skips ≤ max_records
  pub read_skips : t.read_skips ≤ max_records

-- there is one more record, with this entry
pub record IsCountedUp (number : ℕ) (e : Entry) (old new : Yield) : Type 0 where
  pub found : new.found ≡ old.found ++ option_to_list (numbered number (text_in e))
  pub skips : new.skips ≡ old.skips + one_if (is_fault e)
  pub read_skips : new.read_skips ≡ old.read_skips + one_if (is_read_fault e)

-- a record with this entry settled the block, or it is counted
abbrev pub IsGatheringStep : RulesRecord → Row → Entry → (number : ℕ) → Yield → Option (ClassId × Choice) → Yield → Type 0
IsGatheringStep rules row e number old (Some settled) new =
    let choice = choice_at rules row settled.0 (skips_of row + old.skips) in
    (fault_in e ≡ Some settled.0) × (settled.1 ≡ choice) × (is_skip choice ≡ false)
IsGatheringStep rules row e number old None new =
    (stops rules row (fault_in e) (skips_of row + old.skips) ≡ false) × IsCountedUp number e old new
