-- What comes of an attempt has a place in an event.
use Rattle.std.proofs.Common.{◌≡◌, ℕ, ◌+◌, ◌-◌, ◌≤◌, inl, inr, [], refl, arith}
use Rattle.jb_base.specs.Limits.{max_records}
use Rattle.jb_rules.specs.declared.counts.Counts.{Counts}
use Rattle.jb_rules.specs.declared.row.Row.{Row}
use Rattle.jb_rules.specs.Counts.{IsDelta}
use Rattle.jb_rules.specs.Sound.{IsSoundRow}
use Rattle.jb_chunk.specs.declared.outcome.Outcome.{Outcome}
use Rattle.jb_chunk.specs.declared.outcome.Outcome.TheVariants.{Committed, Rolled, Failed, NoMemory}
use Rattle.jb_chunk.specs.Attempt.{AttemptEnd, IsAttempt, block_of}
use Rattle.jb_chunk.specs.Laws.{CommitsHaveDeltas, TasksStandAtCheckpoints}
use Rattle.jb_chunk.specs.TaskState.{TaskState}
use Rattle.jb_repo.specs.Deltas.{FitDelta}
use Rattle.jb_workers.specs.Works.{CanBegin}
use Rattle.jb_workers.specs.inside.Fitting.{HasFittingDelta, AttemptsFit}

-- no number of a delta is above that of the records, or above 1
few-results : (d : Counts) (records : ℕ) → IsDelta records d → records ≤ max_records → (d.write ≤ max_records) × (d.process_skip + d.filter ≤ max_records) × (d.write_skip ≤ 1)
few-results d records is few =
    elim is.results as (λ _. (d.write ≤ max_records) × (d.process_skip + d.filter ≤ max_records) × (d.write_skip ≤ 1)) [
      | inl kept ↦ let passed = is.passed in let none = kept.0 in let all = kept.1 in (omega arith, omega arith, omega arith)
      | inr left ↦ let passed = is.passed in let one = left.0 in let nothing = left.1 in let fewer = left.2 in (omega arith, omega arith, omega arith)
    ]

delta-fits : (d : Counts) (records : ℕ) → IsDelta records d → records ≤ max_records → FitDelta d
delta-fits d records is few =
    let results = few-results d records is few in
    let passed = is.passed in
    let commit = is.commit in
    let rollback = is.rollback in
    record {
      read = omega arith;
      write = omega arith;
      commit = omega arith;
      rollback = omega arith;
      read_skip = omega arith;
      process_skip = omega arith;
      filter = omega arith;
      write_skip = omega arith;
    }

-- a task's next chunk has no more records than there are
chunk-few : TasksStandAtCheckpoints → (t : TaskState) → CanBegin t → (block_of t).hi - t.row.at ≤ max_records
chunk-few law t can =
    let within = ((law t t can.ready (record { attempts = []; run = refl })).chunk can.waiting).1 in
    let records = can.ready.sound.placed.records in
    omega arith

by-outcome : CommitsHaveDeltas → TasksStandAtCheckpoints → (t : TaskState) (e : AttemptEnd) (o : Outcome) → e.outcome ≡ o → CanBegin t → IsAttempt t e → HasFittingDelta o
by-outcome deltas checkpoints t e (Committed delta) is can attempt =
    delta-fits delta ((block_of t).hi - t.row.at) (deltas t e delta can.ready can.waiting attempt is) (chunk-few checkpoints t can)
by-outcome deltas checkpoints t e (Rolled class) is can attempt = tt
by-outcome deltas checkpoints t e (Failed class) is can attempt = tt
by-outcome deltas checkpoints t e NoMemory is can attempt = tt

-- a sound row has no more results than there are records
written-few : (row : Row) → IsSoundRow row → row.written ≤ max_records
written-few row sound =
    let placed = sound.placed in
    let counted = sound.counted in
    omega arith

pub attempts_fit : CommitsHaveDeltas → TasksStandAtCheckpoints → AttemptsFit
attempts_fit deltas checkpoints t e can attempt ready few = record {
  counts = by-outcome deltas checkpoints t e e.outcome refl can attempt;
  results = written-few e.task.row ready.sound;
  repeats = few;
}
