-- What a partition of a step begins with, or resumes from, and what it leaves by itself (own choice: a partition is a range
-- of the step's records).
use Rattle.std.specs.Prelude.{ℕ, ◌≡◌, ◌+◌, ◌-◌, ◌∷◌, ◌==◌, ◌&&◌, nat_le, nat_lt, Bool, true, List, [], map, slice_index_or, take, drop, filter, find, reverse, Option, Some, None}
use Rattle.std.specs.Str.Lossy.{utf8_lossy}
use Rattle.jb_base.specs.declared.range.Range.{Range}
use Rattle.jb_rules.specs.Rows.{range_of}
use Rattle.jb_rules.specs.declared.row.Row.{Row}
use Rattle.jb_rules.specs.States.{has_ended}
use Rattle.jb_artifacts.specs.declared.faults.FaultPlan.{FaultPlan}
use Rattle.jb_artifacts.specs.declared.faults.FaultPlan.TheVariants as plan
use Rattle.jb_artifacts.specs.Faults.{FaultTable}
use Rattle.jb_artifacts.specs.Meaning.{ArtifactsMeaning}
use Rattle.jb_artifacts.specs.Prefix.{prefixed}
use Rattle.jb_artifacts.specs.Collected.{count_text}
use Rattle.jb_documents.specs.declared.run.faults.FaultKind.{FaultKind}
use Rattle.jb_documents.specs.declared.run.faults.FaultKind.TheVariants.{Bad, Shaky}
use Rattle.jb_documents.specs.declared.run.faults.PlannedFault.{PlannedFault}
use Rattle.jb_chunk.specs.TaskState.{TaskState, started}
use Rattle.jb_chunk.specs.Alone.{IsAlone, IsOnTheWay}
use Rattle.jb_chunk.specs.Plain.{IsCalm, plain_outputs, plain_row}
use Rattle.jb_texts.specs.Report.{PartitionReport}
use Rattle.jb_program.specs.declared.run.settings.StepSettings.{StepSettings}

-- the records of a range, of all the step's
abbrev pub records_in : List (List ℕ) → Range → List (List ℕ)
records_in records range = take (range.hi - range.lo) (drop range.lo records)

-- ---- the fault plans of an artifact

abbrev pub fault_plan_of : FaultKind → FaultPlan
fault_plan_of (Bad class) = plan.Bad class
fault_plan_of (Shaky classes) = plan.Shaky classes

-- a record without a planned fault is sound
abbrev pub fault_plan_by : Option PlannedFault → FaultPlan
fault_plan_by None = plan.Sound
fault_plan_by (Some fault) = fault_plan_of fault.kind

-- the plan of each record: the fault that the list has for its number
abbrev pub fault_plans : List PlannedFault → FaultTable
fault_plans faults = λ k. fault_plan_by (find (λ fault. k == fault.number) (reverse faults))

abbrev pub is_of_range : Range → PlannedFault → Bool
is_of_range range fault = nat_le range.lo fault.number && nat_lt fault.number range.hi

-- An artifact gets the plans of the records of its range.
unfoldable pub plans_in : List PlannedFault → Range → FaultTable
plans_in faults range = fault_plans (filter (is_of_range range) faults)

-- ---- the partition's task

-- what a partition works with before it begins: its records, the prefix, the results that its writer holds, and the counts
-- as texts
abbrev pub opening_artifacts : StepSettings → (records held : List (List ℕ)) → Range → ArtifactsMeaning
opening_artifacts step records held range = record {
  reader = record { first = range.lo; records = records; place = range.lo; faults = plans_in step.faults.read range };
  processor = record { answer = λ _ item. prefixed step.prefix step.drop item; faults = plans_in step.faults.process range };
  writer = record { written = held; faults = plans_in step.faults.write range };
  collector = count_text;
}

-- what the writer of a partition holds, of the lists that an earlier run left; nothing where it left none
abbrev pub held_by : (outputs : List (List (List ℕ))) → (partition : ℕ) → List (List ℕ)
held_by outputs partition = slice_index_or outputs partition []

-- what a partition with this row works with: it has the records of its range
abbrev pub opening_artifacts_for : StepSettings → (records : List (List ℕ)) → (outputs : List (List (List ℕ))) → ℕ × Row → ArtifactsMeaning
opening_artifacts_for step records outputs n = opening_artifacts step (records_in records (range_of n.1)) (held_by outputs n.0) (range_of n.1)

-- The task of a partition that begins with this row, or resumes from it: what its writer holds past the results that were
-- committed is cut off.
abbrev pub begun_with : StepSettings → (records : List (List ℕ)) → (outputs : List (List (List ℕ))) → (partition : ℕ) → Row → TaskState
begun_with step records outputs partition row = started partition row step.rules step.item_count (opening_artifacts_for step records outputs (partition, row))

-- ---- what it leaves

-- a task's row, and the results in its writer as texts
abbrev pub report_of : TaskState → PartitionReport
report_of task = record { row = task.row; outputs = map utf8_lossy task.artifacts.writer.written }

-- what is left if no call fails: after what was committed, the answers on all other records, however they are cut into
-- chunks
abbrev pub plain_report : TaskState → PartitionReport
plain_report begun = record { row = plain_row begun; outputs = map utf8_lossy (plain_outputs begun) }

-- What a partition that begins with this task leaves. Only its own attempts lead there, one after another: nothing here
-- speaks of another partition, a thread or a round. Where it is finished or failed, it left what all of them lead to, and
-- that is plain where no call fails. A partition that was finished before makes no attempt.
pub record IsPartitionRun (begun : TaskState) (left : PartitionReport) : Type 0 where
  pub task : TaskState
  pub is_left : left ≡ report_of task
  pub on_the_way : IsOnTheWay begun task
  pub alone : has_ended left.row.state ≡ true → IsAlone begun task
  pub plain : has_ended left.row.state ≡ true → IsCalm begun.artifacts begun.row.at begun.row.hi → left ≡ plain_report begun

-- what the partitions of a step leave, in order, from this number on, where this is how each begins with its row
abbrev pub ArePartitionRuns : (begun : (partition : ℕ) → Row → TaskState) → (partition : ℕ) → List Row → List PartitionReport → Type 0
ArePartitionRuns begun partition [] reports = reports ≡ []
ArePartitionRuns begun partition (row ∷ rows) [] = ⊥
ArePartitionRuns begun partition (row ∷ rows) (left ∷ reports) =
    IsPartitionRun (begun partition row) left × ArePartitionRuns begun (partition + 1) rows reports
