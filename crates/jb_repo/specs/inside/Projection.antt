-- What is stored beside a history, and the questions about the history that it answers.
use Rattle.std.specs.Prelude.{◌≡◌, ◌==◌, ℕ, ◌+◌, ◌<◌, ◌≤◌, List, length, take, Option, None, IfSome, slice_index_or}
use Rattle.jb_base.specs.Limits.{max_events, max_partitions, max_threads}
use Rattle.jb_base.specs.declared.class.ClassId.{ClassId}
use Rattle.jb_repo.specs.declared.events.Event.{Event}
use Rattle.jb_repo.specs.declared.failures.Failures.{Failures}
use Rattle.jb_repo.specs.declared.owners.Owners.{Owners}
use Rattle.jb_repo.specs.declared.marks.Marks.{Marks}
use Rattle.jb_repo.specs.declared.plan_progress.PlanProgress.{PlanProgress}
use Rattle.jb_repo.specs.declared.projection.Projection.{Projection}
use Rattle.jb_repo.specs.History.{owner, is_lane_marked, is_partition_marked, number, some, events_since, is_plan, is_round, ends_plan, is_closed, planned_rounds, is_stopping, own, failure_in, lane_of, begun_by}
use Rattle.jb_repo.specs.Rows.{total_counts}
use Rattle.jb_repo.specs.Table.{Journal, Accepted, refusal, rows_of, reserved}
use Rattle.jb_repo.specs.Answers.{needed}
use Rattle.jb_repo.specs.Openable.{IsOpenable}

-- the lane and the partition that the event names have their places
pub record IsInPlace (e : Event) : Type 0 where
  pub lane : IfSome (lane_of e) (λ lane. lane < max_threads)
  pub partition : IfSome (begun_by e) (λ partition. partition < max_partitions)

-- each lane's partition is the one that it runs
abbrev pub ShowOwners : Owners → List Event → Type 0
ShowOwners owners past = (l : ℕ) (d : Option ℕ) → l < max_threads → slice_index_or owners.partitions l d ≡ owner l past

-- each lane and each partition is marked if the history says so: its number is that of this round. None has a later one, and there were no
-- more rounds than events
pub record ShowMarks (marks : Marks) (past : List Event) : Type 0 where
  pub lanes : (l d : ℕ) → l < max_threads → (slice_index_or marks.lanes l d == marks.round) ≡ is_lane_marked l past
  pub partitions : (p d : ℕ) → p < max_partitions → (slice_index_or marks.partitions p d == marks.round) ≡ is_partition_marked p past
  pub early_lanes : (l d : ℕ) → l < max_threads → slice_index_or marks.lanes l d ≤ marks.round
  pub early_partitions : (p d : ℕ) → p < max_partitions → slice_index_or marks.partitions p d ≤ marks.round
  pub rounds : marks.round ≡ number is_round past + 1

-- the number of plans, the last one's rounds, and what came after it
pub record ShowPlan (plan : PlanProgress) (past : List Event) : Type 0 where
  pub count : plan.count ≡ number is_plan past
  pub planned : plan.planned ≡ planned_rounds past
  pub used : plan.used ≡ number is_round (events_since is_plan past)
  pub ended : plan.ended ≡ some ends_plan (events_since is_plan past)
  pub closed : plan.closed ≡ is_closed (events_since is_plan past)
  pub stopping : plan.stopping ≡ is_stopping past

-- each partition's number counts its own events
abbrev pub ShowOwnEvents : List ℕ → List Event → Type 0
ShowOwnEvents counts past = (p d : ℕ) → p < max_partitions → slice_index_or counts p d ≡ length (own p past)

-- each partition's class is that of its last Fail
abbrev pub ShowFailures : Failures → List Event → Type 0
ShowFailures failures past = (p : ℕ) (d : Option ClassId) → p < max_partitions → slice_index_or failures.classes p d ≡ failure_in (own p past)

-- all that is stored
pub record Shows (j : Journal) (s : Projection) : Type 0 where
  pub table : take (length j.opening) s.rows ≡ rows_of j
  pub own_events : ShowOwnEvents s.own_events j.past
  pub totals : s.totals ≡ total_counts (rows_of j)
  pub reserved : s.reserved ≡ reserved j
  pub owners : ShowOwners s.owners j.past
  pub marks : ShowMarks s.marks j.past
  pub plan : ShowPlan s.plan j.past
  pub failures : ShowFailures s.failures j.past

-- the event is accepted after the journal, which it leaves within its limit
pub record CanEnter (j : Journal) (s : Projection) (e : Event) (item_count : ℕ) : Type 0 where
  pub ready : IsOpenable j
  pub accepted : Accepted j
  pub passes : refusal j e ≡ None
  pub few : needed j e ≤ max_events
  pub items : item_count ≡ j.item_count
  pub shows : Shows j s
