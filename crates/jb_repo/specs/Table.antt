-- The table of the events: which are refused, and which histories are accepted (this project's own choice).
use Rattle.std.specs.Prelude.{◌≡◌, ℕ, ◌+◌, ◌-◌, nat_eq, nat_lt, nat_le, Bool, false, not, ◌&&◌, ◌||◌, if◌then◌else◌, List, [], ◌∷◌, length, slice_get, Option, Some, None, is_none}
use Rattle.jb_rules.specs.declared.counts.Counts.{Counts}
use Rattle.jb_rules.specs.declared.row.Row.{Row}
use Rattle.jb_cert.specs.declared.certificates.Certificate.{Certificate}
use Rattle.jb_base.specs.declared.class.ClassId.{ClassId}
use Rattle.jb_repo.specs.declared.events.Event.{Event}
use Rattle.jb_repo.specs.Deltas.{counts_in}
use Rattle.jb_repo.specs.declared.events.Event.TheVariants.{Plan, Begin, Commit, Roll, Fail, Drop, Round, Stop}
use Rattle.jb_repo.specs.declared.refused.Refused.{Refused}
use Rattle.jb_repo.specs.declared.refused.Refused.TheVariants.{Stopping, NoPartition, LaneRange, LaneBusy, NotIdle, NotRunning, BadDelta, StillRunning, PastPlan, BadPlan, Full}
use Rattle.jb_rules.specs.States.{has_ended}
use Rattle.jb_rules.specs.Counts.{is_delta}
use Rattle.jb_rules.specs.Rows.{row_block}
use Rattle.jb_cert.specs.Certificates.{is_least_plan}
use Rattle.jb_base.specs.Limits.{max_events, max_rollbacks, max_retry_limit, max_in_place}
use Rattle.jb_repo.specs.History.{own, failure_in, owner, running, is_lane_marked, is_partition_marked, is_plan_open, is_stopping}
use Rattle.jb_repo.specs.Rows.{rows_from, remaining}

-- what a repository holds: what it was opened with, its events, the newest first, and its room: how many events there is
-- memory for, those of the history among them
pub record Journal : Type 0 where
  pub opening : List Row
  pub threads : ℕ
  pub item_count : ℕ
  pub past : List Event
  pub room : ℕ

-- the rows now
abbrev pub rows_of : Journal → List Row
rows_of j = rows_from j.item_count j.past 0 j.opening

abbrev pub row_of : Journal → ℕ → Option Row
row_of j partition = slice_get (rows_of j) partition

-- how many events are the partition's own; 0 if there is no such partition
abbrev pub own_events : Journal → ℕ → ℕ
own_events j partition = if nat_lt partition (length j.opening) then length (own partition j.past) else 0

-- the class by which the partition failed, if there is such a partition and it has a Fail
abbrev pub failure : Journal → ℕ → Option ClassId
failure j partition = if nat_lt partition (length j.opening) then failure_in (own partition j.past) else None

-- the places that are reserved for outcomes
abbrev pub reserved : Journal → ℕ
reserved j = running j.threads j.past

-- there are not so many places left
abbrev pub is_full : Journal → ℕ → Bool
is_full j places = nat_lt max_events (length j.past + reserved j + places)

-- n is the least number of rounds for what is left, and the certificate holds
abbrev pub is_good_plan : Journal → ℕ → Certificate → Bool
is_good_plan j n certificate =
    is_least_plan (remaining j.item_count (rows_of j)) j.threads n certificate

abbrev pub is_ended : Option Row → Bool
is_ended None = false
is_ended (Some row) = has_ended row.state

-- as many rollbacks as there may be, or no room for the repeats in place of one more chunk
abbrev pub is_at_limit : Option Row → Bool
is_at_limit None = false
is_at_limit (Some row) = nat_le max_rollbacks row.counts.rollback || nat_lt (max_in_place - max_retry_limit) row.in_place

-- the delta and the number written are those of a commit of the row's next block
abbrev pub is_commit_of : ℕ → Row → Counts → ℕ → Bool
is_commit_of item_count row delta written =
    is_delta ((row_block item_count row).hi - row.at) delta && nat_eq written (row.written + delta.write)

abbrev pub is_commit_of_row : ℕ → Option Row → Counts → ℕ → Bool
is_commit_of_row item_count None delta written = false
is_commit_of_row item_count (Some row) delta written = is_commit_of item_count row delta written

abbrev pub is_good_commit : Journal → Option ℕ → Counts → ℕ → Bool
is_good_commit j None delta written = false
is_good_commit j (Some partition) delta written = is_commit_of_row j.item_count (row_of j partition) delta written

-- THE TABLE: the conditions under which an event is refused, in their order

abbrev pub Condition : Type 0
Condition = Bool × Refused

abbrev pub outcome_conditions : Journal → ℕ → List Condition
outcome_conditions j lane =
    (nat_le j.threads lane, LaneRange)
    ∷ (is_none (owner lane j.past), NotRunning)
    ∷ []

-- an outcome that rolls the chunk back or fails it, after so many repeats: a chunk has no more than there may be retries
abbrev pub undone_conditions : Journal → ℕ → (again : ℕ) → List Condition
undone_conditions j lane again =
    (nat_le j.threads lane, LaneRange)
    ∷ (is_none (owner lane j.past), NotRunning)
    ∷ (nat_lt max_retry_limit again, BadDelta)
    ∷ []

abbrev pub conditions : Journal → Event → List Condition
conditions j (Plan n certificate) =
    (is_stopping j.past, Stopping)
    ∷ (nat_lt 0 (reserved j) || is_plan_open j.past, StillRunning)
    ∷ (not (is_good_plan j n certificate), BadPlan)
    ∷ (is_full j 1, Full)
    ∷ []
conditions j (Begin lane partition) =
    (is_stopping j.past, Stopping)
    ∷ (nat_le (length j.opening) partition, NoPartition)
    ∷ (nat_le j.threads lane, LaneRange)
    ∷ (is_lane_marked lane j.past, LaneBusy)
    ∷ (is_partition_marked partition j.past || is_ended (row_of j partition), NotIdle)
    ∷ (not (is_plan_open j.past), PastPlan)
    ∷ (is_full j 2 || is_at_limit (row_of j partition), Full)
    ∷ []
conditions j (Commit lane delta written again) =
    (nat_le j.threads lane, LaneRange)
    ∷ (is_none (owner lane j.past), NotRunning)
    ∷ (not (is_good_commit j (owner lane j.past) (counts_in delta) written) || nat_lt max_retry_limit again, BadDelta)
    ∷ []
conditions j (Roll lane class again) = undone_conditions j lane again
conditions j (Fail lane class again) = undone_conditions j lane again
conditions j (Drop lane) = outcome_conditions j lane
conditions j Round =
    (nat_lt 0 (reserved j), StillRunning)
    ∷ (not (is_plan_open j.past), PastPlan)
    ∷ (is_full j 1, Full)
    ∷ []
conditions j Stop =
    (is_full j 1, Full)
    ∷ []

-- the first refusal whose condition holds
abbrev pub first_refusal : List Condition → Option Refused
first_refusal [] = None
first_refusal ((holds, refused) ∷ others) = if holds then Some refused else first_refusal others

abbrev pub refusal : Journal → Event → Option Refused
refusal j e = first_refusal (conditions j e)

-- the journal after one more event, for which there was room
abbrev pub after : Journal → Event → Journal
after j e = record j { past = e ∷ j.past }

-- the same journal with another room
abbrev pub with_room : Journal → ℕ → Journal
with_room j room = record j { room = room }

-- ACCEPTED HISTORIES: each event passes the table after those before it

abbrev pub AcceptedPast : Journal → List Event → Type 0
AcceptedPast j [] = Unit {0}
AcceptedPast j (e ∷ past) = (refusal (record j { past = past }) e ≡ None) × AcceptedPast j past

abbrev pub Accepted : Journal → Type 0
Accepted j = AcceptedPast j j.past
