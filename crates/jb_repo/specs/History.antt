-- Questions about a history. A history is a list of events, the newest first: in `e ∷ past` the event e comes after past.
-- (Jakarta Batch 2.1, "Job Repository", leaves open what a job repository stores. The events are this project's own.)
use Rattle.std.specs.Prelude.{ℕ, zero, suc, ◌+◌, nat_eq, nat_lt, Bool, true, false, not, ◌&&◌, ◌||◌, if◌then◌else◌, List, [], ◌∷◌, Option, Some, None, is_some}
use Rattle.jb_base.specs.declared.class.ClassId.{ClassId}
use Rattle.jb_repo.specs.declared.events.Event.{Event}
use Rattle.jb_repo.specs.declared.events.Event.TheVariants.{Plan, Begin, Commit, Roll, Fail, Drop, Round, Stop}

abbrev pub is_some_of : Option ℕ → ℕ → Bool
is_some_of None n = false
is_some_of (Some m) n = nat_eq m n

-- the lane that an event names
abbrev pub lane_of : Event → Option ℕ
lane_of (Begin lane partition) = Some lane
lane_of (Commit lane delta written again) = Some lane
lane_of (Roll lane class again) = Some lane
lane_of (Fail lane class again) = Some lane
lane_of (Drop lane) = Some lane
lane_of _ = None

-- the partition that a Begin names
abbrev pub begun_by : Event → Option ℕ
begun_by (Begin lane partition) = Some partition
begun_by _ = None

abbrev pub is_plan : Event → Bool
is_plan (Plan n certificate) = true
is_plan _ = false

abbrev pub is_begin : Event → Bool
is_begin (Begin lane partition) = true
is_begin _ = false

-- the event ends a chunk
abbrev pub is_outcome : Event → Bool
is_outcome (Commit lane delta written again) = true
is_outcome (Roll lane class again) = true
is_outcome (Fail lane class again) = true
is_outcome (Drop lane) = true
is_outcome _ = false

abbrev pub is_commit_event : Event → Bool
is_commit_event (Commit lane delta written again) = true
is_commit_event _ = false

abbrev pub is_round : Event → Bool
is_round Round = true
is_round _ = false

abbrev pub is_stop : Event → Bool
is_stop Stop = true
is_stop _ = false

-- the next Round after it closes the plan
abbrev pub ends_plan : Event → Bool
ends_plan (Roll lane class again) = true
ends_plan (Fail lane class again) = true
ends_plan (Drop lane) = true
ends_plan Stop = true
ends_plan _ = false

-- some event passes the test
abbrev pub some : (Event → Bool) → List Event → Bool
some test [] = false
some test (e ∷ past) = test e || some test past

-- how many events pass the test
abbrev pub number : (Event → Bool) → List Event → ℕ
number test [] = 0
number test (e ∷ past) = (if test e then 1 else 0) + number test past

-- the events after the last one that passes the test
abbrev pub events_since : (Event → Bool) → List Event → List Event
events_since test [] = []
events_since test (e ∷ past) = if test e then [] else e ∷ events_since test past

-- the last event that passes the test
abbrev pub last : (Event → Bool) → List Event → Option Event
last test [] = None
last test (e ∷ past) = if test e then Some e else last test past

-- LANES AND PARTITIONS

abbrev pub names_lane : ℕ → Event → Bool
names_lane lane e = is_some_of (lane_of e) lane

abbrev pub begun : Option Event → Option ℕ
begun None = None
begun (Some e) = begun_by e

-- A lane runs if the last event that names it is a Begin; its partition is then the owner of the lane's outcome
abbrev pub owner : ℕ → List Event → Option ℕ
owner lane past = begun (last (names_lane lane) past)

abbrev pub runs : ℕ → List Event → Bool
runs lane past = is_some (owner lane past)

-- how many of the lanes below n run
abbrev pub running : ℕ → List Event → ℕ
running zero past = 0
running (suc n) past = (if runs n past then 1 else 0) + running n past

abbrev pub begins_lane : ℕ → Event → Bool
begins_lane lane e = is_some (begun_by e) && names_lane lane e

abbrev pub begins_partition : ℕ → Event → Bool
begins_partition partition e = is_some_of (begun_by e) partition

-- A lane or a partition is marked if a Begin names it after the last Round
abbrev pub is_lane_marked : ℕ → List Event → Bool
is_lane_marked lane past = some (begins_lane lane) (events_since is_round past)

abbrev pub is_partition_marked : ℕ → List Event → Bool
is_partition_marked partition past = some (begins_partition partition) (events_since is_round past)

-- PLANS

-- a Round comes after an event that ends the plan
abbrev pub is_closed : List Event → Bool
is_closed [] = false
is_closed (e ∷ past) = (is_round e && some ends_plan past) || is_closed past

-- the rounds that the event plans
abbrev pub rounds_in : Option Event → ℕ
rounds_in (Some (Plan n certificate)) = n
rounds_in _ = 0

-- the rounds of the last plan
abbrev pub planned_rounds : List Event → ℕ
planned_rounds past = rounds_in (last is_plan past)

-- A plan is open if fewer Rounds than it has come after the last Plan, and no Round after a Roll, Fail, Drop or Stop
abbrev pub is_plan_open : List Event → Bool
is_plan_open past = nat_lt (number is_round (events_since is_plan past)) (planned_rounds past) && not (is_closed (events_since is_plan past))

abbrev pub is_stopping : List Event → Bool
is_stopping past = some is_stop past

-- OWN EVENTS

-- the partition that an event is about, after past: the one that a Begin names, or the owner of an outcome
abbrev pub partition_of : Event → List Event → Option ℕ
partition_of (Begin lane partition) past = Some partition
partition_of (Commit lane delta written again) past = owner lane past
partition_of (Roll lane class again) past = owner lane past
partition_of (Fail lane class again) past = owner lane past
partition_of (Drop lane) past = owner lane past
partition_of _ past = None

-- a partition's own events: its Begins and the outcomes that it owns
abbrev pub own : ℕ → List Event → List Event
own partition [] = []
own partition (e ∷ past) =
    if is_some_of (partition_of e past) partition then e ∷ own partition past else own partition past

-- the class of the last Fail among the events
abbrev pub failure_in : List Event → Option ClassId
failure_in [] = None
failure_in (Fail lane class again ∷ events) = Some class
failure_in (_ ∷ events) = failure_in events
