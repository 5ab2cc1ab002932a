-- What holds of every accepted history of a repository.
use Rattle.std.specs.Prelude.{◌≡◌, ℕ, ◌+◌, ◌-◌, ◌<◌, ◌≤◌, ◌↔◌, Bool, true, false, List, [], ◌∷◌, ◌++◌, map, length, slice_get, Option, Some, None, if◌then◌else◌}
use Rattle.std.specs.List.{list_all}
use Rattle.jb_rules.specs.declared.counts.Counts.{Counts}
use Rattle.jb_rules.specs.declared.row.Row.{Row}
use Rattle.jb_rules.specs.declared.row.RowState.TheVariants.{Waiting, Running}
use Rattle.jb_base.specs.declared.class.ClassId.{ClassId}
use Rattle.jb_cert.specs.declared.certificates.Certificate.{Certificate}
use Rattle.jb_repo.specs.declared.deltas.Delta.{Delta}
use Rattle.jb_repo.specs.declared.events.Event.{Event}
use Rattle.jb_repo.specs.Deltas.{counts_in}
use Rattle.jb_repo.specs.declared.events.Event.TheVariants.{Plan, Begin, Commit, Roll, Fail, Drop, Round, Stop}
use Rattle.jb_base.specs.Limits.{max_retry_limit, max_events}
use Rattle.jb_repo.specs.declared.refused.Refused.TheVariants.{BadDelta, BadPlan}
use Rattle.jb_plan.specs.Blocks.{blocks}
use Rattle.jb_rules.specs.Counts.{IsDelta}
use Rattle.jb_rules.specs.Sound.{IsSoundRow}
use Rattle.jb_rules.specs.Rows.{row_block, remaining_of, begun_row, repeated_row, committed_row, rolled_row, failed_row, dropped_row}
use Rattle.jb_base.specs.declared.range.Range.{Range}
use Rattle.jb_cert.specs.Load.{IsWithinLimits}
use Rattle.jb_cert.specs.Lawful.{IsLeastNumber}
use Rattle.jb_cert.specs.Certificates.{Holds}
use Rattle.jb_repo.specs.History.{owner, own, partition_of, is_some_of, some, number, is_begin, is_commit_event, is_outcome, is_plan, is_plan_open, is_round, is_stop, is_stopping}
use Rattle.jb_repo.specs.Rows.{replayed_row, at_after, remaining, total_counts}
use Rattle.jb_repo.specs.Table.{Journal, refusal, after, rows_of, row_of, reserved}
use Rattle.jb_repo.specs.Openable.{IsOpenable, IsReplayable, opened_journal}

-- the same repository with another history
abbrev pub with_past : Journal → List Event → Journal
with_past j past = record j { past = past }

-- OPENING AND LENGTH

-- What may be opened is a repository with an accepted history, the empty one, and its rows are the opening rows
pub record IsOpened (j : Journal) : Type 0 where
  pub replayable : IsReplayable j
  pub rows : rows_of j ≡ j.opening

abbrev pub OpeningsAreAccepted : Type 0
OpeningsAreAccepted =
    (rows : List Row) (threads item_count : ℕ) → IsOpenable (opened_journal rows threads item_count)
    → IsOpened (opened_journal rows threads item_count)

-- if no lane runs, the rows now are rows with which a repository may be opened
abbrev pub RowsMayBeOpenedAgain : Type 0
RowsMayBeOpenedAgain =
    (j : Journal) → IsReplayable j → reserved j ≡ 0 → IsOpenable (opened_journal (rows_of j) j.threads j.item_count)

-- at most 1,000,000,000 events and reserved places
abbrev pub EventsAreFew : Type 0
EventsAreFew = (j : Journal) → IsReplayable j → length j.past + reserved j ≤ max_events

-- and no more events of a kind than events
abbrev pub KindsAreFew : Type 0
KindsAreFew = (j : Journal) → IsReplayable j → (test : Event → Bool) → number test j.past ≤ length j.past

-- as many chunks were ended as started, but for those that run
abbrev pub ChunksAreEnded : Type 0
ChunksAreEnded = (j : Journal) → IsReplayable j → number is_begin j.past ≡ number is_outcome j.past + reserved j

-- and each event is a Plan, a Begin, the end of a chunk, a Round or a Stop
abbrev pub EventsAddUp : Type 0
EventsAddUp =
    (past : List Event)
    → length past ≡ number is_plan past + number is_begin past + number is_outcome past + number is_round past + number is_stop past

-- LANES

-- the row says that its partition runs on the lane
abbrev pub RunsOn : Option Row → ℕ → Type 0
RunsOn None lane = ⊥
RunsOn (Some row) lane = row.state ≡ Running lane

abbrev pub OneLane : Type 0
OneLane = (j : Journal) → IsReplayable j → (k l p : ℕ) → owner k j.past ≡ Some p → owner l j.past ≡ Some p → k ≡ l

abbrev pub OnePartition : Type 0
OnePartition = (j : Journal) → IsReplayable j → (l p q : ℕ) → RunsOn (row_of j p) l → RunsOn (row_of j q) l → p ≡ q

-- a lane that runs is one of the repository's, and runs one of its partitions
abbrev pub LanesAreKnown : Type 0
LanesAreKnown =
    (j : Journal) → IsReplayable j → (l p : ℕ) → owner l j.past ≡ Some p → (l < j.threads) × (p < length j.opening)

-- it may end its chunk: a rollback and a failure, after no more repeats than a chunk may make, and a drop are accepted
pub record LanesMayEnd (j : Journal) (l : ℕ) : Type 0 where
  pub rolled : (class : ClassId) (again : ℕ) → again ≤ max_retry_limit → refusal j (Roll l class again) ≡ None
  pub failed : (class : ClassId) (again : ℕ) → again ≤ max_retry_limit → refusal j (Fail l class again) ≡ None
  pub dropped : refusal j (Drop l) ≡ None

abbrev pub RunningLanesMayEnd : Type 0
RunningLanesMayEnd = (j : Journal) → IsReplayable j → (l p : ℕ) → owner l j.past ≡ Some p → LanesMayEnd j l

-- the rows and the history agree on which lane runs what
abbrev pub RowsShowLanes : Type 0
RowsShowLanes = (j : Journal) → IsReplayable j → (l p : ℕ) → (owner l j.past ≡ Some p) ↔ RunsOn (row_of j p) l

abbrev pub RowsAreSound : Type 0
RowsAreSound = (j : Journal) → IsReplayable j → (p : ℕ) (row : Row) → row_of j p ≡ Some row → IsSoundRow row

-- THE STEPS OF A ROW

-- what an event changes in the row of the partition that it is about
abbrev pub next_row : ℕ → Row → Event → Row
next_row item_count row (Begin lane partition) = begun_row row lane
next_row item_count row (Commit lane delta written again) = committed_row (repeated_row row again) (row_block item_count row).hi (counts_in delta)
next_row item_count row (Roll lane class again) = dropped_row (rolled_row (repeated_row row again) (row_block item_count row).hi)
next_row item_count row (Fail lane class again) = failed_row (repeated_row row again)
next_row item_count row (Drop lane) = dropped_row row
next_row item_count row _ = row

-- an accepted event takes that row one step further, and changes no other
abbrev pub RowsLiveOn : Type 0
RowsLiveOn =
    (j : Journal) → IsReplayable j → (e : Event) → refusal j e ≡ None → (p : ℕ) (row : Row) → row_of j p ≡ Some row
    → row_of (after j e) p ≡ Some (if is_some_of (partition_of e j.past) p then next_row j.item_count row e else row)

-- BLOCKS

-- the block that a Commit of the row commits
abbrev pub committed_block : ℕ → Row → Range
committed_block item_count row = record { lo = row.at; hi = (row_block item_count row).hi }

-- the blocks of a partition's Commits, the newest first: each the next block of the row before it
abbrev pub committed_blocks : ℕ → Row → List Event → List Range
committed_blocks item_count opening [] = []
committed_blocks item_count opening (Commit lane delta written again ∷ events) =
    committed_block item_count (replayed_row item_count opening events) ∷ committed_blocks item_count opening events
committed_blocks item_count opening (_ ∷ events) = committed_blocks item_count opening events

-- the blocks join one another, from `from` to `to`
abbrev pub AreConsecutive : ℕ → List Range → ℕ → Type 0
AreConsecutive from [] to = from ≡ to
AreConsecutive from (block ∷ older) to = (block.hi ≡ to) × AreConsecutive from older block.lo

abbrev pub CommitsAreConsecutive : Type 0
CommitsAreConsecutive =
    (j : Journal) → IsReplayable j → (p : ℕ) (opening : Row) → slice_get j.opening p ≡ Some opening
    → AreConsecutive opening.at (committed_blocks j.item_count opening (own p j.past)) (at_after opening (own p j.past))

-- The Commit takes the first of the blocks that its partition had left: all its records, of which there is one at least
pub record TakesFirstBlock (j : Journal) (lane : ℕ) (delta : Counts) : Type 0 where
  pub partition : ℕ
  pub owned : owner lane j.past ≡ Some partition
  pub row : Row
  pub row_is : row_of j partition ≡ Some row
  pub block : Range
  pub first : blocks row.at row.redo row.hi j.item_count ≡ block ∷ blocks block.hi row.redo row.hi j.item_count
  pub from : block.lo ≡ row.at
  pub some : block.lo < block.hi
  pub passed : block.lo + (delta.read + delta.read_skip) ≡ block.hi

abbrev pub CommitsTakeFirstBlocks : Type 0
CommitsTakeFirstBlocks =
    (j : Journal) → IsReplayable j → (later past : List Event) (lane : ℕ) (delta : Delta) (written again : ℕ)
    → j.past ≡ later ++ Commit lane delta written again ∷ past → TakesFirstBlock (with_past j past) lane (counts_in delta)

-- COMMITS

-- the delta is one of the row's next block, and the number of results is the row's with those of the delta
abbrev pub IsCommitOfNext : ℕ → Row → Counts → ℕ → Type 0
IsCommitOfNext item_count row delta written =
    IsDelta ((row_block item_count row).hi - row.at) delta × (written ≡ row.written + delta.write)

-- a lane's Commit, after no more repeats than a chunk may make, is accepted exactly if it is one of the row's next block ..
abbrev pub GoodCommitsAreAccepted : Type 0
GoodCommitsAreAccepted =
    (j : Journal) → IsReplayable j → (lane p : ℕ) (row : Row) → owner lane j.past ≡ Some p → row_of j p ≡ Some row
    → (delta : Delta) (written again : ℕ) → again ≤ max_retry_limit → (refusal j (Commit lane delta written again) ≡ None) ↔ IsCommitOfNext j.item_count row (counts_in delta) written

-- .. and is BadDelta exactly if it isn't
abbrev pub BadCommitsAreRefused : Type 0
BadCommitsAreRefused =
    (j : Journal) → IsReplayable j → (lane p : ℕ) (row : Row) → owner lane j.past ≡ Some p → row_of j p ≡ Some row
    → (delta : Delta) (written again : ℕ) → again ≤ max_retry_limit
    → (refusal j (Commit lane delta written again) ≡ Some BadDelta) ↔ (IsCommitOfNext j.item_count row (counts_in delta) written → ⊥)

-- the rows count as many commits as there are Commits, beside those that they were opened with
abbrev pub CommitsAreCounted : Type 0
CommitsAreCounted =
    (j : Journal) → IsReplayable j
    → (total_counts (rows_of j)).commit ≡ (total_counts j.opening).commit + number is_commit_event j.past

-- ORDER

-- the event on lane 0
abbrev pub without_lane : Event → Event
without_lane (Begin lane partition) = Begin 0 partition
without_lane (Commit lane delta written again) = Commit 0 delta written again
without_lane (Roll lane class again) = Roll 0 class again
without_lane (Fail lane class again) = Fail 0 class again
without_lane (Drop lane) = Drop 0
without_lane e = e

-- each partition has the same own events in the same order, lanes aside
abbrev pub SameOwn : ℕ → List Event → List Event → Type 0
SameOwn partitions one other = (p : ℕ) → p < partitions → map without_lane (own p one) ≡ map without_lane (own p other)

abbrev pub OrderIsFree : Type 0
OrderIsFree =
    (j : Journal) (one other : List Event) → IsReplayable (with_past j one) → IsReplayable (with_past j other)
    → reserved (with_past j one) ≡ 0 → reserved (with_past j other) ≡ 0 → SameOwn (length j.opening) one other
    → rows_of (with_past j one) ≡ rows_of (with_past j other)

-- PLANS

-- n is the number of rounds of a least plan (`IsLeastNumber`) for the chunks that are left, and the certificate holds
abbrev pub IsCertified : Journal → ℕ → Certificate → Type 0
IsCertified j n certificate =
    IsLeastNumber (remaining j.item_count (rows_of j)) j.threads n
    × Holds (remaining j.item_count (rows_of j)) j.threads n certificate

-- each Plan was certified when it was opened
abbrev pub PlansAreLeast : Type 0
PlansAreLeast =
    (j : Journal) → IsReplayable j → (later past : List Event) (n : ℕ) (certificate : Certificate) → j.past ≡ later ++ Plan n certificate ∷ past
    → IsCertified (with_past j past) n certificate

-- at most as many Rounds as the Plan has come before the next Plan
abbrev pub RoundsArePlanned : Type 0
RoundsArePlanned =
    (j : Journal) → IsReplayable j → (later past : List Event) (n : ℕ) (certificate : Certificate) → j.past ≡ later ++ Plan n certificate ∷ past
    → some is_plan later ≡ false → number is_round later ≤ n

-- a chunk is started or committed, or a round is over
abbrev pub goes_well : Event → Bool
goes_well (Begin lane partition) = true
goes_well (Commit lane delta written again) = true
goes_well Round = true
goes_well _ = false

-- and exactly as many if all goes well, without a Roll, Fail, Drop or Stop
abbrev pub PlansAreRunWhole : Type 0
PlansAreRunWhole =
    (j : Journal) → IsReplayable j → (between past : List Event) (m n : ℕ) (next certificate : Certificate)
    → j.past ≡ Plan m next ∷ (between ++ Plan n certificate ∷ past) → list_all goes_well between ≡ true → number is_round between ≡ n

-- the event begins a chunk, or ends a round
abbrev pub goes_on : Event → Bool
goes_on (Begin lane partition) = true
goes_on Round = true
goes_on _ = false

-- after the event and a Round no Begin and no Round comes before the next Plan
abbrev pub EndsPlan : Event → Type 0
EndsPlan e =
    (j : Journal) → IsReplayable j → (later between past : List Event) → j.past ≡ later ++ Round ∷ (between ++ e ∷ past)
    → some is_plan later ≡ false → some is_plan between ≡ false → some goes_on later ≡ false

-- a rollback, a failure, a chunk that was given up and a stop each end the plan with their round
pub record PlansEnd : Type 0 where
  pub rolled : (lane : ℕ) (class : ClassId) (again : ℕ) → EndsPlan (Roll lane class again)
  pub failed : (lane : ℕ) (class : ClassId) (again : ℕ) → EndsPlan (Fail lane class again)
  pub dropped : (lane : ℕ) → EndsPlan (Drop lane)
  pub stopped : EndsPlan Stop

-- WHICH PLANS ARE ACCEPTED

-- no stop was asked for, no lane runs, and no plan is open
pub record MayPlan (j : Journal) : Type 0 where
  pub not_stopping : is_stopping j.past ≡ false
  pub none_runs : reserved j ≡ 0
  pub none_open : is_plan_open j.past ≡ false

-- a Plan is accepted exactly if there may be one, it is certified, and it has a place ..
abbrev pub GoodPlansAreAccepted : Type 0
GoodPlansAreAccepted =
    (j : Journal) → IsReplayable j → (n : ℕ) (certificate : Certificate)
    → (refusal j (Plan n certificate) ≡ None) ↔ (MayPlan j × IsCertified j n certificate × (length j.past < max_events))

-- .. and is BadPlan exactly if there may be one and it isn't certified
abbrev pub BadPlansAreRefused : Type 0
BadPlansAreRefused =
    (j : Journal) → IsReplayable j → (n : ℕ) (certificate : Certificate)
    → (refusal j (Plan n certificate) ≡ Some BadPlan) ↔ (MayPlan j × (IsCertified j n certificate → ⊥))

-- WHICH ROUNDS AND STOPS ARE ACCEPTED

-- no lane runs, and a plan is open
pub record MayEndRound (j : Journal) : Type 0 where
  pub none_runs : reserved j ≡ 0
  pub one_open : is_plan_open j.past ≡ true

-- a Round is accepted exactly if a round may end, and it has a place
abbrev pub GoodRoundsAreAccepted : Type 0
GoodRoundsAreAccepted =
    (j : Journal) → (refusal j Round ≡ None) ↔ (MayEndRound j × (length j.past < max_events))

-- a Stop is accepted exactly if it has a place beside the reserved ones
abbrev pub PlacedStopsAreAccepted : Type 0
PlacedStopsAreAccepted =
    (j : Journal) → (refusal j Stop ≡ None) ↔ (length j.past + reserved j < max_events)

-- WHAT IS LEFT TO PLAN

-- what is left is a load that can be planned
abbrev pub LoadsFit : Type 0
LoadsFit = (j : Journal) → IsReplayable j → IsWithinLimits (remaining j.item_count (rows_of j)) j.threads

-- also of rows with which a repository may be opened
abbrev pub OpeningLoadsFit : Type 0
OpeningLoadsFit = (j : Journal) → IsOpenable j → IsWithinLimits (remaining j.item_count j.opening) j.threads

-- a waiting row has a chunk left
abbrev pub WaitingRowsHaveChunks : Type 0
WaitingRowsHaveChunks =
    (item_count : ℕ) (row : Row) → 1 ≤ item_count → IsSoundRow row → row.state ≡ Waiting
    → 1 ≤ remaining_of item_count row row.state
