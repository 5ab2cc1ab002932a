-- A list of events in which each event meets each of its refusals, and the answers.
use Rattle.std.specs.Prelude.{List, [], ◌∷◌, Option, Some, None, map}
use Rattle.jb_base.specs.declared.class.ClassId.{ClassId}
use Rattle.jb_cert.specs.declared.certificates.Certificate.TheVariants.{Nothing, Longest}
use Rattle.jb_repo.specs.declared.events.Event.{Event}
use Rattle.jb_repo.specs.declared.events.Event.TheVariants.{Plan, Begin, Commit, Roll, Fail, Drop, Round, Stop}
use Rattle.jb_repo.specs.declared.refused.Refused.{Refused}
use Rattle.jb_repo.specs.declared.refused.Refused.TheVariants.{Stopping, NoPartition, LaneRange, LaneBusy, NotIdle, NotRunning, BadDelta, StillRunning, PastPlan, BadPlan}
use Rattle.jb_repo.specs.Deltas.{delta_of}
use Rattle.jb_repo.specs.Worked.{two_records}

-- on two partitions of one chunk each; one repeat in place too many is looked at last
abbrev pub answered_events : ClassId → List (Event × Option Refused)
answered_events class =
    (Begin 0 0, Some PastPlan) ∷ (Round, Some PastPlan) ∷ (Plan 1 (Longest 2), Some BadPlan) ∷ (Plan 1 Nothing, Some BadPlan)
    ∷ (Plan 1 (Longest 0), None) ∷ (Plan 1 (Longest 0), Some StillRunning)
    ∷ (Commit 2 (delta_of two_records) 2 0, Some LaneRange) ∷ (Roll 2 class 0, Some LaneRange) ∷ (Fail 2 class 100001, Some LaneRange) ∷ (Drop 2, Some LaneRange)
    ∷ (Commit 0 (delta_of two_records) 2 100001, Some NotRunning) ∷ (Roll 0 class 100001, Some NotRunning) ∷ (Fail 0 class 100001, Some NotRunning) ∷ (Drop 0, Some NotRunning)
    ∷ (Begin 2 2, Some NoPartition) ∷ (Begin 0 0, None) ∷ (Begin 1 1, None) ∷ (Plan 1 (Longest 0), Some StillRunning)
    ∷ (Commit 0 (delta_of two_records) 2 100001, Some BadDelta) ∷ (Roll 0 class 100001, Some BadDelta) ∷ (Fail 0 class 100001, Some BadDelta)
    ∷ (Commit 0 (delta_of two_records) 2 100000, None) ∷ (Begin 0 0, Some LaneBusy) ∷ (Drop 1, None) ∷ (Round, None)
    ∷ (Begin 0 1, Some PastPlan) ∷ (Plan 1 (Longest 1), None) ∷ (Begin 0 0, Some NotIdle) ∷ (Begin 0 1, None)
    ∷ (Fail 0 class 100000, None) ∷ (Begin 1 1, Some NotIdle) ∷ (Stop, None) ∷ (Begin 1 1, Some Stopping)
    ∷ (Round, None) ∷ (Plan 0 Nothing, Some Stopping) ∷ (Stop, None) ∷ []

abbrev pub refused_events : ClassId → List Event
refused_events class = map (λ answered. answered.0) (answered_events class)

abbrev pub answers : ClassId → List (Option Refused)
answers class = map (λ answered. answered.1) (answered_events class)
