-- How many events a history has, with the outcomes that are still to come.
use Rattle.std.proofs.Common.{◌≡◌, ◌+◌, ◌≤◌, List, [], ◌∷◌, length, arith}
use Rattle.jb_base.specs.Limits.{max_events}
use Rattle.jb_repo.specs.declared.events.Event.{Event}
use Rattle.jb_repo.specs.declared.events.Event.TheVariants.{Plan, Begin, Commit, Roll, Fail, Drop, Round, Stop}
use Rattle.jb_repo.specs.History.{running, number, is_begin, is_outcome}
use Rattle.jb_repo.specs.Table.{Journal, AcceptedPast}
use Rattle.jb_repo.specs.Answers.{places_of}
use Rattle.jb_repo.specs.Openable.{IsOpenable}
use Rattle.jb_repo.specs.Laws.{EventsAreFew, KindsAreFew, ChunksAreEnded, EventsAddUp}
use Rattle.jb_repo.proofs.Consistent.{at_past}
use Rattle.jb_repo.proofs.Noting.{running-opening, number-few}
use Rattle.jb_repo.proofs.Opened.{still_openable}
use Rattle.jb_repo.proofs.Places.{places_after, needed_few}

few_events : (j : Journal) → IsOpenable j → (past : List Event) → AcceptedPast j past → length past + running j.threads past ≤ max_events
few_events j ready [] ok = omega (arith, running-opening j.threads)
few_events j ready (e ∷ past) ok =
    let few = needed_few (at_past j past) e ok.0 (few_events j ready past ok.1) in
    let places = places_after (at_past j past) (still_openable j past j.room ready) ok.1 e ok.0 in
    omega (arith, few, places)

pub events_are_few : EventsAreFew
events_are_few j law = few_events j law.ready j.past law.accepted

pub kinds_are_few : KindsAreFew
kinds_are_few j law test = number-few test j.past

-- BY KINDS

module _ (j : Journal) (past : List Event) (old : number is_begin past ≡ number is_outcome past + running j.threads past) where
  ended_after : (e : Event) → 1 + running j.threads (e ∷ past) ≡ running j.threads past + places_of e → number is_begin (e ∷ past) ≡ number is_outcome (e ∷ past) + running j.threads (e ∷ past)
  ended_after (Plan n k) places = omega (arith, old, places)
  ended_after (Begin l p) places = omega (arith, old, places)
  ended_after (Commit l d w a) places = omega (arith, old, places)
  ended_after (Roll l k a) places = omega (arith, old, places)
  ended_after (Fail l k a) places = omega (arith, old, places)
  ended_after (Drop l) places = omega (arith, old, places)
  ended_after Round places = omega (arith, old, places)
  ended_after Stop places = omega (arith, old, places)

ended : (j : Journal) → IsOpenable j → (past : List Event) → AcceptedPast j past → number is_begin past ≡ number is_outcome past + running j.threads past
ended j ready [] ok = omega (arith, running-opening j.threads)
ended j ready (e ∷ past) ok =
    ended_after j past (ended j ready past ok.1) e (places_after (at_past j past) (still_openable j past j.room ready) ok.1 e ok.0)

pub chunks_are_ended : ChunksAreEnded
chunks_are_ended j law = ended j law.ready j.past law.accepted

pub events_add_up : EventsAddUp
events_add_up [] = omega arith
events_add_up (Plan n k ∷ past) = omega (arith, events_add_up past)
events_add_up (Begin l p ∷ past) = omega (arith, events_add_up past)
events_add_up (Commit l d w a ∷ past) = omega (arith, events_add_up past)
events_add_up (Roll l k a ∷ past) = omega (arith, events_add_up past)
events_add_up (Fail l k a ∷ past) = omega (arith, events_add_up past)
events_add_up (Drop l ∷ past) = omega (arith, events_add_up past)
events_add_up (Round ∷ past) = omega (arith, events_add_up past)
events_add_up (Stop ∷ past) = omega (arith, events_add_up past)
