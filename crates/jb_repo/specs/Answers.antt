-- The answers to events.
use Rattle.std.specs.Prelude.{◌≡◌, ℕ, ◌+◌, ◌<◌, ◌≤◌, List, [], ◌∷◌, length, Option, Some, None, ◌⊎◌}
use Rattle.jb_repo.specs.declared.events.Event.{Event}
use Rattle.jb_repo.specs.declared.events.Event.TheVariants.{Plan, Begin, Round, Stop}
use Rattle.jb_repo.specs.declared.refused.Refused.{Refused}
use Rattle.jb_repo.specs.declared.refused.Refused.TheVariants.{Memory}
use Rattle.jb_repo.specs.Table.{Journal, refusal, after, with_room, reserved}

-- the places that an event asks for: a Begin its own and its outcome's, and an outcome none, since its Begin reserved it
abbrev pub places_of : Event → ℕ
places_of (Plan n certificate) = 1
places_of (Begin lane partition) = 2
places_of Round = 1
places_of Stop = 1
places_of _ = 0

-- the places that the history needs for the event and for the outcomes that are still to come
abbrev pub needed : Journal → Event → ℕ
needed j e = length j.past + reserved j + places_of e

-- each lane that runs has the place of its outcome
abbrev pub HasPlaces : Journal → Type 0
HasPlaces j = length j.past + reserved j ≤ j.room

-- the first refusal of the table; or Memory, if the table has none and there was less room than the event needs
abbrev pub IsRefusal : Journal → Event → Refused → Type 0
IsRefusal j e refused =
    (refusal j e ≡ Some refused) ⊎ ((refused ≡ Memory) × (refusal j e ≡ None) × (0 < places_of e) × (j.room < needed j e))

-- the event is in the journal; the room is another one only if there was too little
pub record Enters (old : Journal) (e : Event) (new : Journal) : Type 0 where
  pub entered : new ≡ after (with_room old new.room) e
  pub in_place : needed old e ≤ old.room → new.room ≡ old.room

-- one event: it is accepted and is in the journal, or it is refused and changes nothing
abbrev pub Applies : Journal → Event → Option Refused → Journal → Type 0
Applies old e None new = (refusal old e ≡ None) × Enters old e new
Applies old e (Some refused) new = IsRefusal old e refused × (new ≡ old)

-- the answers to events, one after another
abbrev pub AppliesAll : Journal → List Event → List (Option Refused) → Journal → Type 0
AppliesAll old [] [] new = new ≡ old
AppliesAll old (e ∷ events) (answer ∷ answers) new = (between : Journal) × Applies old e answer between × AppliesAll between events answers new
AppliesAll old [] (answer ∷ answers) new = ⊥
AppliesAll old (e ∷ events) [] new = ⊥
