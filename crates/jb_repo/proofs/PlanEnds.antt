-- After the Round that follows an event that ends the plan, the plan isn't gone on with.
use Rattle.std.proofs.Common.{◌≡◌, Bool, true, false, List, [], ◌∷◌, ◌++◌, None, refl, ◌∙◌, ap, subst}
use Rattle.std.proofs.lemmas.Bool.{or_parts, or_right}
use Rattle.std.proofs.Math.Bool.{and-false}
use Rattle.jb_repo.specs.declared.events.Event.{Event}
use Rattle.jb_repo.specs.declared.events.Event.TheVariants.{Plan, Begin, Commit, Roll, Fail, Drop, Round, Stop}
use Rattle.jb_repo.specs.History.{some, events_since, is_plan, ends_plan, is_closed, is_plan_open}
use Rattle.jb_repo.specs.Table.{Journal, refusal, AcceptedPast}
use Rattle.jb_repo.specs.Laws.{goes_on, EndsPlan}
use Rattle.jb_repo.proofs.Consistent.{at_past}
use Rattle.jb_repo.proofs.Passing.{begin_passes, round_passes}

since-later : (later past : List Event) → some is_plan later ≡ false → events_since is_plan (later ++ past) ≡ later ++ events_since is_plan past
since-later [] past none = refl
since-later (e ∷ later) past none =
    let f = or_parts (is_plan e) (some is_plan later) none in
    let h = since-later later past f.1 in
    rw (f.0, h) refl

some-later : (test : Event → Bool) (later past : List Event) → some test past ≡ true → some test (later ++ past) ≡ true
some-later test [] past h = h
some-later test (e ∷ later) past h = or_right (test e) (some test (later ++ past)) (some-later test later past h)

closed-later : (later past : List Event) → is_closed past ≡ true → is_closed (later ++ past) ≡ true
closed-later [] past h = h
closed-later (e ∷ later) past h = or_right _ _ (closed-later later past h)

-- the Round closes the plan
closed-by : (e : Event) (between past : List Event) → ends_plan e ≡ true → is_closed (Round ∷ (between ++ e ∷ past)) ≡ true
closed-by e between past ends =
    let here : some ends_plan (e ∷ past) ≡ true = rw ends refl in
    let stands = some-later ends_plan between (e ∷ past) here in
    rw stands refl

module _ (e : Event) (between past : List Event) (no_plan : is_plan e ≡ false) (ends : ends_plan e ≡ true) (none : some is_plan between ≡ false) where
  since-plan : (later : List Event) → some is_plan later ≡ false → events_since is_plan (later ++ Round ∷ (between ++ e ∷ past)) ≡ later ++ Round ∷ (between ++ e ∷ events_since is_plan past)
  since-plan later silent =
      let here : events_since is_plan (e ∷ past) ≡ e ∷ events_since is_plan past = rw no_plan refl in
      since-later later (Round ∷ (between ++ e ∷ past)) silent
      ∙ ap (λ (x : List Event). later ++ Round ∷ x) (since-later between (e ∷ past) none ∙ ap (λ (x : List Event). between ++ x) here)

  shut : (later : List Event) → some is_plan later ≡ false → is_plan_open (later ++ Round ∷ (between ++ e ∷ past)) ≡ false
  shut later silent =
      let c = closed-later later (Round ∷ (between ++ e ∷ events_since is_plan past)) (closed-by e between (events_since is_plan past) ends) in
      let closed = ap is_closed (since-plan later silent) ∙ c in
      rw closed (and-false _)

-- where no plan is open, no chunk is begun and no round ends
stays : (j : Journal) (past : List Event) (x : Event) → refusal (at_past j past) x ≡ None → is_plan_open past ≡ false → goes_on x ≡ false
stays j past (Plan n k) ok closed = refl
stays j past (Begin l p) ok closed = let o = (begin_passes (at_past j past) l p ok).open_plan in absurd cc
stays j past (Commit l d w a) ok closed = refl
stays j past (Roll l k a) ok closed = refl
stays j past (Fail l k a) ok closed = refl
stays j past (Drop l) ok closed = refl
stays j past Round ok closed = let o = (round_passes (at_past j past) ok).open_plan in absurd cc
stays j past Stop ok closed = refl

none_goes_on : (j : Journal) (later between past : List Event) (e : Event) → is_plan e ≡ false → ends_plan e ≡ true
    → AcceptedPast j (later ++ Round ∷ (between ++ e ∷ past)) → some is_plan later ≡ false → some is_plan between ≡ false → some goes_on later ≡ false
none_goes_on j [] between past e no_plan ends ok silent none = refl
none_goes_on j (x ∷ later) between past e no_plan ends ok silent none =
    let f = or_parts (is_plan x) (some is_plan later) silent in
    let here = stays j (later ++ Round ∷ (between ++ e ∷ past)) x ok.0 (shut e between past no_plan ends none later f.1) in
    let there = none_goes_on j later between past e no_plan ends ok.1 f.1 none in
    rw (here, there) refl

pub plan_ends : (e : Event) → is_plan e ≡ false → ends_plan e ≡ true → EndsPlan e
plan_ends e no_plan ends j law later between past is silent none =
    none_goes_on j later between past e no_plan ends (subst (λ (x : List Event). AcceptedPast j x) is law.accepted) silent none
