-- The fields keep what they stand for.
use Rattle.std.proofs.Common.{◌≡◌, ℕ, suc, ◌+◌, ◌≤◌, List, [], ◌∷◌, ◌++◌, length, reverse, Option, None, refl, sym, ◌∙◌, ap, subst, arith, vec_len, vec_capacity, Result, Ok, Err, is_err, false, OnOk}
use Rattle.std.proofs.lemmas.List.{reverse-append, length-reverse}
use Rattle.jb_rules.specs.declared.row.Row.{Row}
use Rattle.jb_repo.specs.declared.events.Event.{Event}
use Rattle.jb_repo.specs.declared.refused.Refused.{Refused}
use Rattle.jb_repo.specs.declared.repository.Repo.TheInside.{Inside}
use Rattle.jb_repo.specs.declared.projection.Projection.{Projection}
use Rattle.jb_repo.specs.Table.{Journal, Accepted, AcceptedPast, refusal, after, with_room, reserved}
use Rattle.jb_repo.specs.Answers.{needed, places_of}
use Rattle.jb_repo.specs.Openable.{IsOpenable, IsReplayable, opened_journal}
use Rattle.jb_repo.specs.inside.Projection.{Shows, CanEnter}
use Rattle.jb_repo.specs.Representation.{journal_of, IsRepresentation}
use Rattle.jb_repo.proofs.Noting.{running-opening}
use Rattle.jb_repo.proofs.Opened.{still_openable}
use Rattle.jb_repo.proofs.Places.{places_after, needed_few}

-- an accepted history stays one, whatever the room
accepted-room : (j : Journal) (room : ℕ) (past : List Event) → AcceptedPast j past → AcceptedPast (with_room j room) past
accepted-room j room past ok = ok

shows-room : (j : Journal) (room : ℕ) (s : Projection) → Shows j s → Shows (with_room j room) s
shows-room j room s h = record {
  table = h.table;
  own_events = h.own_events;
  totals = h.totals;
  reserved = h.reserved;
  owners = h.owners;
  marks = h.marks;
  plan = h.plan;
  failures = h.failures;
}

same_journal : (opening : List Row) (threads item_count : ℕ) {past other : List Event} {room more : ℕ} → past ≡ other → room ≡ more
    → ◌≡◌ {A = Journal} (record { opening = opening; threads = threads; item_count = item_count; past = past; room = room }) (record { opening = opening; threads = threads; item_count = item_count; past = other; room = more })
same_journal opening threads item_count same_past same_room = rw (same_past, same_room) refl

pub past_len : (a : Inside) → length (journal_of a).past ≡ length a.history.items
past_len a = length-reverse a.history.items

pub represents_opening : (a : Inside) → a.history.items ≡ [] → vec_capacity a.history ≡ 0 → IsOpenable (opened_journal a.opening.items a.threads a.item_count)
    → Shows (opened_journal a.opening.items a.threads a.item_count) a.projection → IsRepresentation a
represents_opening a empty none ready shows =
    let j = opened_journal a.opening.items a.threads a.item_count in
    let eq : journal_of a ≡ j = same_journal a.opening.items a.threads a.item_count (ap reverse empty) none in
    let past : length (journal_of a).past ≡ 0 = ap (λ (x : Journal). length x.past) eq in
    let places : reserved (journal_of a) ≡ 0 = ap reserved eq ∙ running-opening a.threads in
    record {
      ready = subst (λ (x : Journal). IsOpenable x) (sym eq) ready;
      accepted = subst (λ (x : Journal). Accepted x) (sym eq) tt;
      places = omega (arith, past, places);
      few = omega (arith, past, places);
      shows = subst (λ (x : Journal). Shows x a.projection) (sym eq) shows;
    }

pub represents_after : (a b : Inside) (e : Event) → IsRepresentation a → refusal (journal_of a) e ≡ None
    → b.opening.items ≡ a.opening.items → b.threads ≡ a.threads → b.item_count ≡ a.item_count → b.history.items ≡ a.history.items ++ e ∷ []
    → needed (journal_of a) e ≤ vec_capacity b.history → Shows (after (journal_of a) e) b.projection → IsRepresentation b
represents_after a b e kept passes same_opening same_threads same_items items room shows =
    let j = journal_of a in
    let past : reverse b.history.items ≡ e ∷ reverse a.history.items = ap reverse items ∙ reverse-append a.history.items (e ∷ []) in
    let eq : journal_of b ≡ with_room (after j e) (vec_capacity b.history) = rw (same_opening, same_threads, same_items, past) refl in
    let places = places_after j kept.ready kept.accepted e passes in
    let l : length (journal_of b).past ≡ suc (length j.past) = ap (λ (x : Journal). length x.past) eq in
    let r : reserved (journal_of b) ≡ reserved (after j e) = ap reserved eq in
    record {
      ready = subst (λ (x : Journal). IsOpenable x) (sym eq) (still_openable j (e ∷ j.past) (vec_capacity b.history) kept.ready);
      accepted = subst (λ (x : Journal). Accepted x) (sym eq) (accepted-room (after j e) (vec_capacity b.history) (e ∷ j.past) (passes, kept.accepted));
      places = omega (arith, l, r, places, room);
      few = omega (arith, l, r, places, needed_few j e passes kept.few);
      shows = subst (λ (x : Journal). Shows x b.projection) (sym eq) (shows-room (after j e) (vec_capacity b.history) b.projection shows);
    }

-- an accepted event can enter what is kept
pub can_enter : (a : Inside) (j : Journal) (e : Event) (r : Option Refused) → IsRepresentation a → journal_of a ≡ j → r ≡ refusal j e → r ≡ None → CanEnter (journal_of a) a.projection e a.item_count
can_enter a j e r kept is answer none =
    let passes : refusal (journal_of a) e ≡ None = ap (λ (x : Journal). refusal x e) is ∙ sym answer ∙ none in
    record {
      ready = kept.ready;
      accepted = kept.accepted;
      passes = passes;
      few = needed_few (journal_of a) e passes kept.few;
      items = refl;
      shows = kept.shows;
    }

-- the room that was made is enough
pub enough : (a : Inside) (e : Event) (len places room : ℕ) → IsRepresentation a → len ≡ vec_len a.history → places ≡ places_of e → len + (a.projection.reserved + places) ≤ room → needed (journal_of a) e ≤ room
enough a e len places room kept same asked made = omega (arith, same, asked, made, past_len a, kept.shows.reserved)

pub on_ok : {T E : Type 0} (r : Result T E) (P : Type 0) → is_err r ≡ false → OnOk r P → P
on_ok (Ok x) P h p = p
on_ok (Err e) P h p = absurd cc

-- callers learn that the journal can be replayed
pub replayable : (a : Inside) (j : Journal) → journal_of a ≡ j → IsRepresentation a → IsReplayable j
replayable a j is kept = subst (λ (x : Journal). IsReplayable x) is (record { ready = kept.ready; accepted = kept.accepted })
