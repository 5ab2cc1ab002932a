use Rattle.std.proofs.Common.{◌++◌, ◌∷◌, [], List, ◌∙◌, ap, refl, sym, arith}
use Rattle.jb_repo.specs.declared.events.Event.{Event}
use Rattle.jb_repo.specs.declared.repository.Repo.TheInside.{Inside}
use Rattle.jb_repo.specs.Representation.{journal_of, IsRepresentation}
use Rattle.jb_repo.proofs.Representing.{represents_after, can_enter, past_len, enough, replayable, on_ok}
use Rattle.jb_repo.proofs.Places.{places_after}
use Rattle.jb_repo.proofs.repository.Repo.apply.Goals as goal
use Rattle.jb_repo.proofs.repository.Repo.apply.Goals.{After-put_last}

pub note-requires : goal.note-requires
note-requires c = (journal_of c.self.inside, can_enter c.self.inside _ c.args.event _ c.self.invariant c.self.view_is c.refusal.ensures c.in_default.is)

pub put_last-requires : goal.put_last-requires
put_last-requires c =
    let can = can_enter c.self.inside _ c.args.event _ c.self.invariant c.self.view_is c.refusal.ensures c.in_default.is in
    let made = on_ok c.make_room.result _ (sym c.is_err.ensures.value ∙ c.if-is_err.false) c.make_room.ensures.room in
    let room = enough c.self.inside c.args.event _ _ _ c.self.invariant c.make_room.ensures.len c.places.ensures made in
    let some = places_after (journal_of c.self.inside) can.ready can.accepted c.args.event can.passes in
    omega (arith, room, some, past_len c.self.inside, c.make_room.ensures.len)

-- the fields that are left
abbrev left : After-put_last → Inside
left c = record {
  opening = c.self.inside.opening;
  threads = c.self.inside.threads;
  item_count = c.self.inside.item_count;
  history = c.put_last.new.history;
  projection = c.note.new.self;
}

kept : (c : After-put_last) → IsRepresentation (left c)
kept c =
    let can = can_enter c.self.inside _ c.args.event _ c.self.invariant c.self.view_is c.refusal.ensures c.in_default.is in
    let made = on_ok c.make_room.result _ (sym c.is_err.ensures.value ∙ c.if-is_err.false) c.make_room.ensures.room in
    let room = enough c.self.inside c.args.event _ _ _ c.self.invariant c.make_room.ensures.len c.places.ensures made in
    represents_after c.self.inside (left c) c.args.event c.self.invariant can.passes refl refl refl
    (c.put_last.ensures.items ∙ ap (λ (x : List Event). x ++ c.args.event ∷ []) c.make_room.ensures.items)
    (omega (arith, room, c.put_last.ensures.room))
    (c.note.ensures (journal_of c.self.inside) can)

pub invariant_of-self-2 : goal.invariant_of-self-2
invariant_of-self-2 c = kept (goal.at.invariant_of-self-2 c).After-put_last

pub returns-clause-replayable : goal.returns-clause-replayable
returns-clause-replayable c =
    let k = (goal.at.returns-clause-replayable c).After-put_last in
    replayable (left k) (journal_of (left k)) refl (kept k)

pub returns-clause-places : goal.returns-clause-places
returns-clause-places c = (kept (goal.at.returns-clause-places c).After-put_last).places
