use Rattle.std.proofs.Common.{◌≡◌, List, length, map, sym, ap, ◌∙◌, true≢false, arith}
use Rattle.std.proofs.lemmas.List.{length-map}
use Rattle.sqlite.specs.Held.{state}
use Rattle.jb_slice_file.specs.CheckpointBytes.{CheckpointBytes, checkpoint_bytes}
use Rattle.jb_slice_file.proofs.Handed.{handed_on}
use Rattle.jb_slice_run.specs.durable.Work.{IsShown}
use Rattle.jb_slice_run.proofs.durable.Causing.{over_file, store_own, unlisted, unresumed}
use Rattle.jb_slice_run.proofs.durable.resumed.resumed.Goals.{After-resume}
use Rattle.jb_slice_run.proofs.durable.resumed.resumed.Goals as goal

-- ---- the file lists its checkpoints

given : (g : _) (c : After-resume g) (all : List CheckpointBytes) → IsShown (state g.S.Store c.args.conn.now) (state g.S.Store c.begin.new.conn) all → map checkpoint_bytes c.deref.result.now ≡ all
given g c all at = ap (map checkpoint_bytes) c.deref.ensures.value ∙ c.in_ok-done.ensures.listed at.clean at.opened all at.shows

pub returns-clause-rests : goal.returns-clause-rests
returns-clause-rests g c functions all at =
    let listed = c.in_ok-done.ensures.listed at.shown.clean at.shown.opened all at.shown.shows in
    let is = given g (goal.at.returns-clause-rests g c).After-resume all at.shown in
    let so = rw (← is) at at.so_far in
    record {
      keeps = rw listed at (c.in_ok-done.ensures.begun at.shown.clean at.shown.opened).0;
      so_far = at.so_far;
      stands = record {
        place = rw is at (c.in_ok-place.ensures.stands functions at.stamps_are so);
        faults = rw is at (c.in_ok-place.ensures.faults functions so);
        by = λ failed. absurd (true≢false (sym failed ∙ c.in_ok-place.ensures.fresh));
      };
      ends = rw listed at c.in_ok-done.ensures.end;
    }

pub returns-clause-done : goal.returns-clause-done
returns-clause-done g c functions all at whole long =
    let is = given g (goal.at.returns-clause-done g c).After-resume all at.shown in
    let number = ap length is in
    let done = c.in_ok-place.ensures.done functions at.stamps_are (rw (← is) at whole) (c.in_ok-place.ensures.later (omega (arith, number, length-map c.deref.result.now checkpoint_bytes, long))) in
    (done.kept, done.whole)

pub returns-clause-own : goal.returns-clause-own
returns-clause-own g c all at = rw (given g (goal.at.returns-clause-own g c).After-resume all at) at c.in_ok-place.ensures.own

pub returns-clause-left : goal.returns-clause-left
returns-clause-left g c all at = c.begin.ensures.left at.clean at.opened all at.shows

-- ---- they are refused

pub returns-in_err-place-clause-cause : goal.returns-in_err-place-clause-cause
returns-in_err-place-clause-cause g c functions all at =
    handed_on _ _ _ c.from_residual-in_err-place.ensures.1 (unresumed c.bytes_identify_checkpoints.ensures.header c.bytes_identify_checkpoints.ensures.own _ functions _ _ _ (state g.S.Store c.args.conn.now) (state g.S.Store c.begin.new.conn) all at.so_far _
    (rw (given g (goal.at.returns-in_err-place-clause-cause g c).After-resume all at.shown) at c.in_err-place.ensures.cause))

pub returns-in_err-place-clause-refused : goal.returns-in_err-place-clause-refused
returns-in_err-place-clause-refused g c all at =
    let cause = rw (given g (goal.at.returns-in_err-place-clause-refused g c).After-resume all at) at c.in_err-place.ensures.cause in
    let keeps = rw (c.in_ok-done.ensures.listed at.clean at.opened all at.shows) at (c.in_ok-done.ensures.begun at.clean at.opened).0 in
    handed_on _ _ _ c.from_residual-in_err-place.ensures.1 (λ _. (over_file _ _ _ _ (state g.S.Store c.args.conn.now) (state g.S.Store c.begin.new.conn) _ _ cause, keeps))

pub returns-in_err-place-clause-left : goal.returns-in_err-place-clause-left
returns-in_err-place-clause-left g c all at = c.begin.ensures.left at.clean at.opened all at.shows

-- ---- the file doesn't list them

pub returns-in_err-done-clause-cause : goal.returns-in_err-done-clause-cause
returns-in_err-done-clause-cause g c functions all at =
    let s = at.shown in
    handed_on _ _ _ c.from_residual.ensures.1 (unlisted _ _ (state g.S.Store c.args.conn.now) (state g.S.Store c.begin.new.conn) all c.in_err-done.field-0.0
    (c.in_err-done.ensures.own s.clean s.opened all s.shows) (c.in_err-done.ensures.cause s.clean s.opened))

pub returns-in_err-done-clause-refused : goal.returns-in_err-done-clause-refused
returns-in_err-done-clause-refused g c all at = handed_on _ _ _ c.from_residual.ensures.1 (λ is. absurd (store_own c.in_err-done.field-0.0 is))

pub returns-in_err-done-clause-left : goal.returns-in_err-done-clause-left
returns-in_err-done-clause-left g c all at = c.begin.ensures.left at.clean at.opened all at.shows
