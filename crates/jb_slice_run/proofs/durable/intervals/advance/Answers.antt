use Rattle.std.proofs.Common.{◌++◌, [], ◌∷◌}
use Rattle.jb_slice_file.specs.CheckpointBytes.{checkpoint_bytes}
use Rattle.jb_slice_file.proofs.Handed.{handed_on}
use Rattle.jb_slice_run.proofs.durable.Causing.{append_breaks, interval_breaks, interval_own, store_own}
use Rattle.jb_slice_run.proofs.durable.intervals.advance.Goals as goal

-- ---- the interval broke off

pub returns-in_err-place-clause-own : goal.returns-in_err-place-clause-own
returns-in_err-place-clause-own g c = handed_on _ _ _ c.from_residual.ensures.1 (interval_own _ c.in_err-place.ensures.own)

pub returns-in_err-place-clause-broken : goal.returns-in_err-place-clause-broken
returns-in_err-place-clause-broken g c clean functions all at = handed_on _ _ _ c.from_residual.ensures.1 (interval_breaks at _ (c.in_err-place.ensures.why functions all at.stands.place))

-- ---- the run was whole

pub returns-in_default-clause-kept : goal.returns-in_default-clause-kept
returns-in_default-clause-kept g c clean functions all at =
    let on = rw c.in_default.is at (c.in_ok-place.ensures.on functions all at.stands.place) in
    let by = rw c.in_default.is at (c.in_ok-place.ensures.by c.requires.well functions all at.stands.place) in
    let faults = rw c.in_default.is at (c.in_ok-place.ensures.faults functions all at.stands.place at.stands.faults) in
    (all, record { keeps = at.keeps; so_far = at.so_far; stands = record { place = on.1; faults = faults; by = λ failed. absurd (by failed) }; ends = at.ends })

pub returns-in_default-clause-whole : goal.returns-in_default-clause-whole
returns-in_default-clause-whole g c is = (c.in_ok-place.ensures.settled c.in_default.is, c.in_ok-place.ensures.whole c.in_default.is)

-- ---- the database doesn't take it

pub returns-in_err-append-clause-own : goal.returns-in_err-append-clause-own
returns-in_err-append-clause-own g c = handed_on _ _ _ c.from_residual-in_err-append.ensures.1 (store_own c.in_err-append.field-0.0)

pub returns-in_err-append-clause-broken : goal.returns-in_err-append-clause-broken
returns-in_err-append-clause-broken g c clean functions all at =
    let on = rw c.in-Some.is at (c.in_ok-place.ensures.on functions all at.stands.place) in
    handed_on _ _ _ c.from_residual-in_err-append.ensures.1 (append_breaks (checkpoint_bytes c.in-Some.next) at on.0 c.in_err-append.field-0.0
    (rw (c.as_str.ensures.value, c.as_slice.ensures.value) at (c.in_err-append.ensures.cause clean all at.keeps))
    (rw (c.as_str.ensures.value, c.as_slice.ensures.value) at (c.append.ensures.crash clean all at.keeps at.ends)))

-- ---- it is kept

pub returns-clause-kept : goal.returns-clause-kept
returns-clause-kept g c clean functions all at =
    let on = rw c.in-Some.is at (c.in_ok-place.ensures.on functions all at.stands.place) in
    let by = rw c.in-Some.is at (c.in_ok-place.ensures.by c.requires.well functions all at.stands.place) in
    let faults = rw c.in-Some.is at (c.in_ok-place.ensures.faults functions all at.stands.place at.stands.faults) in (
      all ++ checkpoint_bytes c.in-Some.next ∷ [],
      record {
        keeps = rw (c.as_str.ensures.value, c.as_slice.ensures.value) at (c.in_ok-append.ensures.added clean all at.keeps at.ends);
        so_far = on.0;
        stands = record { place = on.1; faults = faults; by = by };
        ends = rw (c.as_str.ensures.value, c.as_slice.ensures.value) at (c.in_ok-append.ensures.end all at.ends);
      },
    )
