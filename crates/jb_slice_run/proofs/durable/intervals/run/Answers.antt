use Rattle.std.proofs.Common.{arith}
use Rattle.jb_slice_file.proofs.Clean.{clean_before}
use Rattle.jb_slice_file.proofs.Handed.{handed_on}
use Rattle.jb_slice_run.proofs.durable.Causing.{breaks_since, later_on}
use Rattle.jb_slice_run.proofs.durable.intervals.run.Goals as goal

pub intervals-preserved : goal.intervals-preserved
intervals-preserved g c = record {
  later = later_on c.intervals.invariant.later c.advance.ensures.later;
  kept = λ clean functions all at.
      let now = c.intervals.invariant.kept (clean_before _ _ c.advance.ensures.later.clean clean) functions all at in
      c.in_ok-next.ensures.kept clean functions now.0 now.1;
  agrees = c.in_ok-next.ensures.agrees;
  number = (let one = c.in_ok-next.ensures.counted c.if-not-more.false in omega (arith, one, c.intervals.invariant.number));
}

-- ---- an interval has no checkpoint

pub returns-in_err-next-clause-later : goal.returns-in_err-next-clause-later
returns-in_err-next-clause-later g c = later_on c.intervals.invariant.later c.advance.ensures.later

pub returns-in_err-next-clause-broken : goal.returns-in_err-next-clause-broken
returns-in_err-next-clause-broken g c clean functions all at =
    let now = c.intervals.invariant.kept (clean_before _ _ c.advance.ensures.later.clean clean) functions all at in
    handed_on _ _ _ c.from_residual.ensures.1 (breaks_since c.intervals.invariant.later c.advance.ensures.later clean (c.in_err-next.ensures.broken clean functions now.0 now.1))

-- ---- the run is whole

pub returns-then-not-more-clause-later : goal.returns-then-not-more-clause-later
returns-then-not-more-clause-later g c = later_on c.intervals.invariant.later c.advance.ensures.later

pub returns-then-not-more-clause-kept : goal.returns-then-not-more-clause-kept
returns-then-not-more-clause-kept g c clean functions all at =
    let now = c.intervals.invariant.kept (clean_before _ _ c.advance.ensures.later.clean clean) functions all at in
    c.in_ok-next.ensures.kept clean functions now.0 now.1

pub returns-then-not-more-clause-agrees : goal.returns-then-not-more-clause-agrees
returns-then-not-more-clause-agrees g c = record { agrees = c.in_ok-next.ensures.agrees; ends = c.in_ok-next.ensures.whole c.if-not-more.true }
