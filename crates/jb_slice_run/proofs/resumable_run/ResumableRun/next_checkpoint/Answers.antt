use Rattle.jb_slice_file.proofs.Handed.{handed_on}
use Rattle.jb_slice_run.proofs.{RowsEnded.{whole-again}, Working.{first-holding, first-kept, goes-from, slice-kept, whole-kept}}
use Rattle.jb_slice_run.proofs.resumable_run.ResumableRun.next_checkpoint.Goals as goal

-- ---- nothing is left to be run

pub returns-then-is_whole-clause-on : goal.returns-then-is_whole-clause-on
returns-then-is_whole-clause-on g c functions all at =
    let is = c.is_whole.ensures.0 c.if-is_whole.true in
    let stood = rw is.0 at at in
    (whole-kept stood ((whole-again _).1 (rw stood.again at is.1)), at)

-- ---- none is kept yet

pub returns-in-NoCheckpoint-clause-on : goal.returns-in-NoCheckpoint-clause-on
returns-in-NoCheckpoint-clause-on g c functions all at =
    let stood = rw c.in-NoCheckpoint.is at at in
    let kept = first-kept stood.0 in
    (slice-kept kept.keeps, (kept, stood.1))

pub returns-in-NoCheckpoint-clause-faults : goal.returns-in-NoCheckpoint-clause-faults
returns-in-NoCheckpoint-clause-faults g c functions all at holds = first-holding (rw c.in-NoCheckpoint.is at at).0 holds

-- ---- an interval more

pub returns-clause-on : goal.returns-clause-on
returns-clause-on g c functions all at =
    let made = c.in_ok-place.ensures in
    let gone = made.on functions all (goes-from c.args.self.stage c.in_default.not-NoCheckpoint at) in
    (slice-kept gone.at.keeps, rw made.stage gone.at)

pub returns-clause-by : goal.returns-clause-by
returns-clause-by g c well functions all at failed = (c.in_ok-place.ensures.on functions all (goes-from c.args.self.stage c.in_default.not-NoCheckpoint at)).by

pub returns-clause-faults : goal.returns-clause-faults
returns-clause-faults g c functions all at = (c.in_ok-place.ensures.on functions all (goes-from c.args.self.stage c.in_default.not-NoCheckpoint at)).holds

-- ---- or none, where it breaks off

pub returns-in_err-place-clause-why : goal.returns-in_err-place-clause-why
returns-in_err-place-clause-why g c functions all at =
    handed_on _ _ _ c.from_residual.ensures.1 (c.in_err-place.ensures.why functions all (goes-from c.args.self.stage c.in_default.not-NoCheckpoint at))
