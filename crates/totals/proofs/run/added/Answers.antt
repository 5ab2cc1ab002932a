use Rattle.std.proofs.Common.{◌≡◌, []}
use Rattle.std.specs.Prelude.{IfSome, IsTrue}
use Rattle.jb_csv_job.specs.Done.{HasTakenAll}
use Rattle.jb_csv_job.specs.Measuring.{reader_of}
use Rattle.jb_csv_job.specs.Skipped.{IfListed}
use Rattle.jb_csv_job.specs.SliceFiles.{LeavesJob}
use Rattle.jb_csv_job.proofs.Going.{of-stream}
use Rattle.jb_csv_job.proofs.Writing.{list-whole}
use Rattle.jb_rows.proofs.Headers.{copied-is}
use Rattle.jb_rows.specs.Streams.{HasGivenRows}
use Rattle.jb_slices.specs.Slice.{Functions}
use Rattle.totals.specs.Adding.{HasAdded}
use Rattle.totals.specs.Job.{AreSalesTakenUp, AreSkipsListed, IsTotalsByRules, totals_job, totals_options}
use Rattle.totals.proofs.Added.{all-added}
use Rattle.totals.proofs.run.added.Goals as goal
use Rattle.totals.proofs.run.added.Goals.{After-run_slices}

-- what the measured input has to give is what the stream has
given-of : (g : _) (c : After-run_slices g) → IfSome (g.R.Read.remaining c.args.from) (λ text. HasGivenRows totals_options (λ input. g.R.Read.remaining (reader_of input)) c.in_ok-reader.reader text [])
given-of g c = rw c.measured.ensures.reader at c.in_ok-reader.ensures.given

left : (g : _) (c : After-run_slices g) → IsTrue (g.K.Keeper.are_clean c.run_slices.new.keeper) → (functions : Functions)
    → AreSalesTakenUp c.args.prices c.args.stamp.now c.args.asked.now functions (g.R.Read.remaining c.args.from) g.H.Stored.log g.H.Stored.db
    → LeavesJob (totals_job c.args.prices c.args.stamp.now c.args.asked.now) functions (g.R.Read.remaining c.args.from) (g.K.Keeper.may_leave c.args.keeper.now) (g.K.Keeper.may_leave c.run_slices.new.keeper)
left g c clean =
    let job = totals_job c.args.prices c.args.stamp.now c.args.asked.now in
    of-stream job (λ input. g.R.Read.remaining (reader_of input)) c.in_ok-reader.reader g.H.Stored.log g.H.Stored.db (g.R.Read.remaining c.args.from)
    (λ functions text. LeavesJob job functions text (g.K.Keeper.may_leave c.args.keeper.now) (g.K.Keeper.may_leave c.run_slices.new.keeper)) (given-of g c) (c.run_slices.ensures.left clean)

pub returns-in_err-end-clause-left : goal.returns-in_err-end-clause-left
returns-in_err-end-clause-left g c = left g (goal.at.returns-in_err-end-clause-left g c).After-run_slices

pub returns-in_err-listed-clause-left : goal.returns-in_err-listed-clause-left
returns-in_err-listed-clause-left g c = left g (goal.at.returns-in_err-listed-clause-left g c).After-run_slices

pub returns-clause-left : goal.returns-clause-left
returns-clause-left g c = left g (goal.at.returns-clause-left g c).After-run_slices

pub returns-clause-by_rules : goal.returns-clause-by_rules
returns-clause-by_rules g c clean =
    of-stream (totals_job c.args.prices c.args.stamp.now c.args.asked.now) (λ input. g.R.Read.remaining (reader_of input)) c.in_ok-reader.reader g.H.Stored.log g.H.Stored.db (g.R.Read.remaining c.args.from)
    (λ functions text. IsTotalsByRules c.args.prices c.args.stamp.now c.args.asked.now text c.in_ok-end.end.status) (given-of g (goal.at.returns-clause-by_rules g c).After-run_slices) (c.in_ok-end.ensures.by_rules clean)

pub returns-clause-listed : goal.returns-clause-listed
returns-clause-listed g c clean =
    let job = totals_job c.args.prices c.args.stamp.now c.args.asked.now in
    of-stream job (λ input. g.R.Read.remaining (reader_of input)) c.in_ok-reader.reader g.H.Stored.log g.H.Stored.db (g.R.Read.remaining c.args.from)
    (λ functions text. IfListed c.args.list c.in_ok-listed.listed (λ old new.
    AreSkipsListed c.args.prices c.args.stamp.now c.args.asked.now text (g.S.Write.contents old) (g.S.Write.contents new) c.in_ok-end.end.status c.in_ok-end.end.skips))
    (given-of g (goal.at.returns-clause-listed g c).After-run_slices) (λ bytes given functions up.
    list-whole g.S.Write.contents job bytes [] c.in_ok-end.end.status c.in_ok-end.end.skips c.args.list c.in_ok-listing.listing c.run_slices.new.list c.in_ok-listed.listed
    (copied-is totals_options (λ input. g.R.Read.remaining (reader_of input)) c.in_ok-reader.reader bytes [] given) c.in_ok-listing.ensures.begun (c.in_ok-end.ensures.listed clean bytes given functions up) c.in_ok-listed.ensures.kept)

pub returns-clause-all : goal.returns-clause-all
returns-clause-all g c clean functions taken zero =
    let job = totals_job c.args.prices c.args.stamp.now c.args.asked.now in
    all-added c.args.prices c.args.stamp.now c.args.asked.now (g.R.Read.remaining c.args.from) c.new-adding.result c.run_slices.new.sink c.new-adding.ensures
    (of-stream job (λ input. g.R.Read.remaining (reader_of input)) c.in_ok-reader.reader g.H.Stored.log g.H.Stored.db (g.R.Read.remaining c.args.from)
    (λ functions text. c.in_ok-end.end.status ≡ 0 → HasTakenAll job text (HasAdded c.new-adding.result c.run_slices.new.sink)) (given-of g (goal.at.returns-clause-all g c).After-run_slices) (c.in_ok-end.ensures.all clean) functions taken zero)
