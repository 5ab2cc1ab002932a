use Rattle.std.{proofs.Common.{◌≡◌, List, [], map, ℕ, Option, Some, take}, proofs.lemmas.List.{take-map}, specs.Prelude.{IfSome, IsTrue}}
use Rattle.jb_rows.{proofs.Headers.{copied-is}, specs.Fields.{Fields, packed}, specs.Streams.{HasGivenRows, kept_header}, specs.Texts.{copied_by}}
use Rattle.jb_slices.specs.{Function.{all_results}, Job.{first_of}, Slice.{Functions}}
use Rattle.jb_csv_job.specs.{Done.{HasSkipped, IsByRules, IsDoneSoFar, IsJobDone}, Job.{JobRecord, job_record}, Loop.{IfJobResumes}, Measuring.{reader_of}, SliceFiles.{CanResumeJob, LeavesJob}, Sinks.{HasTaken}}
use Rattle.jb_csv_job.{specs.Skipped.{IfListed, IsListWritten}, specs.Tasks.{given_by}, proofs.Going.{of-stream}, proofs.Owning.{given-both}, proofs.Writing.{begun-by, given-packed, list-whole, list-written}}
use Rattle.jb_csv_job.proofs.run.run_csv_job.Goals.{After-run_slices}
use Rattle.jb_csv_job.proofs.run.run_csv_job.Goals as goal

module _ (g : _) (c : After-run_slices g) where
  abbrev job : JobRecord
  job = job_record c.args.job.now c.args.asked.now (g.F.RowFunction.answer c.args.function)

  -- what the measured input has to give is what the stream has
  given : IfSome (g.R.Read.remaining c.args.from) (λ text. HasGivenRows job.options (λ input. g.R.Read.remaining (reader_of input)) c.in_ok-reader.reader text [])
  given = rw c.measured.ensures.reader at c.in_ok-reader.ensures.given

  -- what holds of a text that the stream may have holds of what it has
  streamed : (P : Functions → Option (List ℕ) → Type 0) → IfJobResumes job (λ input. g.R.Read.remaining (reader_of input)) c.in_ok-reader.reader g.H.Stored.log g.H.Stored.db (λ functions bytes. P functions (Some bytes))
      → (functions : Functions) → CanResumeJob job functions (g.R.Read.remaining c.args.from) g.H.Stored.log g.H.Stored.db → P functions (g.R.Read.remaining c.args.from)
  streamed P = of-stream job (λ input. g.R.Read.remaining (reader_of input)) c.in_ok-reader.reader g.H.Stored.log g.H.Stored.db (g.R.Read.remaining c.args.from) P given

  left : IsTrue (g.K.Keeper.are_clean c.run_slices.new.keeper) → (functions : Functions) → CanResumeJob job functions (g.R.Read.remaining c.args.from) g.H.Stored.log g.H.Stored.db
      → LeavesJob job functions (g.R.Read.remaining c.args.from) (g.K.Keeper.may_leave c.args.keeper.now) (g.K.Keeper.may_leave c.run_slices.new.keeper)
  left clean = streamed (λ functions text. LeavesJob job functions text (g.K.Keeper.may_leave c.args.keeper.now) (g.K.Keeper.may_leave c.run_slices.new.keeper)) (c.run_slices.ensures.left clean)

pub returns : goal.returns
returns g c =
    let here = (goal.at.returns g c).After-run_slices in
    let job = job g here in
    let header = copied_by job.options.header (kept_header c.in_ok-reader.reader) in
    let end = c.in_ok-end.end in
    let results = g.W.Write.contents in
    let rows = g.S.Write.contents in
    let copied = λ (bytes : List ℕ) (given : HasGivenRows job.options (λ input. g.R.Read.remaining (reader_of input)) c.in_ok-reader.reader bytes []).
    copied-is job.options (λ input. g.R.Read.remaining (reader_of input)) c.in_ok-reader.reader bytes [] given in
    let between = c.new-sink.ensures.between in
    let begun = begun-by results job.options.delimiter c.args.to c.new-sink.result c.write_header.new.self _ between c.new-sink.ensures.nothing c.in_ok-write_header.ensures.written in
    let appended = λ (records : List Fields) (taken : HasTaken results c.write_header.new.self c.run_slices.new.sink (given_by job.task (all_results job.function (map packed records)))).
    rw (given-packed job.task job.function records, given-both) at
    (list-written results job.options.delimiter c.args.to c.in_ok-to.to c.write_header.new.self c.run_slices.new.sink (given_by job.task header) _ begun taken c.in_ok-to.ensures.results) in
    record {
      all = λ clean. streamed g here (λ functions text. end.status ≡ 0 → IsJobDone job text (results c.args.to) (results c.in_ok-to.to)) (λ bytes given functions up zero.
          (let t = c.in_ok-end.ensures.all clean bytes given functions up zero in
          record { header = header; records = t.records; read = (copied bytes given, t.read); written = appended t.records t.taken }));
      so_far = λ clean. streamed g here (λ functions text. IsDoneSoFar job text (results c.args.to) (results c.in_ok-to.to)) (λ bytes given functions up.
          (let t = c.in_ok-end.ensures.so_far clean bytes given functions up in
          let first = take (first_of job.job t.count) t.records in
          record { header = header; records = t.records; count = t.count; read = (copied bytes given, t.read); written = appended first (rw take-map at t.taken) }));
      by_rules = λ clean. streamed g here (λ functions text. IsByRules job text end.status) (c.in_ok-end.ensures.by_rules clean);
      skips = λ clean. streamed g here (λ functions text. end.status ≡ 0 → HasSkipped job text end.skips) (c.in_ok-end.ensures.skips clean);
      listed = λ clean. streamed g here (λ functions text. IfListed c.args.list c.in_ok-to.listed (λ old new. IsListWritten job text (rows old) (rows new) end.status end.skips)) (λ bytes given functions up.
          list-whole rows job bytes header end.status end.skips c.args.list c.in_ok-listing.listing c.run_slices.new.list c.in_ok-to.listed (copied bytes given) c.in_ok-listing.ensures.begun
          (c.in_ok-end.ensures.listed clean bytes given functions up) c.in_ok-to.ensures.list);
      status = c.in_ok-end.ensures.status;
      cause = tt;
      clean = c.in_ok-end.ensures.clean;
      left = left g here;
      crash = c.in_ok-end.ensures.crash;
    }

pub returns-in_err-end-clause-left : goal.returns-in_err-end-clause-left
returns-in_err-end-clause-left g c = left g (goal.at.returns-in_err-end-clause-left g c).After-run_slices

pub returns-in_err-to-clause-left : goal.returns-in_err-to-clause-left
returns-in_err-to-clause-left g c = left g (goal.at.returns-in_err-to-clause-left g c).After-run_slices
