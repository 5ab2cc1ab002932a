use Rattle.std.{proofs.Common.{◌≡◌, ◌+◌, suc, List, ℕ, [], false, true, arith, map, rules, inl, inr, Some}, proofs.Math.Logic.{⊎_map}, proofs.lemmas.Bool.{MatchBool-at_true}, specs.Prelude.{IsTrue}, specs.Arc.{arc_value}}
use Rattle.jb_rows.specs.{Fields.{packed}, Streams.{HasGivenRows}}
use Rattle.jb_slices.specs.Slice.{Functions}
use Rattle.jb_csv_job.specs.{Done.{HasEnded}, Job.{JobRecord}, Loop.{IfJobResumes, IsEndOf, LeavesAny, job_of}, SliceFiles.{CanResumeJob, LeavesJob}, Skipped.{IfTook}, Standing.{HasGoneOn}, declared.run.JobEnd.{JobEnd}}
use Rattle.jb_csv_job.proofs.{Going.{first-stands, has-ended, none-done, read-of, so-far, then-left}, Listing.{has-listed, none-listed, same-list}, run.all_slices.Goals.{After-next_slice, In-Ok}}
use Rattle.jb_csv_job.proofs.run.all_slices.Goals as goal

pub loop-number-init : goal.loop-number-init
loop-number-init g c = record {
  clean = λ clean. clean;
  crash = λ clean functions stamps k read image may. inl may;
  stands = λ clean text given functions up.
      (let job = job_of c.args.work.now (g.F.RowFunction.answer (arc_value c.args.function.now)) in (
        record {
          reads = first-stands job g.R.Read.remaining text up.records c.args.reader.now given;
          ran = rw (c.new-tally.ensures.skips, c.new-tally.ensures.failed) (record {
            taken = [];
            took = g.met.N.Sink.none c.args.sink.now;
            done = none-done job (map packed up.records);
            listed = same-list c.args.list.now _ (λ one. ([], g.met.L.Sink.none one, none-listed));
          });
        },
        λ k read image may. inl may,
      ));
}

-- ---- whatever the next slice comes to

module _ (g : _) (c : After-next_slice g) (clean : IsTrue (g.K.Keeper.are_clean c.next_slice.new.keeper)) where
  abbrev job : JobRecord
  job = job_of c.args.work.now (g.F.RowFunction.answer (arc_value c.args.function.now))

  crash : LeavesAny job g.H.Stored.log g.H.Stored.db (g.K.Keeper.may_leave c.args.keeper.now) (g.K.Keeper.may_leave c.next_slice.new.keeper)
  crash functions stamps k read image =
      then-left (c.loop-number.invariant.crash (c.next_slice.ensures.clean clean) functions stamps k read image) (c.next_slice.ensures.crash clean functions stamps k read image)

  left : IfJobResumes job g.R.Read.remaining c.args.reader.now g.H.Stored.log g.H.Stored.db (λ functions text.
      LeavesJob job functions (Some text) (g.K.Keeper.may_leave c.args.keeper.now) (g.K.Keeper.may_leave c.next_slice.new.keeper))
  left text given functions up k read image =
      let there = c.loop-number.invariant.stands (c.next_slice.ensures.clean clean) text given functions up in
      then-left (there.1 k read image) (c.next_slice.ensures.left clean functions text up there.0.reads k read image)

-- ---- the slice is done

module _ (g : _) (c : In-Ok g) (clean : IsTrue (g.K.Keeper.are_clean c.next_slice.new.keeper)) (text : List ℕ) (given : HasGivenRows c.args.work.now.job.now.options g.R.Read.remaining c.args.reader.now text [])
    (functions : Functions) (up : CanResumeJob (job_of c.args.work.now (g.F.RowFunction.answer (arc_value c.args.function.now))) functions (Some text) g.H.Stored.log g.H.Stored.db) where
  gone : HasGoneOn (job_of c.args.work.now (g.F.RowFunction.answer (arc_value c.args.function.now))) g.R.Read.remaining text up.records c.loop-number.number c.next_slice.new.reader
      c.next_slice.new.tally.skips c.next_slice.new.tally.is_failed (g.N.Sink.took c.args.sink.now c.next_slice.new.sink) (IfTook g.L.Sink.took c.args.list.now c.next_slice.new.list) c.in-Ok.more
  gone =
      let there = c.loop-number.invariant.stands (c.next_slice.ensures.clean clean) text given functions up in
      c.in-Ok.ensures.goes clean functions text up c.args.sink.now c.args.list.now there.0

  ended : c.in-Ok.more ≡ false → (end : JobEnd) → IsEndOf c.next_slice.new.tally end
      → HasEnded (job_of c.args.work.now (g.F.RowFunction.answer (arc_value c.args.function.now))) (Some text) (g.N.Sink.took c.args.sink.now c.next_slice.new.sink) end.status end.skips
  ended stops = has-ended c.next_slice.new.tally gone stops c.args.work.now.job.now.some_records (read-of up)

pub loop-number-preserved : goal.loop-number-preserved
loop-number-preserved g c =
    let after = (goal.at.loop-number-preserved g c).After-next_slice in
    let goes-on : c.in-Ok.more ≡ true = search rules in
    let n : suc c.loop-number.number ≡ c.loop-number.number + 1 = omega arith in
    record {
      clean = λ clean. c.loop-number.invariant.clean (c.in-Ok.ensures.clean clean);
      crash = crash g after;
      stands = λ clean text given functions up.
          (let r = gone g (goal.at.loop-number-preserved g c).In-Ok clean text given functions up in
          (rw (← n) (record { reads = MatchBool-at_true _ _ goes-on r.next; ran = r.ran }), left g after clean text given functions up));
    }

pub returns-then-not-more : goal.returns-then-not-more
returns-then-not-more g c =
    let here = (goal.at.returns-then-not-more g c).In-Ok in
    let after = (goal.at.returns-then-not-more g c).After-next_slice in
    let stops : c.in-Ok.more ≡ false = search rules in
    record {
      all = λ clean text given functions up. (ended g here clean text given functions up stops _ c.end.ensures).all;
      so_far = λ clean text given functions up. (let ran = (gone g here clean text given functions up).ran in so-far up.records ran.taken ran.done.count (read-of up) ran.took ran.done.front);
      by_rules = λ clean text given functions up. (ended g here clean text given functions up stops _ c.end.ensures).by_rules;
      skips = λ clean text given functions up. (ended g here clean text given functions up stops _ c.end.ensures).skipped;
      listed = λ clean text given functions up.
          has-listed g.L.Sink.took c.args.list.now c.next_slice.new.list c.next_slice.new.tally (gone g here clean text given functions up) stops c.args.work.now.job.now.some_records (read-of up) _ c.end.ensures;
      status = c.end.ensures.status;
      cause = tt;
      clean = λ clean. c.loop-number.invariant.clean (c.in-Ok.ensures.clean clean);
      left = left g after;
      crash = crash g after;
    }

-- ---- there is no answer

pub returns-in-Err-clause-so_far : goal.returns-in-Err-clause-so_far
returns-in-Err-clause-so_far g c clean text given functions up =
    let ran = (c.loop-number.invariant.stands (c.next_slice.ensures.clean clean) text given functions up).0.ran in
    ⊎_map (λ refused. refused) (λ same. rw same (so-far up.records ran.taken ran.done.count (read-of up) ran.took ran.done.front)) c.in-Err.ensures.kept

pub returns-in-Err-clause-left : goal.returns-in-Err-clause-left
returns-in-Err-clause-left g c = left g (goal.at.returns-in-Err-clause-left g c).After-next_slice

pub returns-in-Err-clause-crash : goal.returns-in-Err-clause-crash
returns-in-Err-clause-crash g c = crash g (goal.at.returns-in-Err-clause-crash g c).After-next_slice

-- ---- there are more slices than numbers

pub returns-clause-so_far : goal.returns-clause-so_far
returns-clause-so_far g c clean text given functions up =
    let ran = (c.loop-number.invariant.stands clean text given functions up).0.ran in
    inr (so-far up.records ran.taken ran.done.count (read-of up) ran.took ran.done.front)

pub returns-clause-left : goal.returns-clause-left
returns-clause-left g c clean text given functions up = (c.loop-number.invariant.stands clean text given functions up).1
