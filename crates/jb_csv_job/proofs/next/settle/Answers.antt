use Rattle.std.proofs.Common.{◌++◌, inl, inr}
use Rattle.jb_records.specs.PartitionResults.{joined}
use Rattle.jb_csv_job.{specs.Tasks.{given_by}, proofs.Going.{given-away, kept-back}}
use Rattle.jb_csv_job.proofs.next.settle.Goals as goal

pub returns-in_ok-give-in-Gives-clause-goes : goal.returns-in_ok-give-in-Gives-clause-goes
returns-in_ok-give-in-Gives-clause-goes g c f items number own has ends start taken took done =
    let counted = c.in_ok-add.ensures.counted.gives c.in-Gives.is in (
      taken ++ given_by c.args.work.now.asked.now.task (joined c.args.end.now.results.items),
      rw c.as_slice.ensures.value at (c.in_ok-give-in-Gives.ensures.taken start taken took),
      given-away _ items number _ _ taken done own c.args.end.now ends _ _ counted.0 counted.1 counted.2 counted.3 counted.4,
    )

pub returns-in-Keeps-clause-goes : goal.returns-in-Keeps-clause-goes
returns-in-Keeps-clause-goes g c f items number own has ends start taken took done =
    let counted = c.in_ok-add.ensures.counted.keeps c.in-Keeps.is in
    (taken, took, kept-back _ items number _ _ taken done own c.args.end.now ends _ _ counted.0 c.args.work.now.job.now.some_records has (inl counted.1))

pub returns-in-Ends-clause-goes : goal.returns-in-Ends-clause-goes
returns-in-Ends-clause-goes g c f items number own has ends start taken took done =
    let counted = c.in_ok-add.ensures.counted.ends c.in-Ends.is in
    (taken, took, kept-back _ items number _ _ taken done own c.args.end.now ends _ _ counted.0 c.args.work.now.job.now.some_records has (inr (counted.1, counted.2)))

pub returns-in-Ends-clause-over : goal.returns-in-Ends-clause-over
returns-in-Ends-clause-over g c stops = c.in_ok-add.ensures.counted.over c.in-Ends.is
