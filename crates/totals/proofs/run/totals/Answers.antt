use Rattle.jb_csv_job.specs.Tasks.{given_by}
use Rattle.totals.proofs.run.totals.Goals as goal

pub returns-clause-all : goal.returns-clause-all
returns-clause-all g c = λ clean functions taken zero.
    let done = c.in_ok-end.ensures.all clean functions taken zero in record {
      lines = done.lines;
      read = done.read;
      are = c.in_ok-rows.ensures.sold c.args.prices (given_by c.args.asked.now.task done.lines) done.added;
    }
