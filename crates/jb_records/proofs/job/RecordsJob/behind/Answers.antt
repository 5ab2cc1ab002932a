use Rattle.std.proofs.Common.{Ok, Some, refl, rules, subst, sym}
use Rattle.jb_step.specs.preparing.Prepare.{IsPreparation}
use Rattle.jb_records.specs.Made.{even_partitions, step_record}
use Rattle.jb_records.specs.PartitionResults.{AreNumbered}
use Rattle.jb_records.proofs.Beginning.{numbered-again}
use Rattle.jb_records.proofs.job.RecordsJob.behind.Goals as goal

pub returns-clause-begun : goal.returns-clause-begun
returns-clause-begun c =
    let made = c.in_ok-prepared.ensures in
    let own : AreNumbered c.args.saved.rows c.args.results.items = search rules in
    record {
      prepared = subst (λ n. IsPreparation (step_record c.args.step.now) n (Ok (even_partitions c.args.step.now n)) (Some c.args.saved) c.in_ok-prepared.prepared) c.len-count.ensures made.prepared;
      setup = made.setup;
      numbered = subst (λ rows. AreNumbered rows c.args.results.items) (sym made.resumed) (numbered-again c.args.saved.rows c.args.results.items own);
      results = refl;
    }
