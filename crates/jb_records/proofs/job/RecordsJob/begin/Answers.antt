use Rattle.std.proofs.Common.{Ok, length, subst}
use Rattle.jb_step.specs.preparing.Prepare.{IsPreparation}
use Rattle.jb_records.specs.Made.{even_partitions, step_record}
use Rattle.jb_records.specs.Steps.{StartsFresh}
use Rattle.jb_records.proofs.Counting.{anew-counted}
use Rattle.jb_records.proofs.Following.{anew-follow, begun-ranges}
use Rattle.jb_records.proofs.Resuming.{going-on}
use Rattle.jb_records.proofs.Steps.{begun-anew}
use Rattle.jb_records.proofs.Causes.{handed-on, opened-rows, others-refused}
use Rattle.jb_records.proofs.job.RecordsJob.begin.Goals as goal

pub returns-clause-new : goal.returns-clause-new
returns-clause-new c none f =
    let prepared = c.in_ok-prepared.prepared in
    let anew = c.in_ok-prepared.ensures.new none in
    record {
      so_far = begun-anew c.steps_keep_results.ensures.begun f c.args.records.now prepared _ (subst (λ n. StartsFresh n prepared) c.len-count.ensures anew) c.in_ok-results.ensures.numbered;
      counted = anew-counted c.skips_are_counted.ensures.begun f c.args.records.now _ prepared anew;
      follows = anew-follow c.rules_are_kept.ensures.begun f prepared.rules c.args.records.now _ prepared anew;
      ranges = begun-ranges c.args.step.now _ c.args.saved prepared none (subst (λ n. IsPreparation (step_record c.args.step.now) n (Ok (even_partitions c.args.step.now n)) c.args.saved prepared) c.len-count.ensures c.in_ok-prepared.ensures.prepared);
    }

pub returns-clause-goes_on : goal.returns-clause-goes_on
returns-clause-goes_on c f stopped =
    going-on f c.args.records.now c.args.saved c.args.earlier.now _ _ stopped c.in_ok-prepared.ensures.resumed c.in_ok-results.ensures.numbered c.in_ok-results.ensures.joined

pub returns-clause-begun : goal.returns-clause-begun
returns-clause-begun c =
    let made = c.in_ok-prepared.ensures in
    record {
      prepared = subst (λ n. IsPreparation (step_record c.args.step.now) n (Ok (even_partitions c.args.step.now n)) c.args.saved c.in_ok-prepared.prepared) c.len-count.ensures made.prepared;
      setup = made.setup;
      numbered = c.in_ok-results.ensures.numbered;
      results = c.in_ok-results.ensures.joined;
    }

pub returns-in_err-results-clause-why : goal.returns-in_err-results-clause-why
returns-in_err-results-clause-why c =
    handed-on c.from_residual-in_err-results.result c.in_err-results.field-0.0 _ c.from_residual-in_err-results.ensures.1
    (others-refused c.args.step.now (length c.args.records.now) c.args.saved c.args.earlier.now c.in_ok-prepared.prepared.rows _ c.in_err-results.field-0.0
    (opened-rows c.args.step.now c.len-count.result c.args.saved c.in_ok-prepared.prepared c.in_ok-prepared.ensures.prepared) c.in_err-results.ensures.why)
