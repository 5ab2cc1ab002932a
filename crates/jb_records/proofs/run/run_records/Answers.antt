use Rattle.std.proofs.Common.{◌≡◌, ◌∙◌, List, ℕ, ap, refl, subst}
use Rattle.std.proofs.lemmas.Result.{IfOk-weaker}
use Rattle.std.specs.Prelude.{IfOk}
use Rattle.jb_base.specs.Rules.{RulesRecord}
use Rattle.jb_collect.specs.declared.calls.Status.TheVariants.{Completed}
use Rattle.jb_step.specs.preparing.Setup.{Setup}
use Rattle.jb_records.specs.declared.step.RecordsStep.{RecordsStep}
use Rattle.jb_records.specs.Failures.{AreFailures}
use Rattle.jb_records.specs.Following.{EndsByRules, FollowRules, ranges_of}
use Rattle.jb_records.specs.Function.{Function, IsSteady, all_results}
use Rattle.jb_records.specs.PartitionResults.{IsSoFar, joined}
use Rattle.jb_records.specs.inside.InMemory.{HasEnded}
use Rattle.jb_records.proofs.Calling.{can-begin}
use Rattle.jb_records.proofs.Causes.{handed-on}
use Rattle.jb_records.proofs.Ending.{ends-by, ends-counted, ends-ranges, ends-so-far, ends-whole, kept-same}
use Rattle.jb_records.proofs.Following.{rows-pass, step-passes}
use Rattle.jb_records.proofs.Resuming.{behind}
use Rattle.jb_records.proofs.run.run_records.Goals as goal

pub from_prepared-requires-clause-can : goal.from_prepared-requires-clause-can
from_prepared-requires-clause-can g c κs within = can-begin _ _ _ _ _ _ c.in_ok-job.ensures.begun.begun

pub returns-in_err-job-clause-why : goal.returns-in_err-job-clause-why
returns-in_err-job-clause-why g c =
    handed-on c.from_residual.result c.in_err-job.field-0.0 _ c.from_residual.ensures.1 (c.in_err-job.ensures.why (g.F.StepFunction.function c.args.function))

-- ---- THE RUN'S END

module _ (g : _) (c : goal.After-drop-function-2 g) where
  abbrev f : Function
  f = g.F.StepFunction.function c.args.function

  abbrev records : List (List ℕ)
  records = c.args.records.now

  abbrev setup : Setup
  setup = c.in_ok-job.job.prepared

  abbrev shares : List (List (List ℕ))
  shares = c.in_ok-job.job.results.items

  ended : IfOk c.run_last.result (λ end. HasEnded f records c.args.rounds setup shares end.status end.snapshot end.results.items)
  ended =
      c.run_last.ensures.ended f records c.args.step.now.id setup shares
      (kept-same _ f records c.args.step.now.id setup shares _ (ap g.F.StepFunction.function c.in_ok-function.ensures.ok) c.in_ok-run.ensures.kept) c.in_ok-run.ensures.results

  -- if it was so far when it began
  module _ (so : IsSoFar f records setup.rows shares) where
    so-far : IfOk c.run_last.result (λ end. IsSoFar f records end.snapshot.rows.items end.results.items)
    so-far = IfOk-weaker c.run_last.result _ _ (λ end e. ends-so-far _ _ _ _ _ _ _ _ e c.in_ok-job.ensures.begun.begun.setup so c.steps_keep_results.ensures.kept) ended

    whole : IfOk c.run_last.result (λ end. end.status ≡ Completed → joined end.results.items ≡ all_results f records)
    whole = IfOk-weaker c.run_last.result _ _ (λ end e. ends-whole _ _ _ _ _ _ _ _ e c.in_ok-job.ensures.begun.begun.setup so c.steps_keep_results.ensures.kept c.steps_keep_results.ensures.joined) ended

    by-rules : IsSteady f → FollowRules f setup.rules records setup.rows
        → IfOk c.run_last.result (λ end. EndsByRules f c.args.step.now.rules records end.snapshot.rows.items end.status × (ranges_of end.snapshot.rows.items ≡ ranges_of setup.rows))
    by-rules steady follow =
        let begun = c.in_ok-job.ensures.begun.begun in
        let laws = c.rules_are_kept.ensures in
        IfOk-weaker c.run_last.result _ _ (λ end e. (
          subst (λ (r : RulesRecord). EndsByRules f r records end.snapshot.rows.items end.status) begun.prepared.rules
              (ends-by _ _ _ _ _ _ _ _ e begun.setup so c.steps_keep_results.ensures.kept laws.kept laws.finished laws.failed steady follow),
          ends-ranges _ _ _ _ _ _ _ _ e laws.ranges begun.setup,
        )) ended

pub returns-clause-run : goal.returns-clause-run
returns-clause-run g c =
    IfOk-weaker c.run_last.result _ _ (λ end e. record { setup = setup g c; partition_results = shares g c; begun = c.in_ok-job.ensures.begun; made = e.run }) (ended g c)

pub returns-clause-failures : goal.returns-clause-failures
returns-clause-failures g c =
    IfOk-weaker c.run_last.result _ _ (λ end are. subst (λ (step : RecordsStep). AreFailures (f g c) step.rules step.item_count (records g c) end.snapshot.rows.items end.failures.items) c.in_ok-run.ensures.step
    (subst (λ (x : Function). AreFailures x c.in_ok-run.run'.step.rules c.in_ok-run.run'.step.item_count (records g c) end.snapshot.rows.items end.failures.items) (ap g.F.StepFunction.function (c.deref.ensures ∙ c.in_ok-function.ensures.ok)) are)) c.run_last.ensures.failures

-- ---- FROM THE START

pub returns-clause-so_far : goal.returns-clause-so_far
returns-clause-so_far g c none = so-far g c (c.in_ok-job.ensures.new none (f g c)).so_far

pub returns-clause-all : goal.returns-clause-all
returns-clause-all g c none = whole g c (c.in_ok-job.ensures.new none (f g c)).so_far

pub returns-clause-counted : goal.returns-clause-counted
returns-clause-counted g c none =
    let new = c.in_ok-job.ensures.new none (f g c) in
    IfOk-weaker c.run_last.result _ _ (λ end e. ends-counted _ _ _ _ _ _ _ _ e c.in_ok-job.ensures.begun.begun.setup new.so_far c.skips_are_counted.ensures.counted new.counted) (ended g c)

pub returns-clause-follows : goal.returns-clause-follows
returns-clause-follows g c none steady =
    let new = c.in_ok-job.ensures.new none (f g c) in
    IfOk-weaker c.run_last.result _ _ (λ end by. by.0.follows) (by-rules g c new.so_far steady new.follows)

pub returns-clause-completed : goal.returns-clause-completed
returns-clause-completed g c none steady =
    let new = c.in_ok-job.ensures.new none (f g c) in
    IfOk-weaker c.run_last.result _ _ (λ end by completed. step-passes (f g c) c.args.step.now (records g c) _ _ _ refl new.ranges by.1 (by.0.completed completed)) (by-rules g c new.so_far steady new.follows)

pub returns-clause-failed : goal.returns-clause-failed
returns-clause-failed g c none steady =
    let new = c.in_ok-job.ensures.new none (f g c) in
    IfOk-weaker c.run_last.result _ _ (λ end by failed pass. by.0.failed failed (rows-pass (f g c) c.args.step.now (records g c) _ _ _ refl new.ranges by.1 pass)) (by-rules g c new.so_far steady new.follows)

-- ---- AFTER A STOPPED RUN

pub returns-clause-goes_on : goal.returns-clause-goes_on
returns-clause-goes_on g c = behind _ _ c.args.earlier (f g c) c.in_ok-job.ensures.goes_on (so-far g c)

pub returns-clause-goes_on_whole : goal.returns-clause-goes_on_whole
returns-clause-goes_on_whole g c = behind _ _ c.args.earlier (f g c) c.in_ok-job.ensures.goes_on (whole g c)

pub returns-clause-goes_on_by_rules : goal.returns-clause-goes_on_by_rules
returns-clause-goes_on_by_rules g c =
    behind _ _ c.args.earlier (f g c) c.in_ok-job.ensures.goes_on_by_rules (λ on. IfOk-weaker c.run_last.result _ _ (λ end by. by.0) (by-rules g c on.so_far on.steady on.follows))
