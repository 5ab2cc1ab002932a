use Rattle.std.proofs.Common.{length, inl, map, refl, rules, ap, ◌∙◌}
use Rattle.jb_slice_file.proofs.Handed.{handed_on}
use Rattle.jb_slice_run.{specs.Held.{limits_in}, specs.Jobs.{job_in}, specs.Named.{faults_held}, proofs.RowsEnded.{steps-divide}}
use Rattle.jb_slice_run.proofs.resuming.begun.Goals as goal

pub returns-in_err-run-clause-why : goal.returns-in_err-run-clause-why
returns-in_err-run-clause-why g c number all = handed_on _ _ _ c.from_residual.ensures.1 (record { step = c.args.step.now; step_is = c.requires.step; cause = inl c.in_err-run.ensures.why })

pub returns-clause-place : goal.returns-clause-place
returns-clause-place g c =
    let run = c.in_ok-run.ensures in
    let j = c.args.job.now in
    record {
      runs = record {
        stands = run.stands;
        rules_are = run.by.rules_are ∙ c.requires.step.rules_are;
        ranges = run.ranges ∙ (steps-divide (job_in j) (limits_in j.limits) j.threads c.args.step.now (length c.args.items.now) c.requires.step).0;
      };
      empty = record { numbered = run.fresh.numbered; empty = run.fresh.empty };
      stage_is = refl;
      none_before = c.new.ensures.items;
      no_faults = ap (map faults_held) c.new-2.ensures.items;
      fresh = refl;
      agrees = search rules;
    }
