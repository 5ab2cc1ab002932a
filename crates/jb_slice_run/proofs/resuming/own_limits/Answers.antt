use Rattle.std.proofs.Common.{inr, subst, sym}
use Rattle.jb_slice_file.proofs.Handed.{handed_on}
use Rattle.jb_slices.specs.Checkpoint.{Header}
use Rattle.jb_slice_run.{specs.Held.{header_in}, specs.Jobs.{kept_stamps}, specs.Refusals.{IsHeaderCause, IsOwn}, proofs.Refusing.{first-why, refused-as}}
use Rattle.jb_slice_run.proofs.resuming.own_limits.Goals as goal

pub returns-in_err-held-clause-why : goal.returns-in_err-held-clause-why
returns-in_err-held-clause-why c f later = handed_on _ _ _ c.from_residual.ensures.1 (first-why _ _ _ _ _ _ _ c.in_err-held.ensures.why)

pub returns-in_err-refuse_others-clause-why : goal.returns-in_err-refuse_others-clause-why
returns-in_err-refuse_others-clause-why c f later =
    let e = c.in_err-refuse_others.field-0.0 in
    handed_on _ e _ c.from_residual-in_err-refuse_others.ensures.1
    (refused-as _ _ _ _ _ later e c.in_err-refuse_others.ensures.kind
    (λ h kept. subst (λ (o : Header). IsHeaderCause o (kept_stamps c.args.job.now) h e) c.requires.own
    (c.in_err-refuse_others.ensures.why h (header_in c.args.own.now) (c.in_ok-held.ensures.read h kept) c.in_ok-own.ensures.lists kept.small c.in_ok-own.ensures.small)))

pub returns-in_err-limits-clause-why : goal.returns-in_err-limits-clause-why
returns-in_err-limits-clause-why c f later =
    handed_on _ _ _ c.from_residual-in_err-limits.ensures.1
    (first-why _ _ _ _ _ _ _ (inr (c.in_err-limits.ensures.why, λ h kept. c.in_err-limits.ensures.limits h (c.in_ok-held.ensures.read h kept) kept.small)))

pub returns-clause-opened : goal.returns-clause-opened
returns-clause-opened c = record {
  own = λ h kept. subst (λ (o : Header). IsOwn o (kept_stamps c.args.job.now) h) c.requires.own
      (c.in_ok-refuse_others.ensures.own h (header_in c.args.own.now) (c.in_ok-held.ensures.read h kept) c.in_ok-own.ensures.lists kept.small c.in_ok-own.ensures.small);
  limits = λ h kept. sym (c.in_ok-limits.ensures.limits h (c.in_ok-held.ensures.read h kept) kept.small);
}
