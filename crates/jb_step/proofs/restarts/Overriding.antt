-- A restart whose plan overrides what was saved.
use Rattle.std.proofs.Common.{◌≡◌, Bool, true, false, Result, Ok, Err, None, refl, ap, sym, ◌∙◌}
use Rattle.std.specs.Prelude.{is_none}
use Rattle.jb_base.specs.declared.class.ClassId.{ClassId}
use Rattle.jb_plan.specs.declared.plan.PartitionPlan.{PartitionPlan}
use Rattle.jb_step.specs.restarts.Restarts.{OverridesStartFresh}
use Rattle.jb_step.specs.preparing.Setup.{gone_on, opening_rows}

abbrev replace-of : Result PartitionPlan ClassId → Bool
replace-of (Ok plan) = plan.replace
replace-of (Err class) = false

pub overrides-begin-anew : OverridesStartFresh
overrides-begin-anew step records mapped saved s plan is replaced h =
    let same : h.plan.replace ≡ true = ap replace-of (sym h.mapping ∙ is) ∙ replaced in
    let none : gone_on h.plan.replace saved ≡ gone_on h.plan.replace None = ap (λ b. gone_on b saved) same ∙ sym (ap (λ b. gone_on b None) same) in
    record {
      plan = h.plan;
      mapping = h.mapping;
      runnable = h.runnable;
      accepted = refl;
      rows = h.rows ∙ ap (opening_rows h.plan.ranges) none;
      rules = h.rules;
      item_count = h.item_count;
      threads = h.threads;
      is_fresh = h.is_fresh ∙ ap is_none none;
    }
