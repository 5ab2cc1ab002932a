use Rattle.std.proofs.Common.{get_or, inr, sym, ap, ◌∙◌}
use Rattle.jb_slice_file.proofs.Handed.{handed_on}
use Rattle.jb_slice_run.{specs.Held.{limits_in}, specs.Strings.{all_new_output, limits_list}, proofs.Why.{why_on}, proofs.Once.{limits_once}}
use Rattle.jb_slice_run.proofs.intervals.read_interval.Goals as goal

pub returns-in_err-limits-clause-why : goal.returns-in_err-limits-clause-why
returns-in_err-limits-clause-why c =
    let agrees = c.in_err-limits.ensures in
    handed_on c.from_residual-in_err-limits.result c.in_err-limits.field-0.0 _ c.from_residual-in_err-limits.ensures.1
    (inr (agrees.0, λ i so number. agrees.1 i.limits (c.index.ensures ∙ ap (λ l. get_or l 0 c.index.result.now) (c.in_ok-lists.ensures.read i so number))))

pub returns-in_err-grow_all-clause-why : goal.returns-in_err-grow_all-clause-why
returns-in_err-grow_all-clause-why c =
    why_on c.from_residual-in_err-grow_all.result c.in_err-grow_all.field-0.0 c.from_residual-in_err-grow_all.ensures.1
    (λ none i so number. none (limits_list i.limits) (all_new_output i.partitions) (c.deref.ensures.value ∙ c.in_ok-lists.ensures.read i so number)) c.in_err-grow_all.ensures.why

pub returns-clause-read : goal.returns-clause-read
returns-clause-read c i so number =
    let lists = c.in_ok-lists.ensures.read i so number in (
      limits_once (limits_in c.in_ok-limits.limits) i.limits c.in_ok-limits.ensures.1 so.small
          (sym c.in_ok-limits.ensures.0 ∙ c.index.ensures ∙ ap (λ l. get_or l 0 c.index.result.now) lists),
      c.in_ok-grow_all.ensures.read (limits_list i.limits) (all_new_output i.partitions) so.new_output_small (c.deref.ensures.value ∙ lists),
    )
