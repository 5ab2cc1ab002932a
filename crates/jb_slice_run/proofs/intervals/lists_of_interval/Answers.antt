use Rattle.jb_slice_run.{specs.Strings.{all_new_output, interval_lists}, proofs.Why.{why_on}}
use Rattle.jb_slice_run.proofs.intervals.lists_of_interval.Goals as goal

pub returns-in_err-lists-clause-why : goal.returns-in_err-lists-clause-why
returns-in_err-lists-clause-why c =
    why_on c.from_residual.result c.in_err-lists.field-0.0 c.from_residual.ensures.1
    (λ none i so number. none (interval_lists i.limits (all_new_output i.partitions)) (rw (c.deref.ensures.value, ← number) so.lists)) c.in_err-lists.ensures.why

pub returns-clause-read : goal.returns-clause-read
returns-clause-read c i so number = c.in_ok-lists.ensures.read (interval_lists i.limits (all_new_output i.partitions)) (rw (c.deref.ensures.value, ← number) so.lists)
