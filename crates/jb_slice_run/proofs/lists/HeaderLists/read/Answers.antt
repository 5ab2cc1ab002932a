use Rattle.std.proofs.Common.{subst, sym}
use Rattle.jb_slice_file.proofs.Handed.{handed_on}
use Rattle.jb_slice_run.{specs.Coding.{IsCodingOf}, specs.Strings.{header_lists}, proofs.Why.{why_not}}
use Rattle.jb_slice_run.proofs.lists.HeaderLists.read.Goals as goal

pub returns-in_err-lists-clause-why : goal.returns-in_err-lists-clause-why
returns-in_err-lists-clause-why c =
    let e = c.in_err-lists.field-0.0 in
    handed_on c.from_residual.result e _ c.from_residual.ensures.1
    (why_not e (λ none h so. none (header_lists h) (subst (λ b. IsCodingOf b 10 (header_lists h)) (sym c.deref.ensures.value) so.lists)) c.in_err-lists.ensures.why)

pub returns-clause-read : goal.returns-clause-read
returns-clause-read c h so = c.in_ok-lists.ensures.read (header_lists h) (subst (λ b. IsCodingOf b 10 (header_lists h)) (sym c.deref.ensures.value) so.lists)
