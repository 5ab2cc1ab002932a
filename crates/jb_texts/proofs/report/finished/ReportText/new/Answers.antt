use Rattle.std.proofs.Common.{◌++◌, ◌∙◌}
use Rattle.jb_texts.proofs.Tokens.{report-joined}
use Rattle.jb_texts.proofs.report.finished.ReportText.new.Goals as goal

pub returns : goal.returns
returns c reports is =
    (λ i. c.in_ok-block.ensures i ++ c.in_ok-parts.ensures reports is i) ∙ report-joined c.args.job.now c.args.status reports
