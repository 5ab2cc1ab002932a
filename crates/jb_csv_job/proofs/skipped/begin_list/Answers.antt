use Rattle.std.proofs.Common.{◌∙◌, [], ap, map}
use Rattle.jb_rows.specs.Texts.{copied_by}
use Rattle.jb_csv_job.{specs.Sinks.{taken_none}, specs.Skipped.{skipped_header}, proofs.Writing.{begun-by}}
use Rattle.jb_csv_job.proofs.skipped.begin_list.Goals as goal

pub returns-in-Ok-clause-begun : goal.returns-in-Ok-clause-begun
returns-in-Ok-clause-begun g c =
    let options = c.args.job.now.options in
    let blank = c.new-list.result in
    let rows = c.in_ok-rows.ensures ∙ ap (λ kept. map skipped_header (copied_by options.header kept)) c.header.ensures.kept in
    let took = c.in-Ok.ensures.taken blank [] (taken_none g.S.Write.contents blank) options.delimiter in
    rw (c.in-Some.is, ← rows) (begun-by g.S.Write.contents options.delimiter c.in-Some.to blank c.take.new.self _ c.new-list.ensures.between c.new-list.ensures.nothing took)
