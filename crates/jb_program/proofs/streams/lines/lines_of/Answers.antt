use Rattle.std.proofs.Common.{◌++◌, ap, ◌∙◌}
use Rattle.std.proofs.lemmas.Fmt.{contents_after_writes}
use Rattle.jb_program.specs.FailureText.{failure_text}
use Rattle.jb_program.proofs.streams.lines.lines_of.Goals as goal

pub returns : goal.returns
returns c =
    contents_after_writes _ (λ lines. lines.bytes) (λ w bs v took. took) c.new-lines.result (failure_text c.args.failure.now) c.write.new.self c.in_ok-write.ensures.writes
    ∙ ap (λ bytes. bytes ++ failure_text c.args.failure.now) c.new-lines.ensures
