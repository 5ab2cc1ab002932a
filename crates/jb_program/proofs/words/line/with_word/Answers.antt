use Rattle.std.proofs.Common.{ap, ◌∙◌}
use Rattle.clap.specs.Words.{App, app_of, with_subcommand}
use Rattle.jb_program.proofs.words.line.with_word.Goals as goal

pub returns : goal.returns
returns c = c.in_ok-command.ensures.shape c.new.ensures.local ∙ ap (λ (a : App). with_subcommand (app_of c.args.program) a.top) c.new.ensures.app
