use Rattle.std.proofs.Common.{◌≡◌, ◌≢◌, Some, codes, ap, sym, ◌∙◌}
use Rattle.clap.specs.Words.{found_of, rows_of, subcommand_rows_of}
use Rattle.clap.proofs.WalkLemmas.{first_value-rows}
use Rattle.jb_program.specs.CommandLine.{request_in, topic_in, perform_in}
use Rattle.jb_program.proofs.CommandLines.{found-as, help-asks, named, word-asks}
use Rattle.jb_program.proofs.words.line.request_of.Goals as goal

pub returns-in-help : goal.returns-in-help
returns-in-help c =
    let all = c.args.matches.now in
    let name = c.in-Some.name.now in
    let rest = found_of c.in-Some.rest.now in
    let found : subcommand_rows_of all ≡ Some (name, rows_of rest) = found-as name (rows_of rest) (subcommand_rows_of all) (c.in-Some.ensures.name ∙ named all) c.in-Some.ensures.rows in
    c.topic_of.ensures ∙ ap topic_in (c.get_str.ensures ∙ first_value-rows rest (codes "word"))
    ∙ sym (ap request_in found ∙ help-asks name (rows_of rest) c.in-help.is)

pub returns-in_default-name : goal.returns-in_default-name
returns-in_default-name c =
    let all = c.args.matches.now in
    let name = c.in-Some.name.now in
    let rest = found_of c.in-Some.rest.now in
    let found : subcommand_rows_of all ≡ Some (name, rows_of rest) = found-as name (rows_of rest) (subcommand_rows_of all) (c.in-Some.ensures.name ∙ named all) c.in-Some.ensures.rows in
    let other : name ≢ codes "help" = c.in_default-name.not-help in
    let numbers = c.get_str-in_default-name.ensures ∙ first_value-rows rest (codes "rounds") in
    c.perform_of.ensures ∙ ap (perform_in name) numbers ∙ sym (ap request_in found ∙ word-asks name (rows_of rest) other)
