use Rattle.std.proofs.Common.{◌≡◌, ◌∙◌, ap, subst, codes, option_map, IfOk}
use Rattle.clap.specs.Words.{App, app_of, with_rule}
use Rattle.jb_csv_job.specs.{CommandLine.{flag_rule, folder_rule, many_rule, option_rule, with_own}, declared.asked.OwnOption.{OwnOption}}
use Rattle.jb_csv_job.proofs.command.command.Goals as goal

pub returns : goal.returns
returns c =
    let option : App → _ → App = λ a name. with_rule a (option_rule name) in
    let own = option_map (λ (o : OwnOption). o.name.now) c.args.own in
    let first = c.in_ok-command.ensures ∙ ap (λ a. option a (codes "threads")) c.program-command.ensures in
    let second = c.in_ok-command-2.ensures ∙ ap (λ a. option a (codes "part")) first in
    let third = c.in_ok-command-3.ensures ∙ ap (λ a. with_rule a (flag_rule (codes "collect"))) second in
    let fourth = c.in_ok-command-4.ensures ∙ ap (λ a. with_rule a (many_rule (codes "keep-stamp"))) third in
    let fifth = c.in_ok-command-5.ensures ∙ ap (λ a. option a (codes "output")) fourth in
    let sixth = c.in_ok-command-6.ensures ∙ ap (λ a. option a (codes "skipped")) fifth in
    let seventh = c.in_ok-command-7.ensures ∙ ap (λ a. option a (codes "records")) sixth in
    let eighth = c.in_ok-command-8.ensures ∙ ap (λ a. option a (codes "bytes")) seventh in
    let ninth = c.in_ok-command-9.ensures ∙ ap (λ a. option a (codes "sha256")) eighth in
    let tenth = c.in_ok-command-10.ensures ∙ ap (λ a. with_own a own) ninth in
    subst (λ a. IfOk c.with_folder.result (λ made. app_of made ≡ with_rule a folder_rule)) tenth c.with_folder.ensures
