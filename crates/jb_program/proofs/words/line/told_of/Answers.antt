use Rattle.std.proofs.Common.{◌∙◌, [], ap, get_or, refl, sym}
use Rattle.std.proofs.lemmas.List.{take-map}
use Rattle.jb_program.specs.CommandLine.{reason_after}
use Rattle.jb_program.proofs.CommandLines.{text-at}
use Rattle.jb_program.proofs.words.line.told_of.Goals as goal

pub returns : goal.returns
returns c =
    let words = c.args.words.now in
    let word = (get_or words c.args.place (record { ref_ptr = (0, 0); now = [] })).now in
    record {
      word = word;
      is_there = text-at words c.args.place (record { ref_ptr = (0, 0); now = [] }) word c.requires refl;
      is_escaped = c.in_ok-text.ensures;
      is_why = c.reason_after.ensures ∙ ap (λ before. reason_after before word) (sym (take-map (λ w. w.now) c.args.place words));
    }
