use Rattle.std.proofs.Common.{◌∙◌, ap, flat_map, sym}
use Rattle.std.proofs.lemmas.Iterator.{YieldsList-from_chars}
use Rattle.std.proofs.lemmas.Iterator.Consumers.{YieldsList-end}
use Rattle.std.proofs.lemmas.List.Folds.{flat_map-map}
use Rattle.jb_program.specs.UsageText.{shown}
use Rattle.jb_program.proofs.words.line.escaped.Goals as goal

pub returns : goal.returns
returns c =
    let end = YieldsList-end (YieldsList-from_chars c.args.word.now c.utf8.word cc) c.loop-character.yielded _ c.loop-character.yielded_by _ _ c.in-None.is c.next.ensures.steps in
    c.loop-character.invariant ∙ sym (flat_map-map shown (λ character. character) c.loop-character.yielded) ∙ ap (flat_map shown) end.0
