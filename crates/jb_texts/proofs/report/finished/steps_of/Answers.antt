use Rattle.std.proofs.Common.{rules, ◌≡◌, ℕ, List, [], ◌∷◌, ◌++◌, flat_map, ap, sym, ◌∙◌, append_assoc}
use Rattle.json.specs.Token.{end_array}
use Rattle.json.specs.Print.{print}
use Rattle.jb_texts.specs.inside.Parts.{part_text}
use Rattle.jb_texts.proofs.Tokens.{steps-print}
use Rattle.jb_texts.proofs.report.finished.steps_of.Goals as goal

pub returns : goal.returns
returns c reports is =
    let parts = flat_map part_text c.into_parts-parts.result.0.items in
    let ended = c.into_parts-parts.result.1.tokens ++ end_array ∷ [] in
    let end : List ℕ = 125 ∷ 10 ∷ [] in
    let before : c.end_array.new.self.before ≡ [] = search rules in
    let tokens : c.end_array.new.self.tokens ≡ ended = search rules in
    let printed : c.into_inner-last.result.items ≡ print ended = c.into_inner-last.ensures.items ∙ (λ i. before i ++ print (tokens i)) in
    let last : c.extend_from_slice.new.self.items ≡ c.into_inner-last.result.items ++ end = search rules in
    ap (λ text. parts ++ text) (last ∙ ap (λ text. text ++ end) printed) ∙ sym (append_assoc parts (print ended) end)
    ∙ ap (λ text. text ++ end) (sym (c.into_parts-parts.ensures.text (end_array ∷ [])) ∙ ap (λ steps. print (steps ++ end_array ∷ [])) is ∙ steps-print reports)
