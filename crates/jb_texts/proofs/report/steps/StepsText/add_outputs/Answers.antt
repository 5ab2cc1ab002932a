use Rattle.std.proofs.Common.{rules, ◌≡◌, List, [], ◌∷◌, ◌++◌, flat_map, map, ap, sym, subst, ◌∙◌}
use Rattle.std.specs.Str.Lossy.{utf8_lossy}
use Rattle.json.specs.Lex.{tokens}
use Rattle.json.specs.Print.{print}
use Rattle.json.specs.Token.{Token, begin_array, end_array}
use Rattle.jb_saved.specs.SavedTree.{tokens_of}
use Rattle.jb_texts.specs.Report.{results_tree}
use Rattle.jb_texts.specs.declared.report.parts.Part.{Part}
use Rattle.jb_texts.specs.inside.Parts.{PrintsOn, part_tokens}
use Rattle.jb_texts.proofs.Parts.{goes-on-behind, outputs-added}
use Rattle.jb_texts.proofs.report.steps.StepsText.add_outputs.Goals as goal

pub invariant_of-drop : goal.invariant_of-drop
invariant_of-drop c =
    let now = c.parts.inside.out.tokens in
    let part : Part = record { text = c.into_inner-text.result; results = c.args.results } in
    let begun : c.begin_array.new.self.tokens ≡ now ++ begin_array ∷ [] = search rules in
    let before : c.begin_array.new.self.before ≡ [] = search rules in
    let ended : c.end_array.new.self.tokens ≡ end_array ∷ [] = search rules in
    let next : c.end_array.new.self.before ≡ [] = search rules in
    let text : c.into_inner-text.result.items ≡ print c.begin_array.new.self.tokens = c.into_inner-text.ensures.items ∙ ap (λ bytes. bytes ++ print c.begin_array.new.self.tokens) before in
    let read : tokens c.into_inner-text.result.items ≡ now ++ begin_array ∷ [] = ap tokens text ∙ c.into_inner-text.ensures.reads_back ∙ begun in
    let goes_on = goes-on-behind c.parts.inside.parts.items c.push.new.self.items part now c.in_ok-push.ensures.items read (text ∙ ap print begun) c.parts.invariant.1 in
    (next, subst (λ (ts : List Token). PrintsOn c.push.new.self.items ts) (sym ended) goes_on)

pub returns : goal.returns
returns c =
    let now = c.parts.inside.out.tokens in
    let part : Part = record { text = c.into_inner-text.result; results = c.args.results } in
    let begun : c.begin_array.new.self.tokens ≡ now ++ begin_array ∷ [] = search rules in
    let before : c.begin_array.new.self.before ≡ [] = search rules in
    let ended : c.end_array.new.self.tokens ≡ end_array ∷ [] = search rules in
    let text : c.into_inner-text.result.items ≡ print c.begin_array.new.self.tokens = c.into_inner-text.ensures.items ∙ ap (λ bytes. bytes ++ print c.begin_array.new.self.tokens) before in
    let read : tokens c.into_inner-text.result.items ≡ now ++ begin_array ∷ [] = ap tokens text ∙ c.into_inner-text.ensures.reads_back ∙ begun in
    let old : flat_map part_tokens c.parts.inside.parts.items ++ now ≡ c.args.self.now = c.parts.view_is ∙ c.replace.ensures.value in
    ap (λ ts. flat_map part_tokens c.push.new.self.items ++ ts) ended
    ∙ outputs-added c.parts.inside.parts.items c.push.new.self.items part now c.in_ok-push.ensures.items read
    ∙ ap (λ ts. ts ++ tokens_of (results_tree (map utf8_lossy c.args.results))) old
