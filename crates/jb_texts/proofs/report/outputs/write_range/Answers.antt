use Rattle.std.proofs.Common.{rules, ◌++◌, ◌∷◌, [], slice_range, ap, sym, ◌∙◌, append_assoc}
use Rattle.std.specs.Str.Lossy.{utf8_lossy}
use Rattle.std.proofs.lemmas.List.{map-append}
use Rattle.json.specs.Token.{string}
use Rattle.jb_base.proofs.Packed.{range_more}
use Rattle.jb_texts.specs.inside.Parts.{results_tokens}
use Rattle.jb_texts.proofs.report.outputs.write_range.Goals as goal

pub loop-place-preserved : goal.loop-place-preserved
loop-place-preserved c =
    let results = c.args.results.now in
    let place = c.loop-place.place in
    let begun = c.loop-place.auto.place in
    let old = c.args.out.now.tokens in
    let so_far = slice_range results c.args.from place in
    let bytes = c.at.result.now in
    let next = ap (λ one. so_far ++ one ∷ []) c.at.ensures ∙ range_more results c.args.from place (search rules) (search rules) in
    record {
      texts = c.in_ok-write_result.ensures.text ∙ ap (λ ts. ts ++ string (utf8_lossy bytes) ∷ []) c.loop-place.invariant.texts
          ∙ append_assoc old (results_tokens so_far) (string (utf8_lossy bytes) ∷ [])
          ∙ ap (λ ts. old ++ ts) (sym (map-append (λ one. string (utf8_lossy one)) so_far (bytes ∷ [])) ∙ ap results_tokens next);
      before = c.in_ok-write_result.ensures.before ∙ c.loop-place.invariant.before;
    }
