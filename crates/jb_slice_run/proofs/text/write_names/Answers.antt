use Rattle.std.proofs.{Common.{append_assoc, map, ◌∷◌, ◌++◌, [], ap, ◌∙◌}, lemmas.Simd.{map-map}, lemmas.List.Concat.{flat_map_single}}
use Rattle.json.specs.Token.{begin_array, end_array, string as string_token}
use Rattle.serde_json.specs.Data.{string}
use Rattle.jb_saved.proofs.Written.{list-tokens}
use Rattle.jb_slice_run.proofs.text.write_names.Goals as goal

pub returns-clause-names : goal.returns-clause-names
returns-clause-names c =
    let names = map (λ name. name.now) c.args.names.now in
    let tokens = list-tokens string names ∙ ap (λ ts. begin_array ∷ (ts ++ end_array ∷ [])) (flat_map_single (λ s. string_token s) names ∙ map-map (λ s. string_token s) (λ name. name.now) c.args.names.now) in
    simp (c.in_ok-end_array.ensures.ok, c.in_ok-write_texts.ensures.texts, c.in_ok-begin_array.ensures.ok, c.in_ok-key.ensures.ok, tokens, append_assoc)
