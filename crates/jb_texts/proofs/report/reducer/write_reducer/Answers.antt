use Rattle.std.proofs.Common.{rules, ◌≡◌, ◌++◌, ◌∷◌, [], map, flat_map, ap, sym, ◌∙◌}
use Rattle.std.proofs.lemmas.List.Concat.{flat_map_single}
use Rattle.std.proofs.lemmas.Result.{on_ok_weaker}
use Rattle.std.proofs.lemmas.Simd.{map-map}
use Rattle.json.specs.Token.{begin_array, string}
use Rattle.serde_json.specs.Data.{Data}
use Rattle.jb_texts.specs.Report.{call_name}
use Rattle.jb_saved.proofs.Written.{list-written}
use Rattle.jb_texts.proofs.report.reducer.write_reducer.Goals as goal

pub returns-clause-calls : goal.returns-clause-calls
returns-clause-calls c =
    let calls = c.args.calls.now in
    let names = map call_name calls in
    let begun : c.begin_array.new.self.tokens ≡ c.args.out.now.tokens ++ begin_array ∷ [] = search rules in
    let passed : c.write_names.new.out.tokens ≡ c.begin_array.new.self.tokens ++ map (λ call. string (call_name call)) calls = search rules in
    let same : map (λ call. string (call_name call)) calls ≡ flat_map (λ name. string name ∷ []) names = sym (map-map string call_name calls) ∙ sym (flat_map_single string names) in
    on_ok_weaker c.end_array.result (list-written Data.string names _ _ _ _ begun (passed ∙ ap (λ ts. c.begin_array.new.self.tokens ++ ts) same)) c.end_array.ensures.ok
