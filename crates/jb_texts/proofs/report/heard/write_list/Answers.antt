use Rattle.std.proofs.Common.{rules, ◌≡◌, ◌++◌, ◌∷◌, [], map, ap, ◌∙◌}
use Rattle.std.proofs.lemmas.Result.{on_ok_weaker}
use Rattle.json.specs.Token.{begin_array}
use Rattle.serde_json.specs.Data.{Data}
use Rattle.jb_texts.specs.Report.{heard_text}
use Rattle.jb_texts.proofs.Heard.{texts-of}
use Rattle.jb_saved.proofs.Written.{list-written}
use Rattle.jb_texts.proofs.report.heard.write_list.Goals as goal

pub returns-clause-list : goal.returns-clause-list
returns-clause-list c =
    let calls = c.args.calls.now in
    let begun : c.begin_array.new.self.tokens ≡ c.args.out.now.tokens ++ begin_array ∷ [] = search rules in
    let texts = c.in_ok-write_calls.ensures.texts ∙ ap (λ ts. c.begin_array.new.self.tokens ++ ts) (texts-of (λ one. one.now) calls) in
    on_ok_weaker c.end_array.result (list-written Data.string (map heard_text (map (λ one. one.now) calls)) _ _ _ _ begun texts) c.end_array.ensures.ok
