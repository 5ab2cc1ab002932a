use Rattle.std.proofs.Common.{rules, ◌≡◌, ◌++◌, ◌∷◌, [], map, flat_map, ap, ◌∙◌}
use Rattle.std.proofs.lemmas.Result.{on_ok_weaker}
use Rattle.std.specs.List.{range_with_len}
use Rattle.json.specs.Token.{begin_array}
use Rattle.jb_saved.specs.SavedTree.{tokens_of}
use Rattle.jb_texts.specs.Report.{heard_about, heard_text, results_tree}
use Rattle.jb_texts.proofs.Heard.{lists-of}
use Rattle.jb_saved.proofs.Written.{list-written}
use Rattle.jb_texts.proofs.report.heard.write_heard.Goals as goal

pub returns-clause-heard : goal.returns-clause-heard
returns-clause-heard c =
    let calls = c.args.calls.now in
    let ps = range_with_len 0 c.args.partitions in
    let begun : c.begin_array.new.self.tokens ≡ c.args.out.now.tokens ++ begin_array ∷ [] = search rules in
    let lists = lists-of (λ list. map (λ one. one.now) list.items) c.in_ok-lists.lists.items calls ps c.in_ok-lists.ensures in
    let seen = ap (flat_map (λ list. tokens_of (results_tree (map heard_text (map (λ one. one.now) list.items))))) c.deref.ensures.value in
    let passed = c.in_ok-write_lists.ensures.lists ∙ ap (λ ts. c.begin_array.new.self.tokens ++ ts) (seen ∙ lists) in
    on_ok_weaker c.end_array.result (list-written (heard_about calls) ps _ _ _ _ begun passed) c.end_array.ensures.ok
