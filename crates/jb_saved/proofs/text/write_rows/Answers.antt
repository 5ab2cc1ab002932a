use Rattle.std.proofs.Common.{rules, ◌≡◌, ◌++◌, ◌∷◌, [], flat_map}
use Rattle.std.proofs.lemmas.Result.{on_ok_weaker}
use Rattle.json.specs.Token.{begin_array}
use Rattle.jb_saved.specs.SavedTree.{row_tree, tokens_of}
use Rattle.jb_saved.proofs.Written.{list-written}
use Rattle.jb_saved.proofs.text.write_rows.Goals as goal

pub returns-clause-rows : goal.returns-clause-rows
returns-clause-rows c =
    let begun : c.begin_array.new.self.tokens ≡ c.args.out.now.tokens ++ begin_array ∷ [] = search rules in
    let passed : c.write_members.new.out.tokens ≡ c.begin_array.new.self.tokens ++ flat_map (λ row. tokens_of (row_tree row)) c.args.rows.now = search rules in
    on_ok_weaker c.end_array.result (list-written row_tree c.args.rows.now _ _ _ _ begun passed) c.end_array.ensures.ok
