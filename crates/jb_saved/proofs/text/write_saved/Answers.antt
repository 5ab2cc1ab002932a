use Rattle.std.proofs.Common.{rules, ◌≡◌, ◌++◌, ◌∷◌, [], decimal}
use Rattle.std.specs.Prelude.{codes}
use Rattle.std.proofs.lemmas.Result.{on_ok_weaker}
use Rattle.json.specs.Token.{begin_object, key, number, string}
use Rattle.jb_saved.specs.SavedTree.{rows_tree, tokens_of}
use Rattle.jb_saved.proofs.Written.{object-written}
use Rattle.jb_saved.proofs.text.write_saved.Goals as goal

pub returns-clause-saved : goal.returns-clause-saved
returns-clause-saved c =
    let begun : c.begin_object.new.self.tokens ≡ c.args.out.now.tokens ++ begin_object ∷ [] = search rules in
    let rows-key : c.key.new.self.tokens ≡ c.begin_object.new.self.tokens ++ key (codes "rows") ∷ [] = search rules in
    let rows : c.write_rows.new.out.tokens ≡ c.key.new.self.tokens ++ tokens_of (rows_tree c.args.rows.now) = c.in_ok-write_rows.ensures.rows in
    let step-key : c.key-2.new.self.tokens ≡ c.write_rows.new.out.tokens ++ key (codes "step") ∷ [] = search rules in
    let step : c.string.new.self.tokens ≡ c.key-2.new.self.tokens ++ string c.args.id.now ∷ [] = search rules in
    let version-key : c.key-3.new.self.tokens ≡ c.string.new.self.tokens ++ key (codes "version") ∷ [] = search rules in
    let version : c.u64.new.self.tokens ≡ c.key-3.new.self.tokens ++ number (decimal 2) ∷ [] = search rules in
    on_ok_weaker c.end_object.result (object-written _ _ _ _ _ _ _ (tokens_of (rows_tree c.args.rows.now)) c.args.out.now.tokens _ _ _ _ _ _ _ _ begun rows-key rows step-key step version-key version) c.end_object.ensures.ok
