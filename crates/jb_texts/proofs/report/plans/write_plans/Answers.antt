use Rattle.std.proofs.Common.{rules, ◌≡◌, ◌++◌, ◌∷◌, [], flat_map}
use Rattle.std.proofs.lemmas.Result.{on_ok_weaker}
use Rattle.json.specs.Token.{begin_array}
use Rattle.jb_saved.specs.SavedTree.{tokens_of}
use Rattle.jb_texts.specs.Report.{note_tree}
use Rattle.jb_saved.proofs.Written.{list-written}
use Rattle.jb_texts.proofs.report.plans.write_plans.Goals as goal

pub returns-clause-plans : goal.returns-clause-plans
returns-clause-plans c =
    let begun : c.begin_array.new.self.tokens ≡ c.args.out.now.tokens ++ begin_array ∷ [] = search rules in
    let passed : c.write_members.new.out.tokens ≡ c.begin_array.new.self.tokens ++ flat_map (λ note. tokens_of (note_tree note)) c.args.notes.now = search rules in
    on_ok_weaker c.end_array.result (list-written note_tree c.args.notes.now _ _ _ _ begun passed) c.end_array.ensures.ok
