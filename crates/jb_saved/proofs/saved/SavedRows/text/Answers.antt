use Rattle.std.proofs.Common.{rules, ◌≡◌, [], ◌++◌, sym, ap, subst, ◌∙◌}
use Rattle.std.specs.Str.{IsUtf8}
use Rattle.std.proofs.lemmas.Result.{IfOk-weaker}
use Rattle.json.specs.Print.{print}
use Rattle.serde_json.specs.Read.{read}
use Rattle.serde_json.proofs.Texts.{print-outline}
use Rattle.jb_job.specs.Reading.{tree_of}
use Rattle.jb_job.proofs.Texts.{tree_of-read}
use Rattle.jb_saved.specs.SavedTree.{saved_tree, tokens_of}
use Rattle.jb_saved.proofs.TextRead.{text-read}
use Rattle.jb_saved.proofs.saved.SavedRows.text.Goals as goal

pub returns-clause-text : goal.returns-clause-text
returns-clause-text c =
    let out = c.write_saved.new.out in
    let before : out.before ≡ [] = search rules in
    let tokens : out.tokens ≡ tokens_of (saved_tree c.args.self.now) = search rules in
    let bytes = c.into_inner.ensures.items ∙ ap (λ b. b ++ print out.tokens) before ∙ ap print tokens ∙ print-outline (saved_tree c.args.self.now) in
    IfOk-weaker c.text_of.result _ _ (λ s is. is ∙ bytes) c.text_of.ensures

pub returns-clause-reads_back : goal.returns-clause-reads_back
returns-clause-reads_back c =
    let out = c.write_saved.new.out in
    let before : out.before ≡ [] = search rules in
    let tokens : out.tokens ≡ tokens_of (saved_tree c.args.self.now) = search rules in
    let printed : c.into_inner.result.items ≡ print out.tokens = c.into_inner.ensures.items ∙ ap (λ b. b ++ print out.tokens) before in
    let bytes = printed ∙ ap print tokens ∙ print-outline (saved_tree c.args.self.now) in
    let utf8 = subst IsUtf8 (sym printed) c.into_inner.ensures.utf8 in
    let back = tree_of-read c.into_inner.result.items (saved_tree c.args.self.now) utf8 (ap read bytes ∙ text-read c.args.self.now c.rows.ensures.kept) in
    IfOk-weaker c.text_of.result _ _ (λ s is. ap tree_of is ∙ back) c.text_of.ensures
