use Rattle.std.proofs.Common.{rules, ◌≡◌, [], ◌++◌, ap, ◌∙◌}
use Rattle.json.specs.Print.{print}
use Rattle.serde_json.proofs.Texts.{print-outline}
use Rattle.jb_saved.specs.SavedTree.{tokens_of}
use Rattle.jb_slice_run.specs.{HeaderText.{header_tree}, Held.{header_in}}
use Rattle.jb_slice_run.proofs.text.header_text.Goals as goal

pub returns : goal.returns
returns c =
    let tree = header_tree (header_in c.args.header.now) in
    let before : c.write_header.new.out.before ≡ [] = search rules in
    let tokens : c.write_header.new.out.tokens ≡ tokens_of tree = c.in_ok-write_header.ensures.header ∙ ap (λ ts. ts ++ tokens_of tree) c.new-out.ensures.tokens in
    c.in_ok-text.ensures ∙ c.into_inner.ensures.items ∙ (λ i. before i ++ print (tokens i)) ∙ print-outline tree
