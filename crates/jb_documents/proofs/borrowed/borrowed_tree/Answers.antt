use Rattle.std.proofs.Common.{◌≡◌, [], false, true, Some, refl, inr, sym, ap, ◌∙◌}
use Rattle.json.specs.Json.{value}
use Rattle.json.specs.Lex.{tokens}
use Rattle.json.specs.Value.{value_view}
use Rattle.serde_json.specs.Read.{max_depth}
use Rattle.jb_documents.specs.inside.Borrowed.{in_range}
use Rattle.jb_documents.proofs.TextTrees.{text_read, past_range, no_text}
use Rattle.jb_documents.proofs.borrowed.borrowed_tree.Goals as goal

pub returns-in_default-clause-refused : goal.returns-in_default-clause-refused
returns-in_default-clause-refused c = inr (refl, no_text c.args.bytes.now c.in_default.ensures.cases.0)

pub returns-then-is_in_range-clause-tree : goal.returns-then-is_in_range-clause-tree
returns-then-is_in_range-clause-tree c =
    let bytes = c.args.bytes.now in
    let tree = value_view c.in-Ok-read.tree in
    let whole : c.in_ok-reader.reader ≡ tokens bytes = c.in_ok-reader.ensures.ok ∙ ap tokens c.in-Ok.ensures.cases.0 in
    let read : value max_depth (tokens bytes) ≡ Some (tree, []) = ap (value max_depth) (sym whole) ∙ c.in-Ok-read.ensures.ok ∙ ap (λ ts. Some (tree, ts)) c.in-None.ensures.value.0 in
    let inside : in_range tree ≡ true = sym c.is_in_range.ensures ∙ c.if-is_in_range.true in
    text_read bytes tree c.in-Ok.ensures.cases.1 read inside

pub returns-clause-refused : goal.returns-clause-refused
returns-clause-refused c =
    let bytes = c.args.bytes.now in
    let tree = value_view c.in-Ok-read.tree in
    let whole : c.in_ok-reader.reader ≡ tokens bytes = c.in_ok-reader.ensures.ok ∙ ap tokens c.in-Ok.ensures.cases.0 in
    let read : value max_depth (tokens bytes) ≡ Some (tree, []) = ap (value max_depth) (sym whole) ∙ c.in-Ok-read.ensures.ok ∙ ap (λ ts. Some (tree, ts)) c.in-None.ensures.value.0 in
    let outside : in_range tree ≡ false = sym c.is_in_range.ensures ∙ c.if-is_in_range.false in
    inr (refl, past_range bytes tree read outside)
