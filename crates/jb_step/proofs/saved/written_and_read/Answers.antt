use Rattle.std.proofs.Common.{◌≡◌, ℕ, List, Some, Ok, subst, sym, ap, ◌∙◌}
use Rattle.jb_job.specs.Reading.{tree_of}
use Rattle.jb_saved.specs.Reading.{answer_of}
use Rattle.jb_saved.specs.SavedTree.{saved_tree}
use Rattle.jb_step.proofs.restarts.ReadBack.{gives}
use Rattle.jb_step.proofs.saved.written_and_read.Goals as goal

pub returns : goal.returns
returns c =
    let s = c.args.saved.now in
    let bytes = c.as_bytes.result.now in
    let tree = subst (λ (xs : List ℕ). tree_of xs ≡ Some (saved_tree s)) (sym c.as_bytes.ensures.value) c.in_ok-text.ensures.reads_back in
    let answer : answer_of (tree_of bytes) ≡ Ok s = ap answer_of tree ∙ c.answers_are_computed.ensures.tree s c.rows-rows.ensures.kept in
    gives (answer_of (tree_of bytes)) s answer c.read_saved.result c.read_saved.ensures
