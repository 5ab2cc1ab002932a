use Rattle.std.proofs.Common.{◌≡◌, ℕ, ◌⊎◌, inl, inr, List, Some, None, Ok, Err, Result, IfOk, IfErr, sym, ap, ◌∙◌}
use Rattle.std.proofs.lemmas.Option.{same_Some}
use Rattle.json.specs.Value.{value_view}
use Rattle.serde_json.specs.Data.{Data}
use Rattle.serde_json.specs.View.{view}
use Rattle.serde_json.specs.declared.value.Value.{Value}
use Rattle.jb_job.specs.declared.error.JobError.{JobError}
use Rattle.jb_job.specs.declared.error.JobError.TheVariants as error
use Rattle.jb_job.specs.Reading.{tree_of}
use Rattle.jb_documents.specs.inside.Borrowed.{seen}
use Rattle.jb_documents.proofs.TextTrees.{printed}
use Rattle.jb_documents.proofs.borrowed.owned.Goals as goal

value_is : (bytes : List ℕ) (d : Data) (result : Result Value JobError) → tree_of bytes ≡ Some d → IfOk result (λ v. tree_of bytes ≡ Some (view v)) → IfOk result (λ v. view v ≡ d)
value_is bytes d (Ok v) is read = same_Some (view v) d (sym read ∙ is)
value_is bytes d (Err e) is read = tt

no_text : (bytes : List ℕ) (d : Data) (e : JobError) → tree_of bytes ≡ Some d → (e ≡ error.Memory) ⊎ ((e ≡ error.NotJson) × (tree_of bytes ≡ None)) → e ≡ error.Memory
no_text bytes d e is (inl memory) = memory
no_text bytes d e is (inr none) = absurd (cc (sym is ∙ none.1))

memory_only : (bytes : List ℕ) (d : Data) (result : Result Value JobError) → tree_of bytes ≡ Some d
    → IfErr result (λ e. (e ≡ error.Memory) ⊎ ((e ≡ error.NotJson) × (tree_of bytes ≡ None))) → IfErr result (λ e. e ≡ error.Memory)
memory_only bytes d (Ok v) is refused = tt
memory_only bytes d (Err e) is refused = no_text bytes d e is refused

pub returns : goal.returns
returns c =
    let text = c.in_ok-text.text.items in
    let tree : Data = seen c.args.tree.now in
    let is : tree_of c.deref.result.now ≡ Some tree = ap tree_of c.deref.ensures.value ∙ printed text (value_view c.args.tree.now) c.requires c.in_ok-text.ensures.utf8 c.in_ok-text.ensures.text in
    record {
      value = value_is c.deref.result.now tree c.read_tree.result is c.read_tree.ensures.ok;
      memory = memory_only c.deref.result.now tree c.read_tree.result is c.read_tree.ensures.err;
    }
