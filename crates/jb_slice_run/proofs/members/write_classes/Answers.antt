use Rattle.std.proofs.{Common.{append_assoc, decimal, ◌∷◌, ◌++◌, [], ap, ◌∙◌}, lemmas.List.Concat.{flat_map_single}}
use Rattle.json.specs.Token.{begin_array, end_array, number}
use Rattle.jb_job.specs.JobTree.{number_tree}
use Rattle.jb_saved.proofs.Written.{list-tokens}
use Rattle.jb_slice_run.specs.Members.{classes_in}
use Rattle.jb_slice_run.proofs.members.write_classes.Goals as goal

pub returns-clause-classes : goal.returns-clause-classes
returns-clause-classes c =
    let classes = classes_in c.args.set in
    let tokens = list-tokens number_tree classes ∙ ap (λ ts. begin_array ∷ (ts ++ end_array ∷ [])) (flat_map_single (λ class. number (decimal class)) classes) in
    simp (c.in_ok-end_array.ensures.ok, c.in_ok-write_members.ensures.classes, c.in_ok-begin_array.ensures.ok, tokens, append_assoc)
