use Rattle.std.proofs.Common.{rules, ◌≡◌, ◌++◌, ◌∷◌, [], ap, sym, ◌∙◌, subst, zero-add}
use Rattle.std.specs.Prelude.{option_map}
use Rattle.std.proofs.lemmas.List.{map-append}
use Rattle.std.proofs.lemmas.List.Elements.{filter_map-append}
use Rattle.jb_step.specs.Tables.{ArePlaced, held_in}
use Rattle.jb_step.specs.inside.table.Places.{table_in}
use Rattle.jb_step.proofs.table.Held.{placed-more}
use Rattle.jb_step.proofs.preparing.start.add_place.Goals as goal

more : (g : _) (c : goal.In_ok-push g) → table_in g.T.PartitionTask.task_state c.push.new.self.items ≡ table_in g.T.PartitionTask.task_state c.args.places.now.items ++ table_in g.T.PartitionTask.task_state (c.args.place ∷ [])
more g c =
    let all : c.push.new.self.items ≡ c.args.places.now.items ++ c.args.place ∷ [] = search rules in
    ap (table_in g.T.PartitionTask.task_state) all ∙ map-append (option_map g.T.PartitionTask.task_state) c.args.places.now.items (c.args.place ∷ [])

pub returns-clause-items : goal.returns-clause-items
returns-clause-items g c = ap held_in (more g c) ∙ filter_map-append _ (table_in g.T.PartitionTask.task_state c.args.places.now.items) (table_in g.T.PartitionTask.task_state (c.args.place ∷ []))

pub returns-clause-placed : goal.returns-clause-placed
returns-clause-placed g c before here =
    subst (ArePlaced 0) (sym (more g c)) (placed-more g.T.PartitionTask.task_state 0 c.args.places.now.items c.args.place before (subst (λ n. ArePlaced n (table_in g.T.PartitionTask.task_state (c.args.place ∷ []))) (sym (zero-add _)) here))
