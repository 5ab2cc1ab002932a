use Rattle.std.proofs.Common.{◌≡◌, ℕ, List, ◌++◌, [], drop, length, map, ap, sym, ◌∙◌, append-nil, arith}
use Rattle.std.specs.Arc.{arc_value}
use Rattle.std.proofs.lemmas.List.{drop_all, length-map}
use Rattle.jb_step.specs.preparing.Setup.{unfinished}
use Rattle.jb_program.specs.PartitionRun.{opening_artifacts_for}
use Rattle.jb_program.proofs.Own.{own_artifacts}
use Rattle.jb_program.proofs.run.artifacts.all_artifacts.Goals as goal

pub loop-place-preserved : goal.loop-place-preserved
loop-place-preserved c = c.in_ok-add_artifacts.ensures ∙ c.loop-place.invariant

pub returns : goal.returns
returns c =
    let rows = c.args.prepared.now.rows in
    let artifacts = opening_artifacts_for c.args.step.now (arc_value c.in_ok-shared.shared) c.args.outputs.now in
    let counted : length c.needs-place-end.result.now ≡ length (unfinished rows) = ap length c.needs-place-end.ensures ∙ length-map (unfinished rows) (λ n. n.0) in
    let none : drop c.loop-place.place (unfinished rows) ≡ [] = drop_all c.loop-place.place (unfinished rows) (omega (arith, counted, c.loop-place-test.false)) in
    sym (append-nil (map own_artifacts c.loop-place.all.items)) ∙ ap (λ later. map own_artifacts c.loop-place.all.items ++ map artifacts later) (sym none) ∙ c.loop-place.invariant
    ∙ ap (λ (records : List (List ℕ)). map (opening_artifacts_for c.args.step.now records c.args.outputs.now) (unfinished rows)) c.in_ok-shared.ensures.ok
