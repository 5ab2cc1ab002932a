use Rattle.std.proofs.Common.{◌≡◌, ◌∙◌, ◌∷◌, ◌++◌, [], ap, arith, map, rules, set}
use Rattle.std.proofs.lemmas.List.{map-append}
use Rattle.jb_records.proofs.Putting.{not-put, put-none, putting}
use Rattle.jb_records.proofs.partition_results.+put_all.Goals as goal
use Rattle.jb_records.proofs.partition_results.+put_all.Goals.{then-index-partition_results, else-index-partition_results}

pub returns-after-index-partition_results : goal.returns-after-index-partition_results
returns-after-index-partition_results g t c =
    let popped : c.args.artifacts.now.items ≡ c.pop.new.self.items ++ (c.in-Some.partition, c.in-Some.last) ∷ [] = search rules in
    let all = ap (map _) popped ∙ map-append _ c.pop.new.self.items ((c.in-Some.partition, c.in-Some.last) ∷ []) in
    putting _ _ _ _ _ _ all (
    elim c.if-index-partition_results.branch [
      | then-index-partition_results w ↦ w.partition_results-is ∙ ap (set c.args.partition_results.now c.in-Some.partition) w.into_written.ensures
          ∙ (λ i. set c.args.partition_results.now c.in-Some.partition ((w.into_artifacts.ensures i).inner.writer.written))
      | else-index-partition_results w ↦ w.partition_results-is ∙ not-put c.args.partition_results.now c.in-Some.partition _ (let past = w.if-index-partition_results.false in omega (arith, past))
    ]) c.put_all.ensures

pub returns-in_default : goal.returns-in_default
returns-in_default g t c =
    let none : c.args.artifacts.now.items ≡ [] = search rules in
    put-none _ _ (ap (map _) none)
