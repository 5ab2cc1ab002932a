use Rattle.std.proofs.Common.{◌≡◌, ◌++◌, ap, sym, refl, rules, Some}
use Rattle.jb_artifacts.specs.declared.faults.FaultPlan.TheVariants.{Sound}
use Rattle.jb_artifacts.proofs.FaultTables.{used_at-sound}
use Rattle.jb_tests.proofs.chunk.own.DoublerItemProcessor.process_item.Goals as goal

pub returns-clause-answered : goal.returns-clause-answered
returns-clause-answered c =
    let twice : c.from_vec.result ≡ c.args.item.now ++ c.args.item.now = search rules in
    (refl, ap Some twice, λ i. record { answer = λ _ item. Some (item ++ item); faults = sym (used_at-sound (λ _. Sound) c.args._number refl) i })
