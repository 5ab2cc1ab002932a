use Rattle.std.proofs.Common.{sym, refl}
use Rattle.jb_artifacts.specs.declared.faults.FaultPlan.TheVariants.{Sound}
use Rattle.jb_artifacts.proofs.FaultTables.{used_at-sound}
use Rattle.bills.specs.Bills.{bill_of}
use Rattle.bills.proofs.processor.BillProcessorItemProcessor.process_item.Goals as goal

pub returns-clause-answered : goal.returns-clause-answered
returns-clause-answered c =
    (refl, c.in_ok-bill.ensures, λ i. record { answer = λ _ usage. bill_of c.args.self.now.tariff usage; faults = sym (used_at-sound (λ _. Sound) c.args._number refl) i })
