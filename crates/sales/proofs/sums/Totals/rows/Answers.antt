use Rattle.std.proofs.Common.{IfOk, List, subst}
use Rattle.jb_rows.specs.Answers.{all_results}
use Rattle.sales.specs.Amounts.{Amount}
use Rattle.sales.specs.Sales.{answer_by}
use Rattle.sales.specs.Totals.{AreTotals}
use Rattle.sales.proofs.OneMore.{as-records}
use Rattle.sales.proofs.Payments.{payments}
use Rattle.sales.proofs.sums.Totals.rows.Goals as goal

pub returns : goal.returns
returns c = record {
  totals = λ results so_far. as-records results c.args.self.now.by_customer c.rows.result so_far c.rows.ensures;
  sold = λ prices lines so_far.
      subst (λ (amounts : List Amount). IfOk c.rows.result (AreTotals amounts)) (payments prices lines) (as-records (all_results (answer_by prices) lines) c.args.self.now.by_customer c.rows.result so_far c.rows.ensures);
}
