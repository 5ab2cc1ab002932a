-- What was added up is of all sales.
use Rattle.std.proofs.Common.{◌≡◌, ℕ, List, [], map, refl, subst, sym, Option}
use Rattle.jb_csv_job.specs.Done.{HasTakenAll}
use Rattle.jb_csv_job.specs.Tasks.{given_by}
use Rattle.jb_csv_job.specs.declared.asked.Asked.{Asked}
use Rattle.jb_rows.specs.Fields.{Fields, fields_in, packed}
use Rattle.jb_slices.specs.Function.{all_results}
use Rattle.sales.specs.Amounts.{Amount}
use Rattle.sales.specs.Sales.{answer_by}
use Rattle.sales.specs.Totals.{AreTotalsSoFar, HaveAdded}
use Rattle.totals.specs.Adding.{HasAdded}
use Rattle.totals.specs.Job.{AreAdded, totals_job}
use Rattle.totals.specs.declared.adding.Adding.{Adding}
use Rattle.totals.proofs.Given.{given-results}

added-to-none : (start totals : List Amount) (results : List Fields) → start ≡ [] → HaveAdded start totals results → AreTotalsSoFar results totals
added-to-none start totals results none added = added [] (subst (AreTotalsSoFar []) (sym none) (record { whole = refl; sums = refl }))

pub all-added : (prices : List Amount) (stamp : List ℕ) (asked : Asked) (text : Option (List ℕ)) (start now : Adding) → start.totals.by_customer ≡ []
    → HasTakenAll (totals_job prices stamp asked) text (HasAdded start now) → AreAdded prices asked text now
all-added prices stamp asked text start now none all = record {
  lines = all.records;
  read = all.read;
  added = λ well.
      subst (λ (results : List Fields). AreTotalsSoFar results now.totals.by_customer) (given-results asked.task (answer_by prices) all.records)
      (added-to-none start.totals.by_customer now.totals.by_customer (map fields_in (given_by asked.task (all_results (answer_by prices) (map packed all.records)))) none (all.taken well));
}
