use Rattle.std.proofs.{Common.{rules}, lemmas.List.Sorted.{IsNonDecreasingBy-from_sort_by_key}}
use Rattle.jb_csv_job.proofs.skipped.all_faults.Goals as goal

pub returns-clause-rising : goal.returns-clause-rising
returns-clause-rising c = IsNonDecreasingBy-from_sort_by_key (λ fault. fault.number) _ c.in_ok-sort_by_key.ensures.sorted (λ a r q k. search rules)
