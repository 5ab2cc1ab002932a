use Rattle.jb_repo.proofs.Worked.{answers_in_order, answers_in_the_other_order, rows_in_order, rows_in_the_other_order, totals, answers_after_a_rollback, rows_given_up, answers_to_tries, row_after_tries, answers_at_limit, ended_plans, answers_to_skipped_writes}
use Rattle.jb_tests.proofs.repo.worked_lists.Goals as goal

pub returns : goal.returns
returns c = record {
  in_order = answers_in_order;
  other_order = answers_in_the_other_order;
  rows = rows_in_order;
  same_rows = rows_in_the_other_order;
  totals = totals;
  rolled_back = answers_after_a_rollback;
  given_up = rows_given_up;
  tries = answers_to_tries;
  failed = row_after_tries;
  at_limit = answers_at_limit;
  ended_plans = ended_plans;
  skipped_writes = answers_to_skipped_writes;
}
