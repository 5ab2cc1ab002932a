use Rattle.std.proofs.Common.{refl}
use Rattle.std.specs.Fmt.{digits}
use Rattle.jb_plan.specs.Blocks.{blocks}
use Rattle.jb_artifacts.specs.Faults.{used_at}
use Rattle.jb_chunk.specs.Attempt.{end_of, asks_repeat, repeated_up_to, all_repeated, artifacts_used}
use Rattle.jb_chunk.specs.Block.{entry, results, count_of, settles, settling, used_between}
use Rattle.jb_step_tests.proofs.collect.worked_rows.Goals as goal

pub returns-clause-first_run : goal.returns-clause-first_run
unfolding end_of asks_repeat repeated_up_to all_repeated settling settles entry results count_of artifacts_used used_between used_at digits blocks
returns-clause-first_run c = refl

pub returns-clause-one_failed : goal.returns-clause-one_failed
unfolding end_of asks_repeat repeated_up_to all_repeated settling settles entry results count_of artifacts_used used_between used_at digits blocks
returns-clause-one_failed c = refl

pub returns-clause-stopped : goal.returns-clause-stopped
unfolding end_of asks_repeat repeated_up_to all_repeated settling settles entry results count_of artifacts_used used_between used_at digits blocks
returns-clause-stopped c = refl

pub returns-clause-no_record : goal.returns-clause-no_record
returns-clause-no_record c = record { begun = refl; restarted = refl }

pub returns-clause-rolled_back : goal.returns-clause-rolled_back
unfolding end_of asks_repeat repeated_up_to all_repeated settling settles entry results count_of artifacts_used used_between used_at digits blocks
returns-clause-rolled_back c = refl

pub returns-clause-taken : goal.returns-clause-taken
returns-clause-taken c = record {
  all = (refl, (refl, (refl, refl)));
  up_to_a_fault = (refl, (refl, (refl, refl)));
  last_faulted = (refl, (refl, (refl, (refl, refl))));
  not_past_a_fault = λ taken. let never = taken.1.1.1 in cc;
  not_one_short = λ taken. taken.1.1;
  not_one_more = λ taken. taken.1;
  not_exchanged = λ taken. let never = taken.0 in cc;
}

pub returns-clause-listed : goal.returns-clause-listed
returns-clause-listed c = record { second = refl; later = refl; never = refl }

pub returns-clause-reducer : goal.returns-clause-reducer
returns-clause-reducer c = record {
  begin_fails = λ overrides stands fails. refl;
  completed = refl;
  before_fails = refl;
  stopped = λ fails. refl;
  failed = λ fails. refl;
  discarding = refl;
}

pub returns-clause-reducer_faults : goal.returns-clause-reducer_faults
returns-clause-reducer_faults c = record { before = refl; not_before = refl }
