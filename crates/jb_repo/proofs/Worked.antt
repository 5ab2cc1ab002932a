-- The worked lists of events, computed.
use Rattle.std.proofs.Common.{◌≡◌, [], ◌∷◌, Some, None, refl}
use Rattle.jb_cert.specs.declared.certificates.Certificate.TheVariants.{Longest}
use Rattle.jb_base.specs.declared.class.ClassId.{ClassId}
use Rattle.jb_repo.specs.declared.events.Event.TheVariants.{Plan, Begin}
use Rattle.jb_repo.specs.declared.refused.Refused.TheVariants.{NotIdle, LaneBusy, BadDelta, PastPlan, BadPlan, Full}
use Rattle.jb_plan.specs.Blocks.{blocks}
use Rattle.jb_repo.specs.Rows.{total_counts}
use Rattle.jb_repo.specs.Table.{rows_of}
use Rattle.jb_repo.specs.Worked.{table_answers, journal_after}
use Rattle.jb_repo.specs.Worked.{fresh, two_partitions, walk, answered, finished, four_records, rollback, given_up, one_record, tries, tried_out, at_limit}
use Rattle.jb_repo.specs.Worked.{EndedPlans, skipped_writes}

pub answers_in_order : table_answers two_partitions (walk 0 1) ≡ answered
unfolding blocks
answers_in_order = refl

pub answers_in_the_other_order : table_answers two_partitions (walk 1 0) ≡ answered
unfolding blocks
answers_in_the_other_order = refl

pub rows_in_order : rows_of (journal_after two_partitions (walk 0 1)) ≡ finished 0 2 ∷ finished 2 4 ∷ []
unfolding blocks
rows_in_order = refl

pub rows_in_the_other_order : rows_of (journal_after two_partitions (walk 1 0)) ≡ finished 0 2 ∷ finished 2 4 ∷ []
unfolding blocks
rows_in_the_other_order = refl

pub totals : total_counts (finished 0 2 ∷ finished 2 4 ∷ []) ≡ record { read = 4; write = 4; commit = 2; rollback = 0; read_skip = 0; process_skip = 0; filter = 0; write_skip = 0 }
totals = refl

pub answers_after_a_rollback : (class : ClassId) → table_answers four_records (rollback class) ≡ None ∷ None ∷ None ∷ Some LaneBusy ∷ None ∷ Some PastPlan ∷ Some BadPlan ∷ None ∷ []
unfolding blocks
answers_after_a_rollback class = refl

pub rows_given_up : rows_of (journal_after two_partitions given_up) ≡ finished 0 2 ∷ fresh 2 4 ∷ []
unfolding blocks
rows_given_up = refl

pub answers_to_tries : (class : ClassId) → table_answers one_record (tries class)
    ≡ None ∷ None ∷ None ∷ None ∷ None ∷ None ∷ None ∷ None ∷ None ∷ None ∷ None ∷ None ∷ Some NotIdle ∷ None ∷ []
unfolding blocks
answers_to_tries class = refl

pub row_after_tries : (class : ClassId) → rows_of (journal_after one_record (tries class)) ≡ tried_out ∷ []
unfolding blocks
row_after_tries class = refl

pub answers_at_limit : table_answers at_limit (Plan 1 (Longest 0) ∷ Begin 0 0 ∷ []) ≡ None ∷ Some Full ∷ []
unfolding blocks
answers_at_limit = refl

pub ended_plans : EndedPlans
unfolding blocks
ended_plans = record {
  rolled = λ class. refl;
  failed = λ class. refl;
  dropped = refl;
  stopped = refl;
  committed = refl;
  later_rolled = λ class. refl;
  later_failed = λ class. refl;
  later_dropped = refl;
  later_stopped = refl;
  later_committed = refl;
}

pub answers_to_skipped_writes : table_answers two_partitions skipped_writes ≡ None ∷ None ∷ Some BadDelta ∷ Some BadDelta ∷ Some BadDelta ∷ None ∷ []
unfolding blocks
answers_to_skipped_writes = refl
