-- Lists of events and their answers, on which the definitions are computed.
use Rattle.std.specs.Prelude.{ℕ, List, [], ◌∷◌, ◌++◌, replicate, ◌≡◌, Option, Some, None, is_none, if◌then◌else◌}
use Rattle.jb_rules.specs.declared.counts.Counts.{Counts}
use Rattle.jb_rules.specs.declared.row.Row.{Row}
use Rattle.jb_base.specs.Limits.{max_rollbacks}
use Rattle.jb_rules.specs.declared.row.RowState.TheVariants.{Waiting, Finished, Failed}
use Rattle.jb_cert.specs.declared.certificates.Certificate.TheVariants.{Nothing, Longest, FullLoad}
use Rattle.jb_base.specs.declared.class.ClassId.{ClassId}
use Rattle.jb_repo.specs.declared.events.Event.{Event}
use Rattle.jb_repo.specs.Deltas.{delta_of}
use Rattle.jb_repo.specs.declared.events.Event.TheVariants.{Plan, Begin, Commit, Roll, Fail, Drop, Round, Stop}
use Rattle.jb_repo.specs.declared.refused.Refused.{Refused}
use Rattle.jb_repo.specs.declared.refused.Refused.TheVariants.{Stopping, NoPartition, LaneRange, LaneBusy, NotIdle, NotRunning, BadDelta, StillRunning, PastPlan, BadPlan}
use Rattle.jb_rules.specs.Counts.{no_counts}
use Rattle.jb_repo.specs.Table.{Journal, refusal, after}
use Rattle.jb_repo.specs.Openable.{opened_journal}

abbrev pub fresh : ℕ → ℕ → Row
fresh lo hi = record { lo = lo; hi = hi; at = lo; redo = lo; retries = 0; written = 0; counts = no_counts; in_place = 0; state = Waiting }

-- TWO PARTITIONS OF ONE CHUNK

-- two partitions of two records each, two threads, chunks of two items
abbrev pub two_partitions : Journal
two_partitions = opened_journal (fresh 0 2 ∷ fresh 2 4 ∷ []) 2 2

-- what a chunk of two records adds that are both written
abbrev pub two_records : Counts
two_records = record { read = 2; write = 2; commit = 1; rollback = 0; read_skip = 0; process_skip = 0; filter = 0; write_skip = 0 }

abbrev pub begins : List Event
begins =
    Plan 2 FullLoad ∷ Plan 1 (Longest 0) ∷ Begin 0 0 ∷ Begin 1 0 ∷ Begin 0 1 ∷ Begin 2 1 ∷ Begin 1 2 ∷ Begin 1 1 ∷ Round ∷ []

-- both commits, in either order
abbrev pub both_commits : (first second : ℕ) → List Event
both_commits first second = Commit first (delta_of two_records) 1 0 ∷ Commit first (delta_of two_records) 2 0 ∷ Commit second (delta_of two_records) 2 0 ∷ []

abbrev pub ends : List Event
ends = Commit 0 (delta_of two_records) 2 0 ∷ Round ∷ Round ∷ Stop ∷ Plan 0 Nothing ∷ []

abbrev pub walk : (first second : ℕ) → List Event
walk first second = begins ++ both_commits first second ++ ends

-- the answers to the walk, whichever commit comes first
abbrev pub answered : List (Option Refused)
answered =
    Some BadPlan ∷ None ∷ None ∷ Some NotIdle ∷ Some LaneBusy ∷ Some LaneRange ∷ Some NoPartition ∷ None ∷ Some StillRunning
    ∷ Some BadDelta ∷ None ∷ None ∷ Some NotRunning ∷ None ∷ Some PastPlan ∷ None ∷ Some Stopping ∷ []

abbrev pub finished : ℕ → ℕ → Row
finished lo hi = record { lo = lo; hi = hi; at = hi; redo = lo; retries = 0; written = 2; counts = two_records; in_place = 0; state = Finished }

-- one partition of four records, in one chunk
abbrev pub four_records : Journal
four_records = opened_journal (fresh 0 4 ∷ []) 1 4

-- a rollback ends the plan after its round, and the chunk is done again record by record
abbrev pub rollback : ClassId → List Event
rollback class =
    Plan 1 (Longest 0) ∷ Begin 0 0 ∷ Roll 0 class 0 ∷ Begin 0 0 ∷ Round ∷ Begin 0 0 ∷ Plan 3 (Longest 0) ∷ Plan 4 (Longest 0) ∷ []

-- a chunk that is given up: the plan is closed after its round, and the row waits where it was
abbrev pub given_up : List Event
given_up = Plan 1 (Longest 0) ∷ Begin 0 0 ∷ Begin 1 1 ∷ Commit 0 (delta_of two_records) 2 0 ∷ Drop 1 ∷ Round ∷ []

-- partition 0 is rolled back, and partition 1 fails
abbrev pub one_failed : (rolled failed : ClassId) → List Event
one_failed rolled failed = Plan 1 (Longest 0) ∷ Begin 0 0 ∷ Begin 1 1 ∷ Roll 0 rolled 0 ∷ Fail 1 failed 0 ∷ []

-- PLANS THAT ARE ENDED WITH ROUNDS LEFT

-- two partitions of four records each, two threads, chunks of two items: two rounds
abbrev pub two_rounds_past : Journal
two_rounds_past = opened_journal (fresh 0 4 ∷ fresh 4 8 ∷ []) 2 2

-- the other chunk of the first round is ended by `ends`; then the next round
abbrev pub ended_at_first : List Event → List Event
ended_at_first ends =
    Plan 2 FullLoad ∷ Begin 0 0 ∷ Begin 1 1 ∷ Commit 1 (delta_of two_records) 2 0 ∷ (ends ++ Round ∷ Begin 1 1 ∷ Round ∷ [])

-- two partitions of three records each, two threads, chunks of one item: three rounds
abbrev pub three_rounds : Journal
three_rounds = opened_journal (fresh 0 3 ∷ fresh 3 6 ∷ []) 2 1

-- what a chunk of one record adds that is written
abbrev pub one_record_written : Counts
one_record_written = record no_counts { read = 1; write = 1; commit = 1 }

-- the other chunk of the second round is ended by `ends`; then the third round
abbrev pub ended_at_second : List Event → List Event
ended_at_second ends =
    Plan 3 (Longest 1) ∷ Begin 0 0 ∷ Begin 1 1 ∷ Commit 0 (delta_of one_record_written) 1 0 ∷ Commit 1 (delta_of one_record_written) 1 0 ∷ Round
    ∷ Begin 0 1 ∷ Begin 1 0 ∷ Commit 0 (delta_of one_record_written) 2 0 ∷ (ends ++ Round ∷ Begin 0 1 ∷ Round ∷ [])

-- so many events are accepted, and then no chunk is started and no round ends
abbrev pub no_further : ℕ → List (Option Refused)
no_further n = replicate n None ++ Some PastPlan ∷ Some PastPlan ∷ []

-- so many events are accepted, and then a round may not end since a chunk was started
abbrev pub further : ℕ → List (Option Refused)
further n = replicate n None ++ Some StillRunning ∷ []

-- so many events are accepted, and then no chunk is started since a stop was asked for, and no round ends
abbrev pub stopping : ℕ → List (Option Refused)
stopping n = replicate n None ++ Some Stopping ∷ Some PastPlan ∷ []

-- SKIPPED WRITE CALLS

-- what a chunk of two records adds whose write call is skipped
abbrev pub write_skipped : (written filtered : ℕ) → Counts
write_skipped written filtered = record no_counts { read = 2; write = written; commit = 1; filter = filtered; write_skip = 1 }

-- a skipped write call had results, writes none of them, and leaves the number of results
abbrev pub skipped_writes : List Event
skipped_writes =
    Plan 1 (Longest 0) ∷ Begin 0 0 ∷ Commit 0 (delta_of (write_skipped 1 0)) 1 0 ∷ Commit 0 (delta_of (write_skipped 0 2)) 0 0 ∷ Commit 0 (delta_of (write_skipped 0 0)) 2 0
    ∷ Commit 0 (delta_of (write_skipped 0 1)) 0 0 ∷ []

-- OTHER ENDS

-- one record that fails after two rollbacks
abbrev pub one_record : Journal
one_record = opened_journal (fresh 0 1 ∷ []) 1 1

abbrev pub tries : ClassId → List Event
tries class =
    Plan 1 (Longest 0) ∷ Begin 0 0 ∷ Roll 0 class 0 ∷ Round ∷ Plan 1 (Longest 0) ∷ Begin 0 0 ∷ Roll 0 class 0 ∷ Round
    ∷ Plan 1 (Longest 0) ∷ Begin 0 0 ∷ Fail 0 class 0 ∷ Round ∷ Begin 0 0 ∷ Plan 0 Nothing ∷ []

abbrev pub tried_out : Row
tried_out = record (fresh 0 1) { redo = 1; retries = 2; counts = record no_counts { rollback = 3 }; state = Failed }

-- a partition at its limit of rollbacks
abbrev pub at_limit : Journal
at_limit = record one_record { opening = record (fresh 0 1) { counts = record no_counts { rollback = max_rollbacks } } ∷ [] }

-- the table's answers where memory is ample
abbrev pub table_answers : Journal → List Event → List (Option Refused)
table_answers j [] = []
table_answers j (e ∷ events) = refusal j e ∷ table_answers (if is_none (refusal j e) then after j e else j) events

abbrev pub journal_after : Journal → List Event → Journal
journal_after j [] = j
journal_after j (e ∷ events) = journal_after (if is_none (refusal j e) then after j e else j) events

-- VALUES

-- A plan of two rounds that is ended in its first one, and a plan of three that is ended in its second; a Commit ends neither
pub record EndedPlans : Type 0 where
  pub rolled : (class : ClassId) → table_answers two_rounds_past (ended_at_first (Roll 0 class 0 ∷ [])) ≡ no_further 6
  pub failed : (class : ClassId) → table_answers two_rounds_past (ended_at_first (Fail 0 class 0 ∷ [])) ≡ no_further 6
  pub dropped : table_answers two_rounds_past (ended_at_first (Drop 0 ∷ [])) ≡ no_further 6
  pub stopped : table_answers two_rounds_past (ended_at_first (Commit 0 (delta_of two_records) 2 0 ∷ Stop ∷ [])) ≡ stopping 7
  pub committed : table_answers two_rounds_past (ended_at_first (Commit 0 (delta_of two_records) 2 0 ∷ [])) ≡ further 7
  pub later_rolled : (class : ClassId) → table_answers three_rounds (ended_at_second (Roll 1 class 0 ∷ [])) ≡ no_further 11
  pub later_failed : (class : ClassId) → table_answers three_rounds (ended_at_second (Fail 1 class 0 ∷ [])) ≡ no_further 11
  pub later_dropped : table_answers three_rounds (ended_at_second (Drop 1 ∷ [])) ≡ no_further 11
  pub later_stopped : table_answers three_rounds (ended_at_second (Stop ∷ Commit 1 (delta_of one_record_written) 2 0 ∷ [])) ≡ stopping 12
  pub later_committed : table_answers three_rounds (ended_at_second (Commit 1 (delta_of one_record_written) 2 0 ∷ [])) ≡ further 12
