-- Worked rows: what the definitions give for whole steps, computed apart from any code. Records are the letters a, b, c,
-- .., the processor puts an x before each, and faults are of the class E.
use Rattle.std.specs.Prelude.{◌≡◌, ◌≤◌, ℕ, true, false, Ok, List, [], ◌∷◌, ◌++◌, Some, None, codes, length, map}
use Rattle.jb_base.specs.declared.range.Range.{Range}
use Rattle.jb_base.specs.Rules.{RulesRecord}
use Rattle.jb_artifacts.specs.declared.faults.FaultPlan.TheVariants.{Bad, Shaky}
use Rattle.jb_artifacts.specs.Faults.{FaultTable}
use Rattle.jb_artifacts.specs.Meaning.{ArtifactsMeaning}
use Rattle.jb_cert.specs.declared.certificates.Certificate.{Certificate}
use Rattle.jb_cert.specs.declared.certificates.Certificate.TheVariants.{Longest, FullLoad}
use Rattle.jb_cert.specs.Lawful.{Pair}
use Rattle.jb_chunk.specs.TaskState.{TaskState}
use Rattle.jb_chunk.specs.Worked.{class_e, sound, only, strict, rules_of, one_skip, two_bad, artifacts_from, numbers}
use Rattle.jb_collect.specs.declared.calls.Status.{Status}
use Rattle.jb_collect.specs.declared.calls.Status.TheVariants as status
use Rattle.jb_collect.specs.declared.calls.AnalyzerCall.{AnalyzerCall}
use Rattle.jb_collect.specs.declared.calls.AnalyzerCall.TheVariants as call
use Rattle.jb_collect.specs.declared.calls.ReducerCall.{ReducerCall}
use Rattle.jb_collect.specs.declared.calls.ReducerCall.TheVariants.{Begin, Before, Rollback, After}
use Rattle.jb_collect.specs.declared.calls.PartitionStatus.TheVariants as end
use Rattle.jb_collect.specs.ReducerCalls.{reducer_calls, rolled_back}
use Rattle.jb_collect.specs.AnsweredCalls.{AnsweredCall, well, faulted}
use Rattle.jb_rules.specs.declared.row.Row.{Row}
use Rattle.jb_repo.specs.declared.snapshot.Snapshot.{Snapshot}
use Rattle.jb_saved.specs.SavedRows.{SavedRows}
use Rattle.jb_step.specs.declared.error.StepError.TheVariants as step_error
use Rattle.jb_cert.specs.declared.notes.PlanNote.{PlanNote}
use Rattle.jb_step.specs.Answers.{AreCallsInPart, artifacts_of, tasks_left}
use Rattle.jb_step.specs.callbacks.Heard.{heard}
use Rattle.jb_step.specs.preparing.Prepare.{AreCallsAtRefusal, AreCallsBefore}
use Rattle.jb_step.specs.rounds.Runs.{PlanRun, AreOver, ArePlanRuns, IsPlanRun, note_of, table_after, events_of}
use Rattle.jb_step.specs.preparing.Setup.{Setup, overrides, needs, first_table, first_tasks, fresh_rows, gone_on, opening_rows, rows_now}
use Rattle.jb_step.specs.Short.{IsShort, all_attempts_left}
use Rattle.jb_step.specs.Statuses.{status_of}
use Rattle.jb_step.specs.Tables.{Table, held_in}
use Rattle.jb_step.specs.restarts.StepRuns.{artifacts_restarted}

-- THE STEPS

abbrev pub range : ℕ → ℕ → Range
range lo hi = record { lo = lo; hi = hi }

-- a step that begins from the start on these ranges
abbrev pub step : RulesRecord → (item_count threads : ℕ) → List Range → Setup
step rules item_count threads ranges = record {
  rows = fresh_rows ranges;
  rules = rules;
  item_count = item_count;
  threads = threads;
  is_fresh = true;
}

-- a run of a step: what it begins with, and its plans
pub record WorkedRun : Type 0 where
  pub step : Setup
  pub start : Table
  pub plans : List PlanRun

abbrev pub run_of : Setup → List ArtifactsMeaning → List PlanRun → WorkedRun
run_of step artifacts plans = record { step = step; start = first_table step artifacts; plans = plans }

-- its tasks and all rows at its end, and the artifacts as it hands them back
abbrev pub tasks_at_end : WorkedRun → List TaskState
tasks_at_end r = held_in (table_after r.plans r.start)

abbrev pub rows_at_last : WorkedRun → List Row
rows_at_last r = rows_now r.step.rows (tasks_at_end r)

abbrev pub handed_back : WorkedRun → List (ℕ × ArtifactsMeaning)
handed_back r = artifacts_of (tasks_at_end r)

abbrev pub saved_of : WorkedRun → SavedRows
saved_of r = record { step = codes "s"; rows = rows_at_last r }

-- the step is restarted where a run left it, with these artifacts, or with those that were handed back
abbrev pub resumed_run : WorkedRun → List ArtifactsMeaning → List PlanRun → WorkedRun
resumed_run r artifacts plans = run_of (record r.step { rows = opening_rows [] (Some (saved_of r)); is_fresh = false }) artifacts plans

abbrev pub resumed_as_left : WorkedRun → List PlanRun → WorkedRun
resumed_as_left r plans = resumed_run r (artifacts_restarted (tasks_at_end r)) plans

-- the tasks of a run, as a run that restarted them left them
abbrev pub left_by_both : WorkedRun → WorkedRun → List TaskState
left_by_both first later = tasks_left (tasks_at_end first) (rows_at_last later) (handed_back later)

abbrev pub outputs_left : List (ℕ × ArtifactsMeaning) → List (ℕ × List (List ℕ))
outputs_left left = map (λ a. (a.0, a.1.writer.written)) left

-- the artifacts of a partition that an earlier run wrote this of
abbrev pub artifacts_with : (lo : ℕ) → (processes : FaultTable) → (written : List (List ℕ)) → ArtifactsMeaning
artifacts_with lo processes written = record (artifacts_from lo sound processes sound) { writer = record { written = written; faults = sound } }

abbrev pub clean : ℕ → ArtifactsMeaning
clean lo = artifacts_with lo sound []

-- seven records in three partitions, item count 2
abbrev pub seven_in_three : (threads : ℕ) → Setup
seven_in_three threads = step strict 2 threads (range 0 3 ∷ range 3 5 ∷ range 5 7 ∷ [])

-- THEIR RUNS

abbrev pub plan_run : Certificate → (rounds : List (List Pair)) → (ran : ℕ) → PlanRun
plan_run certificate rounds ran = record { certificate = certificate; rounds = rounds; ran = ran }

-- rounds of one chunk each: the first ones of these partitions, and these ones of the first partition
abbrev pub first_chunks : (partitions : List ℕ) → List (List Pair)
first_chunks partitions = map (λ p. (p, 0) ∷ []) partitions

abbrev pub chunks : (numbers : List ℕ) → List (List Pair)
chunks numbers = map (λ n. (0, n) ∷ []) numbers

abbrev pub run_of_seven : (threads : ℕ) → List PlanRun → WorkedRun
run_of_seven threads plans = run_of (seven_in_three threads) (clean 0 ∷ clean 3 ∷ clean 5 ∷ []) plans

-- on two threads, and on one
abbrev pub two_rounds : List (List Pair)
two_rounds = ((0, 0) ∷ (1, 0) ∷ []) ∷ ((0, 1) ∷ (2, 0) ∷ []) ∷ []

abbrev pub four_rounds : List (List Pair)
four_rounds = ((0, 0) ∷ []) ∷ ((0, 1) ∷ []) ∷ ((1, 0) ∷ []) ∷ ((2, 0) ∷ []) ∷ []

abbrev pub whole_seven : WorkedRun
whole_seven = run_of_seven 2 (plan_run (Longest 0) two_rounds 2 ∷ [])

abbrev pub single_seven : WorkedRun
single_seven = run_of_seven 1 (plan_run FullLoad four_rounds 4 ∷ [])

-- stopped after one round, and restarted
abbrev pub stopped_seven : WorkedRun
stopped_seven = run_of_seven 2 (plan_run (Longest 0) two_rounds 1 ∷ [])

abbrev pub rest_plans : List PlanRun
rest_plans = plan_run (Longest 0) (((0, 0) ∷ (2, 0) ∷ []) ∷ []) 1 ∷ []

abbrev pub rest_of_seven : WorkedRun
rest_of_seven = resumed_run stopped_seven (artifacts_with 0 sound (codes "xa" ∷ codes "xb" ∷ []) ∷ clean 5 ∷ []) rest_plans

-- on one thread, stopped after each round and restarted
abbrev pub first_run : WorkedRun
first_run = run_of_seven 1 (plan_run FullLoad four_rounds 1 ∷ [])

abbrev pub second_run : WorkedRun
second_run = resumed_as_left first_run (plan_run FullLoad (first_chunks (0 ∷ 1 ∷ 2 ∷ [])) 1 ∷ [])

abbrev pub third_run : WorkedRun
third_run = resumed_as_left second_run (plan_run FullLoad (first_chunks (1 ∷ 2 ∷ [])) 1 ∷ [])

abbrev pub fourth_run : WorkedRun
fourth_run = resumed_as_left third_run (plan_run (Longest 2) (first_chunks (2 ∷ [])) 1 ∷ [])

-- Six records in two partitions; records 0 and 3 always fail, and one may be skipped. This is the run whose one partition fails, and its
-- restart with no faults.
abbrev pub failed_six : WorkedRun
failed_six =
    run_of (step (one_skip 1 0) 2 2 (range 0 4 ∷ range 4 6 ∷ [])) (artifacts_with 0 two_bad [] ∷ artifacts_with 4 two_bad [] ∷ [])
    (plan_run (Longest 0) (((0, 0) ∷ (1, 0) ∷ []) ∷ ((0, 1) ∷ []) ∷ []) 2 ∷ [])

abbrev pub rest_of_six : WorkedRun
rest_of_six = resumed_run failed_six (artifacts_with 0 sound (codes "xb" ∷ []) ∷ []) (plan_run (Longest 0) (chunks (0 ∷ [])) 1 ∷ [])

-- one partition without a record
abbrev pub empty_run : WorkedRun
empty_run = run_of (step strict 10 1 (range 0 0 ∷ [])) [] []

-- four records; record 2 fails once and is retryable
abbrev pub retried_run : WorkedRun
retried_run =
    run_of (step (rules_of 0 1) 4 1 (range 0 4 ∷ [])) (artifacts_with 0 (only 2 (Shaky (class_e ∷ []))) [] ∷ [])
    (plan_run (Longest 0) (chunks (0 ∷ [])) 1 ∷ plan_run (Longest 0) (chunks (0 ∷ 1 ∷ 2 ∷ 3 ∷ [])) 4 ∷ [])

-- four records; record 1 always fails, is retryable, and one may be skipped
abbrev pub skipped_run : WorkedRun
skipped_run =
    run_of (step (one_skip 1 1) 2 1 (range 0 4 ∷ [])) (artifacts_with 0 (only 1 (Bad class_e)) [] ∷ [])
    (plan_run (Longest 0) (chunks (0 ∷ 1 ∷ [])) 1 ∷ plan_run (Longest 0) (chunks (0 ∷ 1 ∷ 2 ∷ [])) 3 ∷ [])

-- WHAT THE DEFINITIONS GIVE

abbrev pub note : Certificate → ℕ → ℕ → PlanNote
note certificate planned ran = record { certificate = certificate; planned = planned; ran = ran }

-- at, redo, retries, written, READ, WRITE, COMMIT, ROLLBACK, PROCESS_SKIP, in rows without other counts
abbrev pub row_numbers : ℕ → ℕ → ℕ → ℕ → ℕ → ℕ → ℕ → ℕ → ℕ → List ℕ
row_numbers at redo retries written read write commit rollback process_skip =
    at ∷ redo ∷ retries ∷ written ∷ read ∷ write ∷ commit ∷ rollback ∷ 0 ∷ process_skip ∷ 0 ∷ 0 ∷ 0 ∷ []

abbrev pub text_heard : ℕ → List ℕ → AnalyzerCall
text_heard p t = call.Collected p t

abbrev pub status_heard : ℕ → Status → AnalyzerCall
status_heard p s = call.Status p s

-- the partition's last chunk was committed: its text, the one at its end, and its status
abbrev pub completed : ℕ → List ℕ → List AnalyzerCall
completed p t = text_heard p t ∷ text_heard p (t ++ codes ":end") ∷ status_heard p status.Completed ∷ []

-- what a run of a step gives: its notes, its rows, the analyzer's calls, the status, and the reducer's calls if no callback fails
pub record Given : Type 0 where
  pub notes : List PlanNote
  pub rows : List (List ℕ)
  pub calls : List AnalyzerCall
  pub status : Status
  pub reduced : List ReducerCall

abbrev pub given_by : WorkedRun → Given
given_by r = record {
  notes = map note_of r.plans;
  rows = map numbers (rows_at_last r);
  calls = heard r.step r.start r.plans;
  status = status_of (rows_at_last r) false;
  reduced = reducer_calls true false (status_of (rows_at_last r) false) false;
}

abbrev pub GivesRun : WorkedRun → List PlanNote → (rows : List (List ℕ)) → List AnalyzerCall → Status → List ReducerCall → Type 0
GivesRun r notes rows calls status reduced =
    ArePlanRuns r.step r.start r.plans × (given_by r ≡ record { notes = notes; rows = rows; calls = calls; status = status; reduced = reduced })

abbrev pub committed : List ReducerCall
committed = Begin ∷ Before ∷ After end.Commit ∷ []

abbrev pub undone : List ReducerCall
undone = Begin ∷ Rollback ∷ After end.Rollback ∷ []

abbrev pub seven_rows : List (List ℕ)
seven_rows = row_numbers 3 0 0 3 3 3 2 0 0 ∷ row_numbers 5 3 0 2 2 2 1 0 0 ∷ row_numbers 7 5 0 2 2 2 1 0 0 ∷ []

-- seven records in three partitions, on two threads
pub record SevenRecords : Type 0 where
  pub gives :
      GivesRun whole_seven (note (Longest 0) 2 2 ∷ []) seven_rows
      (text_heard 0 (codes "0:2:2") ∷ completed 1 (codes "1:5:2") ++ completed 0 (codes "0:3:3") ++ completed 2 (codes "2:7:2"))
      status.Completed committed
  pub over : AreOver whole_seven.start whole_seven.plans
  pub events : events_of whole_seven.plans whole_seven.start ≡ 11

-- the same on one thread
pub record SevenOnOneThread : Type 0 where
  pub gives :
      GivesRun single_seven (note FullLoad 4 4 ∷ []) seven_rows
      (text_heard 0 (codes "0:2:2") ∷ completed 0 (codes "0:3:3") ++ completed 1 (codes "1:5:2") ++ completed 2 (codes "2:7:2"))
      status.Completed committed
  pub over : AreOver single_seven.start single_seven.plans
  pub events : events_of single_seven.plans single_seven.start ≡ 13

-- the same, stopped after one round, and restarted
pub record StoppedAndRestarted : Type 0 where
  pub stopped :
      GivesRun stopped_seven (note (Longest 0) 2 1 ∷ [])
      (row_numbers 2 0 0 2 2 2 1 0 0 ∷ row_numbers 5 3 0 2 2 2 1 0 0 ∷ row_numbers 5 5 0 0 0 0 0 0 0 ∷ [])
      (text_heard 0 (codes "0:2:2") ∷ completed 1 (codes "1:5:2") ++ status_heard 0 status.Stopped ∷ status_heard 2 status.Stopped ∷ [])
      status.Stopped undone
  pub needed : needs rest_of_seven.step.rows ≡ 0 ∷ 2 ∷ []
  pub restarted :
      GivesRun rest_of_seven (note (Longest 0) 1 1 ∷ []) seven_rows
      (completed 0 (codes "0:3:3") ++ completed 2 (codes "2:7:2"))
      status.Completed committed
  -- the rows are those of the run that nothing stopped, and so are the outputs
  pub rows : rows_at_last rest_of_seven ≡ rows_at_last whole_seven
  pub outputs :
      outputs_left (artifacts_of (left_by_both stopped_seven (resumed_as_left stopped_seven rest_plans)))
      ≡ (0, codes "xa" ∷ codes "xb" ∷ codes "xc" ∷ []) ∷ (1, codes "xd" ∷ codes "xe" ∷ []) ∷ (2, codes "xf" ∷ codes "xg" ∷ []) ∷ []

-- on one thread, with a limit of one round, in four runs
pub record OneRoundEach : Type 0 where
  pub first :
      GivesRun first_run (note FullLoad 4 1 ∷ [])
      (row_numbers 2 0 0 2 2 2 1 0 0 ∷ row_numbers 3 3 0 0 0 0 0 0 0 ∷ row_numbers 5 5 0 0 0 0 0 0 0 ∷ [])
      (text_heard 0 (codes "0:2:2") ∷ status_heard 0 status.Stopped ∷ status_heard 1 status.Stopped ∷ status_heard 2 status.Stopped ∷ [])
      status.Stopped undone
  pub second :
      GivesRun second_run (note FullLoad 3 1 ∷ [])
      (row_numbers 3 0 0 3 3 3 2 0 0 ∷ row_numbers 3 3 0 0 0 0 0 0 0 ∷ row_numbers 5 5 0 0 0 0 0 0 0 ∷ [])
      (completed 0 (codes "0:3:3") ++ status_heard 1 status.Stopped ∷ status_heard 2 status.Stopped ∷ [])
      status.Stopped undone
  pub third :
      GivesRun third_run (note FullLoad 2 1 ∷ [])
      (row_numbers 3 0 0 3 3 3 2 0 0 ∷ row_numbers 5 3 0 2 2 2 1 0 0 ∷ row_numbers 5 5 0 0 0 0 0 0 0 ∷ [])
      (completed 1 (codes "1:5:2") ++ status_heard 2 status.Stopped ∷ [])
      status.Stopped undone
  pub fourth : GivesRun fourth_run (note (Longest 2) 1 1 ∷ []) seven_rows (completed 2 (codes "2:7:2")) status.Completed committed

-- one failed partition, and its restart
pub record OneFailed : Type 0 where
  pub failed :
      GivesRun failed_six (note (Longest 0) 2 2 ∷ [])
      (row_numbers 2 0 0 1 2 1 1 1 1 ∷ row_numbers 6 4 0 2 2 2 1 0 0 ∷ [])
      (text_heard 0 (codes "0:2:1") ∷ completed 1 (codes "1:6:2") ++ status_heard 0 status.Failed ∷ [])
      status.Failed undone
  pub needed : needs rest_of_six.step.rows ≡ 0 ∷ []
  pub restarted :
      GivesRun rest_of_six (note (Longest 0) 1 1 ∷ [])
      (row_numbers 4 0 0 3 4 3 2 1 1 ∷ row_numbers 6 4 0 2 2 2 1 0 0 ∷ [])
      (completed 0 (codes "0:4:3"))
      status.Completed committed

-- no record at all
abbrev pub NoRecord : Type 0
NoRecord = GivesRun empty_run [] (row_numbers 0 0 0 0 0 0 0 0 0 ∷ []) (status_heard 0 status.Completed ∷ []) status.Completed committed

-- a retry rolls back to single records
pub record Retried : Type 0 where
  pub gives :
      GivesRun retried_run (note (Longest 0) 1 1 ∷ note (Longest 0) 4 4 ∷ []) (row_numbers 4 4 1 4 4 4 4 1 0 ∷ [])
      (text_heard 0 (codes "0:1:1") ∷ text_heard 0 (codes "0:2:2") ∷ text_heard 0 (codes "0:3:3") ∷ completed 0 (codes "0:4:4"))
      status.Completed committed
  pub events : events_of retried_run.plans retried_run.start ≡ 17

-- a skip in the single-record redo: the first plan ends with its first round
abbrev pub Skipped : Type 0
Skipped =
    GivesRun skipped_run (note (Longest 0) 2 1 ∷ note (Longest 0) 3 3 ∷ []) (row_numbers 4 2 1 3 4 3 3 1 1 ∷ [])
    (text_heard 0 (codes "0:1:1") ∷ text_heard 0 (codes "0:2:1") ∷ completed 0 (codes "0:4:3"))
    status.Completed committed

-- WHAT IS NO RUN OF A STEP

pub record Refused : Type 0 where
  -- four rounds where two are enough: one chunk in each
  pub slow : (plan : PlanRun) → length plan.rounds ≡ 4 → IsPlanRun whole_seven.step whole_seven.start plan → ⊥
  -- a plan that continues after a rollback
  pub kept : IsPlanRun skipped_run.step skipped_run.start (plan_run (Longest 0) (chunks (0 ∷ 1 ∷ [])) 2) → ⊥
  -- a plan that was left with a round to run, and another after it
  pub dropped : ArePlanRuns stopped_seven.step stopped_seven.start (stopped_seven.plans ++ plan_run FullLoad [] 0 ∷ []) → ⊥

-- HOW SHORT A RUN IS

-- four records and two, with one retry in each partition: eight attempts
abbrev pub six_with_retries : List TaskState
six_with_retries = first_tasks (step (record (rules_of 0 1) { retry_limit = 1 }) 4 2 (range 0 4 ∷ range 4 6 ∷ [])) (clean 0 ∷ clean 4 ∷ [])

-- two plans of eight rounds together
abbrev pub eight_rounds : List PlanNote
eight_rounds = note (Longest 0) 1 1 ∷ note (Longest 0) 7 7 ∷ []

pub record ShortRuns : Type 0 where
  pub left : all_attempts_left six_with_retries ≡ 8
  -- up to 32 events, and any number if the run was stopped
  pub few : (s : Snapshot) → s.events ≤ 32 → IsShort six_with_retries eight_rounds s
  pub many : (s : Snapshot) → s.stopping ≡ false → s.events ≡ 33 → IsShort six_with_retries eight_rounds s → ⊥
  pub stopped : (s : Snapshot) → s.stopping ≡ true → IsShort six_with_retries eight_rounds s
  -- a plan of which no round was run, and a ninth round
  pub idle : (s : Snapshot) → IsShort six_with_retries (note (Longest 0) 1 0 ∷ []) s → ⊥
  pub long : (s : Snapshot) → IsShort six_with_retries (note (Longest 0) 9 9 ∷ []) s → ⊥

-- THE REDUCER'S CALLS WHERE THERE IS NO ANSWER

-- the step is rolled back; the first of its calls is answered with a fault, or both are answered well
abbrev pub faulted_rollback : List (AnsweredCall ReducerCall)
faulted_rollback = faulted Rollback class_e ∷ well (After end.Rollback) ∷ []

abbrev pub well_rollback : List (AnsweredCall ReducerCall)
well_rollback = map well rolled_back

-- of `prepare`, which was refused a plan of the mapper's, or found no memory
abbrev pub AfterMapper : List (AnsweredCall ReducerCall) → Type 0
AfterMapper taken = AreCallsAtRefusal (step_error.Mapper class_e) taken

abbrev pub WithoutMemory : List (AnsweredCall ReducerCall) → Type 0
WithoutMemory taken = AreCallsAtRefusal step_error.Memory taken

pub record CallsOfPrepare : Type 0 where
  pub rolled_back : AfterMapper (well Begin ∷ faulted_rollback)
  pub not_after_a_fault : AfterMapper (faulted Begin class_e ∷ well_rollback) → ⊥
  pub not_left_so : AfterMapper (well Begin ∷ []) → ⊥
  pub nothing : WithoutMemory []
  pub begin_alone : WithoutMemory (well Begin ∷ [])
  pub one_more : WithoutMemory (well Begin ∷ well (After end.Rollback) ∷ [])
  pub not_unbegun : WithoutMemory well_rollback → ⊥
  pub not_exchanged : WithoutMemory (well Begin ∷ well (After end.Rollback) ∷ well Rollback ∷ []) → ⊥

-- of `prepare`, whose reducer answered a fault
abbrev pub AfterReducer : List (AnsweredCall ReducerCall) → Type 0
AfterReducer taken = AreCallsAtRefusal (step_error.Reducer class_e) taken

-- and which refused nothing, and discarded what was saved
abbrev pub AfterOverride : List (AnsweredCall ReducerCall) → Type 0
AfterOverride taken = AreCallsBefore {A = Unit {0}} true (Ok tt) taken

pub record CallsOfOverride : Type 0 where
  pub begin_failed : AfterReducer (faulted Begin class_e ∷ [])
  pub rollback_failed : AfterReducer (well Begin ∷ faulted_rollback)
  pub not_twice : AfterReducer (well Begin ∷ faulted Rollback class_e ∷ well_rollback) → ⊥
  pub not_well : AfterReducer (well Begin ∷ well_rollback) → ⊥
  pub discarded : AfterOverride (well Begin ∷ well Rollback ∷ [])
  pub not_begun_alone : AfterOverride (well Begin ∷ []) → ⊥
  pub not_rolled_back_first : AfterOverride (well Rollback ∷ well Begin ∷ []) → ⊥

-- seven records in three partitions after a round, restarted in two partitions: the saved rows are resumed, or are discarded
abbrev pub two_ranges : List Range
two_ranges = range 0 4 ∷ range 4 7 ∷ []

pub record Overridden : Type 0 where
  pub goes_on : opening_rows two_ranges (gone_on false (Some (saved_of stopped_seven))) ≡ rest_of_seven.step.rows
  pub anew : opening_rows two_ranges (gone_on true (Some (saved_of stopped_seven))) ≡ fresh_rows two_ranges
  pub discarded : overrides true (Some (saved_of stopped_seven)) ≡ true
  pub no_override : overrides false (Some (saved_of stopped_seven)) ≡ false
  pub first_run : overrides true None ≡ false

-- of `run_step` without memory
pub record CallsWithoutMemory : Type 0 where
  pub rolled_back : AreCallsInPart faulted_rollback
  pub before_failed : AreCallsInPart (faulted Before class_e ∷ well (After end.Rollback) ∷ [])
  pub before_alone : AreCallsInPart (well Before ∷ [])
  pub not_after_it : AreCallsInPart (well Before ∷ well_rollback) → ⊥
  pub not_committed : AreCallsInPart (well Before ∷ well (After end.Commit) ∷ []) → ⊥
  pub not_exchanged : AreCallsInPart (well (After end.Rollback) ∷ well Rollback ∷ []) → ⊥

abbrev pub WorkedRows : Type 0
WorkedRows =
    SevenRecords × SevenOnOneThread × StoppedAndRestarted × OneRoundEach × OneFailed × NoRecord × Retried × Skipped × Refused
    × ShortRuns × CallsOfPrepare × CallsOfOverride × Overridden × CallsWithoutMemory
