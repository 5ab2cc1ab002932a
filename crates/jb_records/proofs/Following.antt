-- Rows that follow the rules, over a run of the step and at its end.
use Rattle.std.proofs.Common.{◌≡◌, ℕ, zero, suc, ◌+◌, ◌<◌, Bool, true, false, not, cond, List, [], ◌∷◌, length, map, Option, None, Some, Result, Ok, Err, refl, ap, sym, subst, ◌∙◌, arith, ◌⊎◌, inl, inr}
use Rattle.std.specs.Prelude.{◌==◌, ◌||◌, slice_get}
use Rattle.std.specs.List.{AllByRecursion, enumerate_from, list_any}
use Rattle.jb_base.specs.Rules.{RulesRecord}
use Rattle.jb_base.specs.declared.class.ClassId.{ClassId}
use Rattle.jb_base.specs.declared.range.Range.{Range}
use Rattle.jb_chunk.specs.Laws.{RepeatsAreRetries, TasksStandAtCheckpoints, WaysJoin}
use Rattle.jb_chunk.specs.TaskState.{TaskState}
use Rattle.jb_collect.specs.declared.calls.Status.TheVariants as status
use Rattle.jb_job.specs.Reading.{tree_of}
use Rattle.jb_plan.specs.declared.plan.PartitionPlan.{PartitionPlan}
use Rattle.jb_ready.specs.declared.notes.Note.{Note}
use Rattle.jb_rules.specs.Decide.{has_class}
use Rattle.jb_rules.specs.Rows.{dropped_row, range_of}
use Rattle.jb_rules.specs.States.{is_failed, is_finished}
use Rattle.jb_rules.specs.declared.row.Row.{Row}
use Rattle.jb_rules.specs.declared.row.RowState.{RowState}
use Rattle.jb_rules.specs.declared.row.RowState.TheVariants as state
use Rattle.jb_saved.specs.GoingOn.{restarted, rows_restarted}
use Rattle.jb_saved.specs.Reading.{answer_of}
use Rattle.jb_saved.specs.SavedRows.{SavedRows}
use Rattle.jb_slices.specs.Deciding.{FailsDont, SkipsPass}
use Rattle.jb_slices.specs.Function.{Pass}
use Rattle.jb_slices.specs.Job.{IsRaised}
use Rattle.jb_slices.proofs.Raising.{still-few}
use Rattle.jb_step.specs.Alone.{AreOnTheWay}
use Rattle.jb_step.specs.Statuses.{status_of}
use Rattle.jb_step.specs.preparing.Prepare.{IsPreparation}
use Rattle.jb_step.specs.preparing.Setup.{Setup, first_tasks, fresh_rows, gone_on, opening_rows, row_now, unfinished}
use Rattle.jb_step.specs.rounds.PlanLaws.{AreTasksOf, BeginsWithRows, BeginsWithTasks}
use Rattle.jb_records.specs.Artifacts.{record_of}
use Rattle.jb_records.specs.declared.step.RecordsStep.{RecordsStep}
use Rattle.jb_records.specs.Following.{AreRulesRaised, FollowRules, FollowsRules, HasFailed, IsStop, RangePasses, RangesPass, RowsPass, StepPasses, classes_between, ranges_of}
use Rattle.jb_records.specs.StoppedRuns.{FollowAgain, HoldsStoppedRun}
use Rattle.jb_records.specs.FollowingLaws.{FailedRowsDont, FinishedRowsPass, NewRowsFollow, RaisedRulesFollow, RangesStay, RestartsKeepRanges, RulesAreKept, StoppedRowsDont, StopsAreOne}
use Rattle.jb_records.specs.Function.{Function, IsSteady, refusal_of}
use Rattle.jb_records.specs.Made.{even_partitions, step_record}
use Rattle.jb_records.specs.Runs.{PartsStay, ResultsGoOn}
use Rattle.jb_records.specs.PartitionResults.{AreAtTheirEnds, ArePartitionResults, IsSoFar}
use Rattle.jb_records.specs.Steps.{StartsFresh}
use Rattle.jb_records.specs.inside.Following.{GoesOnByRules}
use Rattle.jb_records.proofs.EachRow.{TasksStay, rows-stay}
use Rattle.jb_records.proofs.Leading.{way-follows}
use Rattle.jb_records.proofs.Passing.{fewer-pass, first-passes}
use Rattle.jb_records.proofs.Resuming.{same-held}
use Rattle.jb_records.proofs.Skipping.{skips-none}
use Rattle.jb_records.proofs.Steps.{HaveResults, all-begun, first-ruled, range-kept}

-- ---- A RUN OF THE STEP

module _ (skip : SkipsPass) (fail : FailsDont) (stand : TasksStandAtCheckpoints) (join : WaysJoin) (law : RepeatsAreRetries) (goes : ResultsGoOn) (parts : PartsStay) where
  tasks-follow : (f : Function) (records : List (List ℕ)) (s : Setup) → IsSteady f → (ts now : List TaskState) → AreTasksOf s ts → HaveResults f records ts → AllByRecursion (λ (t : TaskState). t.rules ≡ s.rules) ts
      → AreOnTheWay ts now → TasksStay (FollowsRules f s.rules records) ts now
  tasks-follow f records s steady [] [] ready have ruled ways = tt
  tasks-follow f records s steady [] (x ∷ xs) ready have ruled ways = absurd ways
  tasks-follow f records s steady (t ∷ ts) [] ready have ruled ways = absurd ways
  tasks-follow f records s steady (t ∷ ts) (x ∷ xs) ready have ruled ways = (
    way-follows skip fail stand join law goes f records s.rules t x steady ready.0.0 have.0 ruled.0 ways.0,
    tasks-follow f records s steady ts xs ready.1 have.1 ruled.1 ways.1,
  )

  pub rules-kept : BeginsWithTasks → BeginsWithRows → RulesAreKept
  rules-kept begins same f records partition_results s artifacts ends steady is fit are ways so-far follow =
      let ready = (begins s artifacts is fit).tasks in
      let ts = first_tasks s artifacts in
      let begun = all-begun f records partition_results s 0 s.rows partition_results artifacts so-far.each (λ i share get. let e : i ≡ 0 + i = omega arith in subst (λ m. slice_get partition_results m ≡ Some share) e get) are ready in
      let stay = tasks-follow f records s steady ts ends ready begun (first-ruled s (unfinished s.rows) artifacts) ways in
      rows-stay (FollowsRules f s.rules records) parts ts ends 0 s.rows ways stay (subst (FollowRules f s.rules records) (sym (same s artifacts fit)) follow)

-- each partition keeps its range
ranges-from : PartsStay → (ts now : List TaskState) (k : ℕ) (rows : List Row) → AreOnTheWay ts now
    → ranges_of (map (λ n. row_now now n.0 n.1) (enumerate_from k rows)) ≡ ranges_of (map (λ n. row_now ts n.0 n.1) (enumerate_from k rows))
ranges-from parts ts now k [] ways = refl
ranges-from parts ts now k (row ∷ rows) ways =
    let same = range-kept parts ts now k row ways in
    λ i. record { lo = same.lo i; hi = same.hi i } ∷ ranges-from parts ts now (k + 1) rows ways i

pub ranges-stay : PartsStay → BeginsWithRows → RangesStay
ranges-stay parts same s artifacts ends is fit ways = ranges-from parts (first_tasks s artifacts) ends 0 s.rows ways ∙ ap ranges_of (same s artifacts fit)

range-again : (b : Bool) (row : Row) → range_of (cond b (dropped_row row) row) ≡ range_of row
range-again true row = refl
range-again false row = refl

ranges-again : (rows : List Row) → ranges_of (map restarted rows) ≡ ranges_of rows
ranges-again [] = refl
ranges-again (row ∷ rows) = λ i. range-again (is_failed row.state) row i ∷ ranges-again rows i

pub restarts-keep : RestartsKeepRanges
restarts-keep held = ranges-again held.rows

-- ---- NEW ROWS

never-failed : (b : Bool) → cond b state.Finished state.Waiting ≡ state.Failed → ⊥
never-failed true e = cc
never-failed false e = cc

pub new-follow : NewRowsFollow
new-follow f rules records [] = tt
new-follow f rules records (r ∷ rs) =
    let none = sym (ap length (skips-none f records r.lo)) in
    (record { counted = none; skipped = none; passed = first-passes f rules records r.lo; failed = λ e. absurd (never-failed (r.lo == r.hi) e) }, new-follow f rules records rs)

-- those of the step's ranges
fresh-ranges : (ranges : List Range) → ranges_of (fresh_rows ranges) ≡ ranges
fresh-ranges [] = refl
fresh-ranges (r ∷ rs) = ap (λ others. r ∷ others) (fresh-ranges rs)

pub ranges-anew : (replace : Bool) (ranges : List Range) → ranges_of (opening_rows ranges (gone_on replace None)) ≡ ranges
ranges-anew true ranges = fresh-ranges ranges
ranges-anew false ranges = fresh-ranges ranges

-- ---- FINISHED ROWS

all-pass : (f : Function) (rules : RulesRecord) (records : List (List ℕ)) (rows : List Row) (partition_results : List (List (List ℕ))) → ArePartitionResults f records rows partition_results → FollowRules f rules records rows → AreAtTheirEnds rows
    → RowsPass f rules records rows
all-pass f rules records [] partition_results are follow whole = tt
all-pass f rules records (row ∷ rows) [] are follow whole = absurd are
all-pass f rules records (row ∷ rows) (share ∷ partition_results) are follow whole = (
  subst (λ n. Pass rules (classes_between f records row.lo n)) (are.0.whole whole.0) follow.0.passed,
  all-pass f rules records rows partition_results are.1 follow.1 whole.1,
)

pub finished-pass : FinishedRowsPass
finished-pass f rules records rows partition_results so-far follow whole = all-pass f rules records rows partition_results so-far.each follow whole

-- ---- FAILED ROWS

pub failed-is : (st : RowState) → is_failed st ≡ true → st ≡ state.Failed
failed-is state.Waiting e = absurd cc
failed-is (state.Running lane) e = absurd cc
failed-is state.Finished e = absurd cc
failed-is state.Failed e = refl

pub stop-fails : StoppedRowsDont
stop-fails f rules records row note stop pass =
    let to = stop.to in
    stop.fails (fewer-pass f rules records row.lo (suc note.number) row.hi (omega (arith, to)) pass)

-- by one record at most: those up to the earlier one pass with those before the later one
not-earlier : (f : Function) (rules : RulesRecord) (records : List (List ℕ)) (row : Row) (note other : Note) → IsStop f rules records row note → IsStop f rules records row other → note.number < other.number → ⊥
not-earlier f rules records row note other one two less = one.fails (fewer-pass f rules records row.lo (suc note.number) other.number (omega (arith, less)) two.passed)

some-same : (a b : ClassId) → Some a ≡ Some b → a ≡ b
some-same a b e = cc

same-note : (f : Function) (rules : RulesRecord) (records : List (List ℕ)) (row : Row) (note other : Note) → IsStop f rules records row note → IsStop f rules records row other → note.number ≡ other.number → note ≡ other
same-note f rules records row note other one two same =
    let class : note.class ≡ other.class = some-same note.class other.class (sym one.refused ∙ ap (λ n. refusal_of f (record_of 0 records n)) same ∙ two.refused) in
    λ i. record { number = same i; class = class i }

pub one-stop : StopsAreOne
one-stop f rules records row note other one two =
    elim (eq-or-lt_or-lt note.number other.number) [
      | inl same ↦ same-note f rules records row note other one two same
      | inr differ ↦ elim differ [
        | inl less ↦ absurd (not-earlier f rules records row note other one two less)
        | inr more ↦ absurd (not-earlier f rules records row other note two one more)
      ]
    ]
  where
    eq-or-lt_or-lt : (a b : ℕ) → (a ≡ b) ⊎ ((a < b) ⊎ (b < a))
    eq-or-lt_or-lt zero zero = inl refl
    eq-or-lt_or-lt zero (suc b) = inr (inl (omega arith))
    eq-or-lt_or-lt (suc a) zero = inr (inr (omega arith))
    eq-or-lt_or-lt (suc a) (suc b) = elim (eq-or-lt_or-lt a b) [
      | inl same ↦ inl (ap suc same)
      | inr differ ↦ inr (elim differ [ inl less ↦ inl (omega (arith, less)) | inr more ↦ inr (omega (arith, more)) ])
    ]

failed-by : (f : Function) (rules : RulesRecord) (records : List (List ℕ)) (row : Row) (b others : Bool) → is_failed row.state ≡ b → b || others ≡ true → FollowsRules f rules records row → RangePasses f rules records (range_of row)
    → (others ≡ true → ⊥) → ⊥
failed-by f rules records row true others is e follows pass later = let stop = follows.failed (failed-is row.state is) in stop-fails f rules records row stop.0 stop.1 pass
failed-by f rules records row false others is e follows pass later = later e

pub failed-dont : FailedRowsDont
failed-dont f rules records [] follow failed pass = cc
failed-dont f rules records (row ∷ rows) follow failed pass =
    failed-by f rules records row (is_failed row.state) (list_any (λ r. is_failed r.state) rows) refl failed follow.0 pass.0
    (λ later. failed-dont f rules records rows follow.1 later pass.1)

-- ---- RAISED LIMITS

raised-pass : (before after : RulesRecord) (classes : List ClassId) → AreRulesRaised before after → Pass before classes → Pass after classes
raised-pass before after classes raised pass = record {
  skippable = subst (λ set. AllByRecursion (λ class. has_class set class ≡ true) classes) (sym raised.skippable) pass.skippable;
  few = still-few before.skip_limit after.skip_limit (length classes) raised.skips pass.few;
}

never : true ≡ false → ⊥
never e = cc

row-raised : (f : Function) (before after : RulesRecord) (records : List (List ℕ)) (b : Bool) (row : Row) → is_failed row.state ≡ b → AreRulesRaised before after → FollowsRules f before records row
    → FollowsRules f after records (cond b (dropped_row row) row)
row-raised f before after records true row is raised follows = record {
  counted = follows.counted;
  skipped = follows.skipped;
  passed = raised-pass before after (classes_between f records row.lo row.at) raised follows.passed;
  failed = λ e. absurd cc;
}
row-raised f before after records false row is raised follows = record {
  counted = follows.counted;
  skipped = follows.skipped;
  passed = raised-pass before after (classes_between f records row.lo row.at) raised follows.passed;
  failed = λ e. absurd (never (sym (ap is_failed e) ∙ is));
}

rows-raised : (f : Function) (before after : RulesRecord) (records : List (List ℕ)) (rows : List Row) → AreRulesRaised before after → FollowRules f before records rows → FollowRules f after records (map restarted rows)
rows-raised f before after records [] raised follow = tt
rows-raised f before after records (row ∷ rows) raised follow =
    (row-raised f before after records (is_failed row.state) row refl raised follow.0, rows-raised f before after records rows raised follow.1)

pub rules-raised : RaisedRulesFollow
rules-raised f before after records held raised follow = rows-raised f before after records held.rows raised follow

-- the same rules are raised ones
same-limit : (limit : Option ℕ) → IsRaised limit limit
same-limit None = tt
same-limit (Some limit) = omega arith

pub same-raised : (rules : RulesRecord) → AreRulesRaised rules rules
same-raised rules = record { skippable = refl; skips = same-limit rules.skip_limit }

-- ---- HOW A RUN ENDS

failed-rows : (failed unfinished : Bool) → cond failed status.Failed (cond unfinished status.Stopped status.Completed) ≡ status.Failed → failed ≡ true
failed-rows true unfinished e = refl
failed-rows false true e = absurd cc
failed-rows false false e = absurd cc

-- a step that is FAILED has a failed partition
pub has-failed : (rows : List Row) → status_of rows false ≡ status.Failed → HasFailed rows
has-failed rows e = failed-rows (list_any (λ row. is_failed row.state) rows) (list_any (λ row. not (is_finished row.state)) rows) e

-- behind an earlier run
pub goes-on-by : (f : Function) (rules : RulesRecord) (records : List (List ℕ)) (text : List ℕ) (own : SavedRows) (earlier : List (List ℕ)) (s : Setup) (partition_results : List (List (List ℕ)))
    → answer_of (tree_of text) ≡ Ok own → s.rows ≡ rows_restarted own → s.rules ≡ rules → (HoldsStoppedRun f records text earlier → IsSoFar f records s.rows partition_results)
    → HoldsStoppedRun f records text earlier × IsSteady f × FollowAgain f rules records text → GoesOnByRules f rules records s partition_results
goes-on-by f rules records text own earlier s partition_results read rows ruled goes given =
    let again = given.2 in
    record {
      steady = given.1;
      so_far = goes given.0;
      rules_are = ruled;
      follows = subst (λ (rs : List Row). FollowRules f s.rules records rs) (sym rows)
          (subst (λ (r : RulesRecord). FollowRules f r records (rows_restarted own)) (sym ruled)
          (subst (λ (h : SavedRows). FollowRules f rules records (rows_restarted h)) (same-held (answer_of (tree_of text)) again.held own again.read read) again.follow));
    }

-- ---- THE STEP'S OWN RANGES

pub anew-follow : NewRowsFollow → (f : Function) (rules : RulesRecord) (records : List (List ℕ)) (count : ℕ) (s : Setup) → StartsFresh count s → FollowRules f rules records s.rows
anew-follow law f rules records count s anew = subst (FollowRules f rules records) (sym anew.rows) (law f rules records anew.ranges)

ranges-or : List Range → Result PartitionPlan ClassId → List Range
ranges-or ranges (Ok plan) = plan.ranges
ranges-or ranges (Err class) = ranges

pub begun-ranges : (step : RecordsStep) (records : ℕ) (saved : Option SavedRows) (s : Setup) → saved ≡ None → IsPreparation (step_record step) records (Ok (even_partitions step records)) saved s
    → ranges_of s.rows ≡ (even_partitions step records).ranges
unfolding ranges-or
begun-ranges step records saved s none its =
    ap ranges_of its.rows
    ∙ ap (λ (o : Option SavedRows). ranges_of (opening_rows its.plan.ranges (gone_on its.plan.replace o))) none
    ∙ ranges-anew its.plan.replace its.plan.ranges
    ∙ sym (ap (ranges-or []) its.mapping)

module _ (f : Function) (step : RecordsStep) (records : List (List ℕ)) (rules : RulesRecord) (before rows : List Row) (ruled : rules ≡ step.rules) (begun : ranges_of before ≡ (even_partitions step (length records)).ranges)
    (stay : ranges_of rows ≡ ranges_of before) where
  same-passes : RowsPass f rules records rows ≡ StepPasses f step records
  same-passes = λ i. RangesPass f (ruled i) records ((stay ∙ begun) i)

  pub step-passes : RowsPass f rules records rows → StepPasses f step records
  step-passes pass = subst (λ (A : Type 0). A) same-passes pass

  pub rows-pass : StepPasses f step records → RowsPass f rules records rows
  rows-pass pass = subst (λ (A : Type 0). A) (sym same-passes) pass
