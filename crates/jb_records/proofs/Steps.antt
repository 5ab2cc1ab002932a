-- The partitions, over a whole run of its step.
use Rattle.std.proofs.Common.{◌≡◌, ℕ, zero, suc, ◌+◌, ◌-◌, ◌≤◌, Bool, true, false, not, cond, List, [], ◌∷◌, length, Some, Option, refl, ap, ap₂, sym, subst, ◌∙◌, arith}
use Rattle.std.proofs.lemmas.Bool.{or_parts}
use Rattle.std.proofs.Math.Seq.{drop-nil, take-length}
use Rattle.std.specs.Prelude.{◌==◌, ◌||◌, drop, filter, map, nat_eq, slice_get, take}
use Rattle.std.specs.List.{AllByRecursion, enumerate_from, filter_map, list_any, range_with_len, zip}
use Rattle.jb_base.specs.declared.range.Range.{Range}
use Rattle.jb_repo.specs.declared.snapshot.Snapshot.{Snapshot}
use Rattle.jb_rules.specs.declared.row.Row.{Row}
use Rattle.jb_rules.specs.declared.row.RowState.TheVariants as state
use Rattle.jb_rules.specs.Rows.{fresh_row}
use Rattle.jb_rules.specs.declared.row.RowState.{RowState}
use Rattle.jb_rules.specs.States.{is_failed, is_finished}
use Rattle.jb_artifacts.specs.Meaning.{ArtifactsMeaning}
use Rattle.jb_chunk.specs.TaskState.{IsReady, TaskState, started}
use Rattle.jb_collect.specs.declared.calls.AnalyzerCall.{AnalyzerCall}
use Rattle.jb_collect.specs.declared.calls.ReducerCall.{ReducerCall}
use Rattle.jb_collect.specs.declared.calls.Status.{Status}
use Rattle.jb_collect.specs.declared.calls.Status.TheVariants as status
use Rattle.jb_collect.specs.AnsweredCalls.{AnsweredCall, since, well}
use Rattle.jb_step.specs.callbacks.Callbacks.{has_fault}
use Rattle.jb_step.specs.Answers.{IsStatus, artifacts_of}
use Rattle.jb_step.specs.Statuses.{status_of}
use Rattle.jb_step.specs.rounds.PlanLaws.{AreTasksOf, BeginsWithRows, BeginsWithTasks}
use Rattle.jb_step.specs.preparing.Setup.{Setup, first_tasks, fresh_rows, row_now, rows_now, unfinished}
use Rattle.jb_step.specs.Alone.{AreOnTheWay}
use Rattle.jb_records.specs.Function.{Function, result_of}
use Rattle.jb_records.specs.Runs.{HasResults, PartsStay, ResultsGoOn}
use Rattle.jb_records.specs.PartitionResults.{AreRowsInOrder, AreNumbered, AreRangesOf, ArePartitionResults, AreAtTheirEnds, IsPartitionResult, IsSoFar, NewStepsBegin, newer_share}
use Rattle.jb_records.specs.Steps.{AreArtifacts, StartsFresh, StepsKeepResults}
use Rattle.jb_records.specs.Artifacts.{IsArtifactsOver, own_records, record_of, results_between}
use Rattle.jb_records.proofs.Going.{ends-at}

-- ---- HOW THE PARTITIONS BEGIN

begun-task : (f : Function) (records : List (List ℕ)) (p item_count : ℕ) (row : Row) (s : Setup) (w : ArtifactsMeaning) → IsArtifactsOver f s.rules row.lo (own_records records row) w
    → IsPartitionResult f records row w.writer.written → IsReady (started p row s.rules item_count w) → HasResults f records (started p row s.rules item_count w)
begun-task f records p item_count row s w artifacts share ready =
    let cut : take row.written w.writer.written ≡ w.writer.written = ap (λ n. take n w.writer.written) (sym share.number) ∙ take-length w.writer.written in
    record {
      artifacts = record { first_is = artifacts.first_is; records_are = artifacts.records_are; reads = artifacts.reads; answers = artifacts.answers; faults = artifacts.faults; steady = artifacts.steady; writes = artifacts.writes };
      from = ready.sound.placed.at_from;
      served = subst (λ n. row.hi ≤ n) (λ i. artifacts.first_is i + length (artifacts.records_are i)) ready.fits.to;
      results = cut ∙ share.results;
      number = ready.count;
      whole = share.whole;
    }

-- each partition has its records, and the results of those before its checkpoint
abbrev pub HaveResults : Function → (records : List (List ℕ)) → List TaskState → Type 0
HaveResults f records ts = AllByRecursion (HasResults f records) ts

-- the unfinished rows, their tasks, and what they work with
abbrev pub left-of : List (ℕ × Row) → List (ℕ × Row)
left-of ns = filter (λ n. not (is_finished n.1.state)) ns

abbrev tasks-of : Setup → List (ℕ × Row) → List ArtifactsMeaning → List TaskState
tasks-of s ns artifacts = map (λ n. started n.0.0 n.0.1 s.rules s.item_count n.1) (zip ns artifacts)

-- they have its rules
pub first-ruled : (s : Setup) (ns : List (ℕ × Row)) (artifacts : List ArtifactsMeaning) → AllByRecursion (λ (t : TaskState). t.rules ≡ s.rules) (tasks-of s ns artifacts)
first-ruled s [] artifacts = tt
first-ruled s (n ∷ ns) [] = tt
first-ruled s (n ∷ ns) (w ∷ ws) = (refl, first-ruled s ns ws)

abbrev Begin : (f : Function) (records : List (List ℕ)) → (partition_results : List (List (List ℕ))) → Setup → List (ℕ × Row) → List ArtifactsMeaning → Type 0
Begin f records partition_results s ns artifacts = AreArtifacts f s.rules records partition_results ns artifacts → AreTasksOf s (tasks-of s ns artifacts) → HaveResults f records (tasks-of s ns artifacts)

same-share : (o : Option (List (List ℕ))) (share other : List (List ℕ)) → o ≡ Some share → o ≡ Some other → share ≡ other
same-share o share other a b = cc

first-begun : (f : Function) (records : List (List ℕ)) (partition_results : List (List (List ℕ))) (s : Setup) (n : ℕ × Row) (share : List (List ℕ)) (ns : List (ℕ × Row)) (b : Bool) (artifacts : List ArtifactsMeaning)
    → slice_get partition_results n.0 ≡ Some share → IsPartitionResult f records n.1 share → ((ws : List ArtifactsMeaning) → Begin f records partition_results s ns ws) → Begin f records partition_results s (cond b (n ∷ ns) ns) artifacts
first-begun f records partition_results s n share ns false artifacts at is others are ready = others artifacts are ready
first-begun f records partition_results s n share ns true [] at is others are ready = absurd are
first-begun f records partition_results s n share ns true (w ∷ ws) at is others are ready =
    let own = subst (IsPartitionResult f records n.1) (same-share (slice_get partition_results n.0) share w.writer.written at are.0.1) is in
    (begun-task f records n.0 s.item_count n.1 s w are.0.0 own ready.0.0, others ws are.1 ready.1)

none-begun : (f : Function) (records : List (List ℕ)) (partition_results : List (List (List ℕ))) (s : Setup) (artifacts : List ArtifactsMeaning) → Begin f records partition_results s [] artifacts
none-begun f records partition_results s [] are ready = tt
none-begun f records partition_results s (w ∷ ws) are ready = absurd are

pub all-begun : (f : Function) (records : List (List ℕ)) (all : List (List (List ℕ))) (s : Setup) (k : ℕ) (rows : List Row) (partition_results : List (List (List ℕ))) (artifacts : List ArtifactsMeaning)
    → ArePartitionResults f records rows partition_results → ((i : ℕ) (share : List (List ℕ)) → slice_get partition_results i ≡ Some share → slice_get all (k + i) ≡ Some share)
    → Begin f records all s (left-of (enumerate_from k rows)) artifacts
all-begun f records all s k [] partition_results artifacts have at are ready = none-begun f records all s artifacts are ready
all-begun f records all s k (row ∷ rows) [] artifacts have at are ready = absurd have
all-begun f records all s k (row ∷ rows) (share ∷ partition_results) artifacts have at are ready =
    first-begun f records all s (k, row) share (left-of (enumerate_from (k + 1) rows)) (not (is_finished row.state)) artifacts
    (let e : k + 0 ≡ k = omega arith in subst (λ m. slice_get all m ≡ Some share) e (at zero share refl)) have.0
    (λ ws. all-begun f records all s (k + 1) rows partition_results ws have.1 (λ i x get. let e : k + suc i ≡ (k + 1) + i = omega arith in subst (λ m. slice_get all m ≡ Some x) e (at (suc i) x get)))
    are ready

-- ---- WHERE THEY ARE LED

pub kept-by : ResultsGoOn → (f : Function) (records : List (List ℕ)) (s : Setup) (ts now : List TaskState) → AreTasksOf s ts → HaveResults f records ts → AreOnTheWay ts now → HaveResults f records now
kept-by law f records s [] [] ready have ways = tt
kept-by law f records s [] (x ∷ xs) ready have ways = absurd ways
kept-by law f records s (t ∷ ts) [] ready have ways = absurd ways
kept-by law f records s (t ∷ ts) (x ∷ xs) ready have ways = (law f records t x ready.0.0 have.0 ways.0, kept-by law f records s ts xs ready.1 have.1 ways.1)

-- each partition has its new share, or the one that it had
newer-by : (f : Function) (records : List (List ℕ)) (t : TaskState) (b : Bool) (row : Row) (share : List (List ℕ)) → HasResults f records t → IsPartitionResult f records row share
    → IsPartitionResult f records (cond b t.row row) (cond b t.artifacts.writer.written share)
newer-by f records t true row share has is = record { results = has.results; number = has.number; whole = has.whole }
newer-by f records t false row share has is = is

newer-is : (f : Function) (records : List (List ℕ)) (now : List TaskState) (p : ℕ) (row : Row) (share : List (List ℕ)) → HaveResults f records now
    → IsPartitionResult f records row share → IsPartitionResult f records (row_now now p row) (newer_share (artifacts_of now) p share)
newer-is f records [] p row share have is = is
newer-is f records (t ∷ now) p row share have is = newer-by f records t (nat_eq t.partition p) _ _ have.0 (newer-is f records now p row share have.1 is)

newer-all : (f : Function) (records : List (List ℕ)) (now : List TaskState) (k : ℕ) (rows : List Row) (partition_results : List (List (List ℕ))) → HaveResults f records now → ArePartitionResults f records rows partition_results
    → ArePartitionResults f records (map (λ n. row_now now n.0 n.1) (enumerate_from k rows)) (map (λ n. newer_share (artifacts_of now) n.0 n.1) (enumerate_from k partition_results))
newer-all f records now k [] [] have are = tt
newer-all f records now k [] (share ∷ partition_results) have are = absurd are
newer-all f records now k (row ∷ rows) [] have are = absurd are
newer-all f records now k (row ∷ rows) (share ∷ partition_results) have are = (newer-is f records now k row share have are.0, newer-all f records now (k + 1) rows partition_results have are.1)

-- ---- THE RANGES STAY IN THEIR ORDER

pub record IsSameRange (row other : Row) : Type 0 where
  pub lo : other.lo ≡ row.lo
  pub hi : other.hi ≡ row.hi

range-by : (b : Bool) (first now row other : Row) → IsSameRange first now → IsSameRange row other → IsSameRange (cond b first row) (cond b now other)
range-by true first now row other is others = is
range-by false first now row other is others = others

pub range-kept : PartsStay → (ts now : List TaskState) (p : ℕ) (row : Row) → AreOnTheWay ts now → IsSameRange (row_now ts p row) (row_now now p row)
range-kept law [] [] p row ways = record { lo = refl; hi = refl }
range-kept law [] (x ∷ xs) p row ways = absurd ways
range-kept law (t ∷ ts) [] p row ways = absurd ways
range-kept law (t ∷ ts) (x ∷ xs) p row ways =
    let same = law t x ways.0 in
    let is : IsSameRange t.row x.row = record { lo = same.lo; hi = same.hi } in
    let others = range-kept law ts xs p row ways.1 in
    let now = range-by (nat_eq t.partition p) t.row x.row (row_now ts p row) (row_now xs p row) is others in
    subst (λ q. IsSameRange (cond (nat_eq t.partition p) t.row (row_now ts p row)) (cond (nat_eq q p) x.row (row_now xs p row))) (sym same.partition) now

order-kept : PartsStay → (ts now : List TaskState) (k from to : ℕ) (rows : List Row) → AreOnTheWay ts now
    → AreRowsInOrder from to (map (λ n. row_now ts n.0 n.1) (enumerate_from k rows)) → AreRowsInOrder from to (map (λ n. row_now now n.0 n.1) (enumerate_from k rows))
order-kept law ts now k from to [] ways order = order
order-kept law ts now k from to (row ∷ rows) ways order =
    let same = range-kept law ts now k row ways in (
      same.lo ∙ order.0,
      subst (λ hi. from ≤ hi) (sym same.hi) order.1,
      subst (λ hi. AreRowsInOrder hi to (map (λ n. row_now now n.0 n.1) (enumerate_from (k + 1) rows))) (sym same.hi)
          (order-kept law ts now (k + 1) (row_now ts k row).hi to rows ways order.2),
    )

-- ---- A WHOLE RUN

pub partition_results-kept : ResultsGoOn → PartsStay → BeginsWithTasks → BeginsWithRows → StepsKeepResults
partition_results-kept law parts begins same f records partition_results s artifacts ends is fit are ways so-far =
    let ready = (begins s artifacts is fit).tasks in
    let ts = first_tasks s artifacts in
    let begun = all-begun f records partition_results s 0 s.rows partition_results artifacts so-far.each (λ i share get. let e : i ≡ 0 + i = omega arith in subst (λ m. slice_get partition_results m ≡ Some share) e get) are ready in
    let have : HaveResults f records ends = kept-by law f records s ts ends ready begun ways in
    let order : AreRowsInOrder 0 (length records) (rows_now s.rows ts) = subst (AreRowsInOrder 0 (length records)) (sym (same s artifacts fit)) so-far.order in
    record { order = order-kept parts ts ends 0 0 (length records) s.rows ways order; each = newer-all f records ends 0 s.rows partition_results have so-far.each }

-- ---- A STEP THAT BEGINS ANEW

no-results : (f : Function) (first : ℕ) (records : List (List ℕ)) (lo : ℕ) → results_between f first records lo lo ≡ []
unfolding results_between
no-results f first records lo =
    let none : lo - lo ≡ 0 = omega arith in
    ap (λ n. filter_map (λ k. result_of f (record_of first records k)) (range_with_len lo n)) none

nothing : (share : List (List ℕ)) → length share ≡ 0 → share ≡ []
nothing [] e = refl
nothing (x ∷ xs) e = absurd (omega (arith, e))

new-share : (f : Function) (records : List (List ℕ)) (r : Range) (share : List (List ℕ)) → length share ≡ 0 → IsPartitionResult f records (fresh_row r) share
new-share f records r share none = record {
  results = nothing share none ∙ sym (no-results f r.lo (own_records records (fresh_row r)) r.lo);
  number = none;
  whole = ends-at (r.lo == r.hi) r.lo r.hi refl;
}

new-partition_results : (f : Function) (records : List (List ℕ)) (ranges : List Range) (partition_results : List (List (List ℕ))) → AreNumbered (fresh_rows ranges) partition_results → ArePartitionResults f records (fresh_rows ranges) partition_results
new-partition_results f records [] [] are = tt
new-partition_results f records [] (share ∷ partition_results) are = absurd are
new-partition_results f records (r ∷ rs) [] are = absurd are
new-partition_results f records (r ∷ rs) (share ∷ partition_results) are = (new-share f records r share are.0, new-partition_results f records rs partition_results are.1)

new-order : (from to : ℕ) (ranges : List Range) → AreRangesOf from to ranges → AreRowsInOrder from to (fresh_rows ranges)
new-order from to [] order = order
new-order from to (r ∷ rs) order = (order.0, order.1, new-order r.hi to rs order.2)

pub steps-begin : NewStepsBegin
steps-begin f records ranges partition_results order are = record { order = new-order 0 (length records) ranges order; each = new-partition_results f records ranges partition_results are }

-- with as many results as its rows say
pub begun-anew : NewStepsBegin → (f : Function) (records : List (List ℕ)) (s : Setup) (partition_results : List (List (List ℕ))) → StartsFresh (length records) s → AreNumbered s.rows partition_results → IsSoFar f records s.rows partition_results
begun-anew law f records s partition_results anew are =
    subst (λ (rows : List Row). IsSoFar f records rows partition_results) (sym anew.rows) (law f records anew.ranges partition_results anew.order (subst (λ (rows : List Row). AreNumbered rows partition_results) anew.rows are))

-- ---- HOW IT ENDS

finished-is : (st : RowState) → not (is_finished st) ≡ false → st ≡ state.Finished
finished-is state.Waiting e = absurd cc
finished-is (state.Running lane) e = absurd cc
finished-is state.Finished e = refl
finished-is state.Failed e = absurd cc

whole-if : (rows : List Row) → list_any (λ row. not (is_finished row.state)) rows ≡ false → AreAtTheirEnds rows
whole-if [] e = tt
whole-if (row ∷ rows) e =
    let parts = or_parts (not (is_finished row.state)) (list_any (λ row. not (is_finished row.state)) rows) e in
    (finished-is row.state parts.0, whole-if rows parts.1)

completed-by : (failed unfinished : Bool) → cond failed status.Failed (cond unfinished status.Stopped status.Completed) ≡ status.Completed → unfinished ≡ false
completed-by true unfinished e = absurd cc
completed-by false true e = absurd cc
completed-by false false e = refl

-- where the step is completed, each partition is finished
pub completed-whole : (rows : List Row) (failed : Bool) → status_of rows failed ≡ status.Completed → AreAtTheirEnds rows
completed-whole rows failed e =
    whole-if rows (completed-by (failed || list_any (λ row. is_failed row.state) rows) (list_any (λ row. not (is_finished row.state)) rows) e)

-- no callback failed
pub well-faults : {C : Type 0} (n : ℕ) (calls : List C) → has_fault (drop n (map well calls)) ≡ false
well-faults n [] = ap has_fault (drop-nil n)
well-faults zero (call ∷ calls) = well-faults zero calls
well-faults (suc n) (call ∷ calls) = well-faults n calls

-- so the status is that of the rows
pub stands : (snapshot : Snapshot) (heard : List (AnsweredCall AnalyzerCall)) (reduced : List (AnsweredCall ReducerCall)) (more : List AnalyzerCall) (after : List ReducerCall) (now : Status)
    → IsStatus snapshot (since heard (map well more)) (since reduced (map well after)) now → now ≡ status_of snapshot.rows.items false
stands snapshot heard reduced more after now is =
    is ∙ ap₂ (λ written_before answered. status_of snapshot.rows.items (written_before || answered)) (well-faults (length heard) more) (well-faults (length reduced) after)
