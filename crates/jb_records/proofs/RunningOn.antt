-- A run that stays in memory, from interval to interval.
use Rattle.std.proofs.Common.{◌≡◌, ℕ, zero, suc, ◌+◌, ◌≤◌, Bool, false, List, [], ◌∷◌, map, length, Option, Some, None, refl, ap, sym, subst, ◌∙◌, arith}
use Rattle.std.proofs.lemmas.Bool.Decides.{nat_tests}
use Rattle.std.specs.Prelude.{filter, nat_lt, slice_get, ◌||◌}
use Rattle.jb_base.specs.Pairwise.{Pairwise}
use Rattle.jb_base.specs.Rules.{RulesRecord}
use Rattle.jb_artifacts.specs.Meaning.{ArtifactsMeaning}
use Rattle.jb_repo.specs.declared.snapshot.Snapshot.{Snapshot}
use Rattle.jb_rules.specs.declared.row.Row.{Row}
use Rattle.jb_rules.specs.States.{is_running}
use Rattle.jb_chunk.specs.TaskState.{TaskState}
use Rattle.jb_saved.specs.Answers.{first_running}
use Rattle.jb_saved.specs.GoingOn.{ends_past, restarted, rows_restarted}
use Rattle.jb_saved.specs.SavedRows.{SavedRows}
use Rattle.jb_step.specs.Answers.{artifacts_of, tasks_left}
use Rattle.jb_step.specs.rounds.PlanLaws.{AreTasksOf, BeginsWithRows, BeginsWithTasks}
use Rattle.jb_step.specs.preparing.Setup.{first_tasks, needs, rows_now, unfinished}
use Rattle.jb_records.specs.Following.{FollowRules}
use Rattle.jb_records.specs.FollowingLaws.{RaisedRulesFollow, RangesStay, RulesAreKept}
use Rattle.jb_records.specs.Function.{Function, IsSteady}
use Rattle.jb_records.specs.Runs.{PartsStay, ResultsGoOn}
use Rattle.jb_records.specs.PartitionResults.{AreRowsInOrder, IsSoFar, newer_partition_results}
use Rattle.jb_records.specs.StepRuns.{IsStepRunOf}
use Rattle.jb_records.specs.Steps.{AreArtifacts, StepsKeepResults}
use Rattle.jb_records.specs.Intervals.{AreFurther, HasGoneOn, IsIntervalRun, RunState, StandsOver, grown, numbers_in, artifacts_in}
use Rattle.jb_records.specs.inside.Calls.{CanBeginOver}
use Rattle.jb_records.specs.inside.InMemory.{IsGoingOn, RowsAreSaved, IntervalsGoOn, ArtifactsFit, is_done, is_left, new_results_from}
use Rattle.jb_records.proofs.Ahead.{GoAhead, IsAhead, rows-ahead}
use Rattle.jb_records.proofs.Calling.{artifacts-fit}
use Rattle.jb_records.proofs.Ending.{came-back, led, led-following, led-ranges, rows-ran}
use Rattle.jb_records.proofs.Following.{same-raised}
use Rattle.jb_records.proofs.Growing.{grown-all, new_results-length}
use Rattle.jb_records.proofs.Keeping.{AreDone, all-done, newer-again, newer-parts, artifacts-kept}
use Rattle.jb_records.proofs.Resuming.{numbered-so, so-far-again}
use Rattle.jb_records.proofs.Staying.{Stays, left-numbers, numbers-left, rows-stay, same-partitions}
use Rattle.jb_records.proofs.Steps.{HaveResults, all-begun, first-ruled, kept-by}

-- ---- WHERE IT STANDS, ITS PARTITIONS HAVE THEIR RECORDS

below-last : (from to : ℕ) (rows : List Row) → AreRowsInOrder from to rows → from ≤ to
below-last from to [] order = omega (arith, order)
below-last from to (row ∷ rows) order =
    let le = order.1 in
    let rest = below-last row.hi to rows order.2 in
    omega (arith, le, rest)

order-within : (from to : ℕ) (rows : List Row) → AreRowsInOrder from to rows → (p : ℕ) (row : Row) → slice_get rows p ≡ Some row → (row.lo ≤ row.hi) × (row.hi ≤ to)
order-within from to [] order p row at = absurd (cc at)
order-within from to (r ∷ rows) order zero row at =
    let same : r ≡ row = cc in
    let lo = order.0 in
    let le = order.1 in
    let rest = below-last r.hi to rows order.2 in
    subst (λ (one : Row). (one.lo ≤ one.hi) × (one.hi ≤ to)) same (omega (arith, lo, le), omega (arith, rest))
order-within from to (r ∷ rows) order (suc p) row at = order-within r.hi to rows order.2 p row at

pub can-go-on : (f : Function) (records : List (List ℕ)) (rows : List Row) (partition_results : List (List (List ℕ))) → IsSoFar f records rows partition_results → CanBeginOver (length records) rows partition_results
can-go-on f records rows partition_results so = record {
  within = order-within 0 (length records) rows so.order;
  numbered = numbered-so f records rows partition_results so.each;
}

pub artifacts-do-fit : ArtifactsFit
artifacts-do-fit f records s stands = artifacts-fit f s.setup.rules records s.setup s.partition_results (artifacts_in s.artifacts) (can-go-on f records s.setup.rows s.partition_results stands.so_far) stands.artifacts

-- ---- ITS ROWS CAN BE SAVED

none-running : (olds new_results : List Row) → Pairwise IsAhead olds new_results → ((i : ℕ) (row : Row) → slice_get olds i ≡ Some row → is_running row.state ≡ false) → first_running new_results ≡ None
none-running [] [] ahead still = refl
none-running [] (new ∷ new_results) ahead still = absurd ahead
none-running (old ∷ olds) [] ahead still = absurd ahead
none-running (old ∷ olds) (new ∷ new_results) ahead still =
    let here : is_running new.state ≡ false = ahead.0.still (still zero old refl) in
    let rest = none-running olds new_results ahead.1 (λ i r get. still (suc i) r get) in
    grind (arith, here, rest)

none-past : (from to : ℕ) (rows : List Row) → AreRowsInOrder from to rows → ends_past to rows ≡ false
none-past from to [] order = refl
none-past from to (row ∷ rows) order =
    let last = below-last row.hi to rows order.2 in
    let here : nat_lt to row.hi ≡ false = grind (arith, nat_tests) in
    let rest = none-past row.hi to rows order.2 in
    ap (λ (b : Bool). b || ends_past to rows) here ∙ rest

-- ---- A STRETCH

module _ (going : ResultsGoOn) (parts : PartsStay) (begins : BeginsWithTasks) (same : BeginsWithRows) (kept : StepsKeepResults) (ahead : GoAhead)
    (ruled : RulesAreKept) (raised : RaisedRulesFollow) (rangesare : RangesStay) where
  module _ (f : Function) (records : List (List ℕ)) (before : RunState) (rounds : Option ℕ) (snapshot : Snapshot) (left : List (ℕ × ArtifactsMeaning))
      (stands : StandsOver f records before) (ran : IsStepRunOf before.setup (artifacts_in before.artifacts) rounds snapshot left) where
    abbrev first : List TaskState
    first = first_tasks before.setup (artifacts_in before.artifacts)

    abbrev now : List TaskState
    now = tasks_left first snapshot.rows.items left

    left-rows : snapshot.rows.items ≡ rows_now before.setup.rows now
    left-rows = rows-ran before.setup (artifacts_in before.artifacts) rounds snapshot left ran

    left-back : left ≡ artifacts_of now
    left-back = came-back before.setup (artifacts_in before.artifacts) rounds snapshot left ran

    ready : AreTasksOf before.setup first
    ready = (begins before.setup (artifacts_in before.artifacts) stands.setup ran.fit).tasks

    have : HaveResults f records now
    have =
        kept-by going f records before.setup first now ready
        (all-begun f records before.partition_results before.setup 0 before.setup.rows before.partition_results (artifacts_in before.artifacts) stands.so_far.each
        (λ i share get. let e : i ≡ 0 + i = omega arith in subst (λ m. slice_get before.partition_results m ≡ Some share) e get) stands.artifacts ready)
        ran.ways

    so-far : IsSoFar f records snapshot.rows.items (newer_partition_results left before.partition_results)
    so-far = led before.setup (artifacts_in before.artifacts) rounds snapshot left ran stands.setup f records before.partition_results stands.artifacts stands.so_far kept

    follow : IsSteady f → FollowRules f before.setup.rules records snapshot.rows.items
    follow steady = led-following before.setup (artifacts_in before.artifacts) rounds snapshot left ran stands.setup f records before.partition_results stands.artifacts stands.so_far ruled steady (stands.follows steady)

    done : AreDone f records before.setup snapshot.rows.items now
    done = all-done f records before.setup snapshot.rows.items left first (first-ruled before.setup (unfinished before.setup.rows) (artifacts_in before.artifacts)) have

    named : numbers_in (artifacts_of now) ≡ needs before.setup.rows
    named =
        numbers-left now
        ∙ same-partitions parts first now ran.ways
        ∙ (begins before.setup (artifacts_in before.artifacts) stands.setup ran.fit).partitions

    aheads : Pairwise IsAhead before.setup.rows snapshot.rows.items
    aheads =
        subst (Pairwise IsAhead before.setup.rows) (sym left-rows)
        (subst (λ (rows : List Row). Pairwise IsAhead rows (rows_now before.setup.rows now)) (same before.setup (artifacts_in before.artifacts) ran.fit)
        (rows-ahead ahead parts before.setup first now 0 before.setup.rows ready ran.ways))

    stay : Pairwise Stays before.setup.rows snapshot.rows.items
    stay = subst (Pairwise Stays before.setup.rows) (sym left-rows) (rows-stay now 0 before.setup.rows (sym (numbers-left now) ∙ named))

    here : {A : Type 0} (xs : List A) (i : ℕ) (x : A) → slice_get xs i ≡ Some x → slice_get xs (0 + i) ≡ Some x
    here xs i x get = let e : i ≡ 0 + i = omega arith in subst (λ m. slice_get xs m ≡ Some x) e get

    saved : (first_running snapshot.rows.items ≡ None) × (ends_past before.records snapshot.rows.items ≡ false)
    saved = (
      none-running before.setup.rows snapshot.rows.items aheads (λ i row get. (stands.setup.openable.idle i row get).1),
      subst (λ n. ends_past n snapshot.rows.items ≡ false) (sym stands.number) (none-past 0 (length records) snapshot.rows.items so-far.order),
    )

    module _ (after : RunState) (results : List (List (List ℕ))) (held : before.partition_results ≡ newer_partition_results before.artifacts results)
        (on : IsGoingOn before.step before.records before.setup.rules snapshot.rows.items (filter (is_left snapshot.rows.items) left) (newer_partition_results (filter (is_done snapshot.rows.items) left) results) after) where
      abbrev rows : List Row
      rows = snapshot.rows.items

      -- the shares now are those that came back, and those of the others
      partition_results-now : after.partition_results ≡ newer_partition_results left before.partition_results
      partition_results-now =
          on.partition_results_are
          ∙ newer-parts rows left results
          ∙ sym (newer-again left before.artifacts results (ap numbers_in left-back ∙ named ∙ sym stands.partitions))
          ∙ ap (newer_partition_results left) (sym held)

      so-far-now : IsSoFar f records rows after.partition_results
      so-far-now = subst (IsSoFar f records rows) (sym partition_results-now) so-far

      kept-artifacts : (numbers_in (filter (is_left rows) left) ≡ left-numbers 0 (map restarted rows)) × AreArtifacts f before.setup.rules records after.partition_results (unfinished (map restarted rows)) (artifacts_in (filter (is_left rows) left))
      kept-artifacts =
          subst (λ (ls : List (ℕ × ArtifactsMeaning)). (numbers_in (filter (is_left rows) ls) ≡ left-numbers 0 (map restarted rows)) × AreArtifacts f before.setup.rules records after.partition_results (unfinished (map restarted rows)) (artifacts_in (filter (is_left rows) ls))) (sym left-back)
          (artifacts-kept f records before.setup rows after.partition_results 0 before.setup.rows rows after.partition_results now named stay so-far-now.each (here rows) (here after.partition_results) done)

      abbrev held-rows : SavedRows
      held-rows = record { step = before.step; rows = rows }

      stands-now : StandsOver f records after
      stands-now = record {
        number = on.number ∙ stands.number;
        setup = on.setup;
        so_far = subst (λ (rs : List Row). IsSoFar f records rs after.partition_results) (sym on.rows_are) (so-far-again f records held-rows after.partition_results so-far-now);
        partitions = ap numbers_in on.artifacts_are ∙ kept-artifacts.0 ∙ sym (ap needs on.rows_are);
        artifacts = subst (λ (ws : List (ℕ × ArtifactsMeaning)). AreArtifacts f after.setup.rules records after.partition_results (unfinished after.setup.rows) (artifacts_in ws)) (sym on.artifacts_are)
            (subst (λ (rs : List Row). AreArtifacts f after.setup.rules records after.partition_results (unfinished rs) (artifacts_in (filter (is_left rows) left))) (sym on.rows_are)
            (subst (λ (rules : RulesRecord). AreArtifacts f rules records after.partition_results (unfinished (rows_restarted held-rows)) (artifacts_in (filter (is_left rows) left))) (sym on.rules_are) kept-artifacts.1));
        follows = λ steady. subst (λ (rs : List Row). FollowRules f after.setup.rules records rs) (sym on.rows_are)
            (subst (λ (rules : RulesRecord). FollowRules f rules records (rows_restarted held-rows)) (sym on.rules_are)
            (raised f before.setup.rules before.setup.rules records held-rows (same-raised before.setup.rules) (follow steady)));
      }

      gone-on : HasGoneOn f records before after rows (new_results_from 0 (map (λ row. row.written) before.setup.rows) left)
      gone-on = record {
        so_far = so-far-now;
        partition_results_are = grown-all f records before.setup rows 0 before.setup.rows rows before.partition_results after.partition_results now named aheads stay
            (λ i row get. (stands.setup.openable.idle i row get).0.placed.at_from) stands.so_far.each so-far-now.each (here rows) done
            ∙ ap (λ (ls : List (ℕ × ArtifactsMeaning)). grown before.partition_results (new_results_from 0 (map (λ row. row.written) before.setup.rows) ls)) (sym left-back);
        number = new_results-length 0 (map (λ row. row.written) before.setup.rows) left ∙ length-written_before before.setup.rows ∙ sym (same-length before.setup.rows rows aheads);
        same = same-length before.setup.rows rows aheads;
        ranges = led-ranges before.setup (artifacts_in before.artifacts) rounds snapshot left ran stands.setup rangesare;
        further = all-further before.setup.rows rows aheads;
        follows = follow;
        stands = stands-now;
      }
        where
          all-further : (olds new_results : List Row) → Pairwise IsAhead olds new_results → AreFurther olds new_results
          all-further [] [] is = tt
          all-further [] (n ∷ ns) is = absurd is
          all-further (o ∷ os) [] is = absurd is
          all-further (o ∷ os) (n ∷ ns) is = (is.0.at, all-further os ns is.1)

          length-written_before : (rs : List Row) → length (map (λ row. row.written) rs) ≡ length rs
          length-written_before [] = refl
          length-written_before (r ∷ rs) = ap suc (length-written_before rs)

          same-length : (olds new_results : List Row) → Pairwise IsAhead olds new_results → length new_results ≡ length olds
          same-length [] [] is = refl
          same-length [] (n ∷ ns) is = absurd is
          same-length (o ∷ os) [] is = absurd is
          same-length (o ∷ os) (n ∷ ns) is = ap suc (same-length os ns is.1)

  pub rows-are-saved : RowsAreSaved
  rows-are-saved f records s rounds snapshot left stands ran = saved f records s rounds snapshot left stands ran

  pub intervals-on : IntervalsGoOn
  intervals-on f records before after results rounds snapshot left stands held ran on = gone-on f records before rounds snapshot left stands ran after results held on

-- ---- FROM CALL TO CALL

pub goes-on : IntervalsGoOn → (f : Function) (records : List (List ℕ)) (before after : RunState) (results : List (List (List ℕ))) (rounds : Option ℕ) (snapshot : Snapshot) (shown : List Row) (left brought finished others : List (ℕ × ArtifactsMeaning))
    → (put new_results : List (List (List ℕ))) (written_before : List ℕ) (rules : RulesRecord) → StandsOver f records before → before.partition_results ≡ newer_partition_results before.artifacts results
    → IsStepRunOf before.setup (artifacts_in before.artifacts) rounds snapshot left → rules ≡ before.setup.rules → shown ≡ snapshot.rows.items → finished ≡ filter (is_done shown) left → others ≡ filter (is_left shown) left → put ≡ newer_partition_results finished results
    → IsGoingOn before.step before.records rules snapshot.rows.items others put after → written_before ≡ map (λ row. row.written) before.setup.rows → brought ≡ left → new_results ≡ new_results_from 0 written_before brought
    → HasGoneOn f records before after snapshot.rows.items new_results
goes-on law f records before after results rounds snapshot shown left brought finished others put new_results written_before rules stands held ran ruled same done kept is on was back new =
    let ends = snapshot.rows.items in
    let partition_results : put ≡ newer_partition_results (filter (is_done ends) left) results =
    is ∙ ap (λ (l : List (ℕ × ArtifactsMeaning)). newer_partition_results l results) (done ∙ ap (λ (rs : List Row). filter (is_done rs) left) same) in
    let step = subst (λ (r : RulesRecord). IsGoingOn before.step before.records r ends others put after) ruled on in
    let next = subst (λ (l : List (ℕ × ArtifactsMeaning)). IsGoingOn before.step before.records before.setup.rules ends l put after) (kept ∙ ap (λ (rs : List Row). filter (is_left rs) left) same) step in
    let last = subst (λ (x : List (List (List ℕ))). IsGoingOn before.step before.records before.setup.rules ends (filter (is_left ends) left) x after) partition_results next in
    let gone = law f records before after results rounds snapshot left stands held ran last in
    let written_before-is : new_results ≡ new_results_from 0 (map (λ row. row.written) before.setup.rows) left = new ∙ ap (new_results_from 0 written_before) back ∙ ap (λ (t : List ℕ). new_results_from 0 t left) was in
    subst (HasGoneOn f records before after ends) (sym written_before-is) gone

pub made-of : (before after : RunState) (rounds : Option ℕ) (snapshot : Snapshot) (left others : List (ℕ × ArtifactsMeaning)) (put : List (List (List ℕ))) (rules : RulesRecord)
    → IsStepRunOf before.setup (artifacts_in before.artifacts) rounds snapshot left → IsGoingOn before.step before.records rules snapshot.rows.items others put after
    → rules ≡ before.setup.rules → after.setup.item_count ≡ before.setup.item_count → IsIntervalRun rounds before snapshot after
made-of before after rounds snapshot left others put rules ran on ruled counted = record {
  left = left;
  run = ran;
  rows = on.rows_are;
  step_is = on.step_is;
  rules_are = on.rules_are ∙ ruled;
  item_count_is = counted;
}
