-- Progresses that grow, as intervals.
use Rattle.std.{specs.List.{AllByRecursion}, proofs.Common.{◌≡◌, ℕ, suc, ◌++◌, true, List, [], ◌∷◌, length, drop, Option, option_map, refl, ap, sym, subst, ◌∙◌, arith}, proofs.lemmas.List.{length-map, map-append}}
use Rattle.jb_base.specs.{Pairwise.{Pairwise}, Rules.{RulesRecord}}
use Rattle.jb_mapper.specs.EvenCover.{even_ranges, ith_range}
use Rattle.jb_ready.specs.declared.notes.Note.{Note}
use Rattle.jb_rules.specs.declared.row.Row.{Row}
use Rattle.jb_records.specs.{Following.{FollowRules, ranges_of}, FollowingLaws.{FaultsAreOfItems}, Intervals.{grown as joined_with}, Function.{steady}, PartitionResults.{IsPartitionResult, IsSoFar}, Skips.{skips_between}}
use Rattle.jb_slices.specs.{Job.{AreRaised, Job, Limits, first_of, rules_of}, Checkpoint.{Progress}, Function.{Function}, Partitions.{ArePartitionsSoFar, grown, ranges_of as ranges_by}, Slice.{Functions, IsInterval, SliceState}}
use Rattle.jb_slice_run.specs.{Rows.{ArePlaced, AreStopsNamed, HaveRisen, IsStopNamed, begins_of, fault_at, faults_at, places_of, progresses_of, progresses_since, results_in, rows_in}, RowLaws.{FirstIntervalsFollow, GrownIsProgress, LaterIntervalsFollow, ProgressesHaveRows}}
use Rattle.jb_slice_run.proofs.{RowsSoFar.{skips-join, IsPart, parts-all, rows-so-far, skips-of}, RowsEnded.{even-order}}

pub as-many : {A B : Type 0} → (R : A → B → Type 0) (xs : List A) (ys : List B) → Pairwise R xs ys → length ys ≡ length xs
as-many R [] [] are = refl
as-many R (x ∷ xs) (y ∷ ys) are = ap suc (as-many R xs ys are.1)
as-many R _ _ are = absurd are

-- ---- what they are made of

pub have-rows : ProgressesHaveRows
have-rows f first records [] [] [] stops fs ss ts = (refl, refl)
have-rows f first records (from ∷ others) (row ∷ rows) (share ∷ partition_results) (stop ∷ stops) fs ss ts =
    let later = have-rows f first records others rows partition_results stops (omega (arith, fs)) (omega (arith, ss)) (omega (arith, ts)) in
    (ap (λ rs. row ∷ rs) later.0, ap (λ xs. share ∷ xs) later.1)
have-rows f first records _ _ _ _ fs ss ts = absurd (omega (arith, fs, ss, ts))

-- those of a run so far
pub have-made : (f : Function) (first : ℕ) (records : List (List ℕ)) (rules : RulesRecord) (rows : List Row) (partition_results : List (List (List ℕ))) (stops : List (Option Note)) → IsSoFar (steady f) records rows partition_results → AreStopsNamed f rules records rows stops
    → (rows_in (progresses_of f first records rows partition_results stops) ≡ rows) × (results_in (progresses_of f first records rows partition_results stops) ≡ partition_results)
have-made f first records rules rows partition_results stops so-far named =
    have-rows f first records (begins_of rows) rows partition_results stops (length-map rows (λ (row : Row). row.lo)) (as-many (IsPartitionResult (steady f) records) rows partition_results so-far.each) (as-many (IsStopNamed f rules records) rows stops named)

pub grown-rows : (ps qs : List Progress) → rows_in (grown ps qs) ≡ rows_in qs
grown-rows [] qs = refl
grown-rows (p ∷ ps) [] = refl
grown-rows (p ∷ ps) (q ∷ qs) = ap (λ rs. q.row ∷ rs) (grown-rows ps qs)

pub ranges-in : (ps : List Progress) → ranges_by ps ≡ ranges_of (rows_in ps)
ranges-in [] = refl
ranges-in (p ∷ ps) = ap (λ rs. record { lo = p.row.lo; hi = p.row.hi } ∷ rs) (ranges-in ps)

-- ---- WHAT IS NEW, BEHIND WHAT THERE WAS

module _ (law : FaultsAreOfItems) (f : Function) (rules : RulesRecord) (first : ℕ) (records : List (List ℕ)) where
  grown-from : (ps : List Progress) (rows : List Row) (new_output : List (List (List ℕ))) (stops : List (Option Note)) → AllByRecursion (IsPart law f rules first records) ps → ranges_of rows ≡ ranges_of (rows_in ps) → HaveRisen (rows_in ps) rows
      → length new_output ≡ length rows → length stops ≡ length rows
      → grown ps (progresses_since f first records (places_of (rows_in ps)) rows new_output stops) ≡ progresses_of f first records rows (joined_with (results_in ps) new_output) stops
  grown-from [] [] new_output stops are ranges risen ns ts = refl
  grown-from (p ∷ ps) (row ∷ rows) (new ∷ new_output) (stop ∷ stops) are ranges risen ns ts =
      let lo : row.lo ≡ p.row.lo = ap (λ rs. (ith_range rs 0).lo) ranges in
      let old = skips_between (steady f) records p.row.lo p.row.at in
      let new-skips = skips_between (steady f) records p.row.at row.at in
      let skips : p.skips ++ faults_at first new-skips ≡ faults_at first (skips_between (steady f) records row.lo row.at) =
      rw (lo, skips-of law f rules first records p are.0) (sym (map-append (fault_at first) old new-skips) ∙ ap (faults_at first) (skips-join f records p.row.lo p.row.at row.at are.0.placed.at_from risen.0)) in
      let later = grown-from ps rows new_output stops are.1 (ap (drop 1) ranges) risen.1 (omega (arith, ns)) (omega (arith, ts)) in
      λ i. record { row = row; results = p.results ++ new; skips = skips i; stop = option_map (fault_at first) stop } ∷ later i
  grown-from (p ∷ ps) (row ∷ rows) _ _ are ranges risen ns ts = absurd (omega (arith, ns, ts))
  grown-from _ _ new_output stops are ranges risen ns ts = absurd risen

pub grown-is : FaultsAreOfItems → GrownIsProgress
grown-is law f rules first records ps rows new_output stops parts order placed ranges risen now ns ts = grown-from law f rules first records ps rows new_output stops (parts-all law f rules first records 0 ps parts order placed) ranges risen ns ts

-- ---- INTERVALS

pub follows-so : FaultsAreOfItems → (job : Job) (functions : Functions) (f : Function) (limits : Limits) (number : ℕ) (items : List (List ℕ)) (at : SliceState) (rows : List Row) (partition_results : List (List (List ℕ))) (stops : List (Option Note))
    (new : List Progress) → grown at.partitions new ≡ progresses_of f (first_of job number) items rows partition_results stops → at.begun ≡ true → functions at.stamp ≡ f → AreRaised at.limits limits
    → ranges_of rows ≡ even_ranges (length items) job.partitions → IsSoFar (steady f) items rows partition_results → FollowRules (steady f) (rules_of job limits) items rows
    → ArePlaced rows → AreStopsNamed f (rules_of job limits) items rows stops
    → IsInterval job functions number items at (record { limits = limits; partitions = new })
follows-so law job functions f limits number items at rows partition_results stops new grows begun is raised ranges so-far follow placed named =
    let first = first_of job number in
    let rules = rules_of job limits in
    record {
      begun = begun;
      raised = raised;
      ranges = rw grows (ranges-in (progresses_of f first items rows partition_results stops) ∙ ap ranges_of (have-made f first items rules rows partition_results stops so-far named).0 ∙ ranges);
      so_far = rw (is, grows) (rows-so-far law f rules first items rows partition_results stops so-far follow placed named);
    }

pub first-follow : FaultsAreOfItems → FirstIntervalsFollow
first-follow law job functions f limits number items at rows partition_results stops begun none is raised ranges so-far follow placed named =
    let new = progresses_of f (first_of job number) items rows partition_results stops in
    follows-so law job functions f limits number items at rows partition_results stops new (ap (λ ps. grown ps new) none) begun is raised ranges so-far follow placed named

pub later-follow : FaultsAreOfItems → LaterIntervalsFollow
later-follow law job functions f limits number items at rows new_output stops begun here were some is raised before risen ns ranges so-far follow placed named =
    let first = first_of job number in
    let partition_results = joined_with (results_in at.partitions) new_output in
    let even : ranges_of (rows_in at.partitions) ≡ even_ranges (length items) job.partitions = sym (ranges-in at.partitions) ∙ were in
    let parts = subst (λ g. ArePartitionsSoFar g (rules_of job at.limits) first 0 items at.partitions) is here in
    let grows = grown-is law f (rules_of job at.limits) first items at.partitions rows new_output stops parts (even-order (length items) job.partitions (rows_in at.partitions) some even) before
    (ranges ∙ sym even) risen placed ns (as-many (IsStopNamed f (rules_of job limits) items) rows stops named) in
    follows-so law job functions f limits number items at rows partition_results stops (progresses_since f first items (places_of (rows_in at.partitions)) rows new_output stops) grows begun is raised ranges so-far follow placed named
