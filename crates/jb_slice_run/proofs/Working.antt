-- From one checkpoint of a slice to the next: what is new of its partitions, and where it leads.
use Rattle.std.{proofs.Common.{◌≡◌, ℕ, ◌+◌, ◌≤◌, ◌++◌, ◌⊎◌, inl, inr, List, [], ◌∷◌, length, map, Option, refl, ap, sym, subst, ◌∙◌, arith, le_refl, drop}, specs.Prelude.{slice_get}}
use Rattle.jb_base.{proofs.Pairwise.{pairwise-push}, specs.Rules.{RulesRecord}}
use Rattle.jb_mapper.specs.EvenCover.{even_ranges, ith_range}
use Rattle.jb_ready.specs.declared.notes.Note.{Note}
use Rattle.jb_repo.specs.Openable.{AreIdle}
use Rattle.jb_rules.specs.declared.row.Row.{Row}
use Rattle.jb_saved.specs.GoingOn.{restarted}
use Rattle.jb_records.{specs.PartitionResults.{AreAtTheirEnds, AreRowsInOrder, joined}, specs.Following.{FollowRules, ranges_of}, specs.FollowingLaws.{FaultsAreOfItems}, specs.Function.{steady}, specs.Intervals.{HasGoneOn, RunState, StandsOver, grown as joined_with}, proofs.Following.{restarts-keep}}
use Rattle.jb_records.proofs.Joining.{order-rises}
use Rattle.jb_slice_file.specs.{CheckpointBytes.{CheckpointBytes}, declared.checkpoint.Checkpoint.{Checkpoint as HeldCheckpoint}}
use Rattle.jb_slices.specs.{Checkpoint.{Begins, Checkpoint, GoesOn, Interval, Progress, header_of}, Job.{AreRaised, IsRaised, Job, Limits, first_of, rules_of}, Slice.{Functions, IsInterval, IsStateSoFar, SliceState, led, next, slice_state, start}, Function.{Function}, Partitions.{AreFinished, ArePartitionsSoFar, grown}}
use Rattle.jb_slices.proofs.Following.{one_more}
use Rattle.jb_slice_run.specs.{Rows.{ArePlaced, AreStopsNamed, HaveRisen, IsStopNamed, progresses_of, progresses_since, results_in, rows_in, begins_of, places_of}, Work.{GoesOnFrom, HasHeaderOnly, HasGoneOnTo, HasNoCheckpoint, HasIntervals, KeepsBegun, RunsSlice, SliceStandsAt}, Coding.{AreCodable}}
use Rattle.jb_slice_run.specs.{Causes.{Explains, NextInterval}, SliceBytes.{AreStoredAs, IsStoredAs, KeepsSlice}, Named.{Faults, HoldsFaults, faults_by, faults_grown}, NewOutput.{AreNewOutputsOf, CanAllGrow, from_of}, Strings.{NewOutput, all_new_output, interval_lists}, Whole.{KeepsWhole}}
use Rattle.jb_slice_run.{specs.declared.error.SliceError.{SliceError}, specs.declared.error.SliceError.TheVariants.{Memory, TooLong}, specs.declared.resumable_run.Stage.{Stage}, specs.declared.resumable_run.Stage.TheVariants.{HeaderOnly, NoCheckpoint, SomeIntervals}, proofs.Holding.{grown-faults}}
use Rattle.jb_slice_run.proofs.{RowsEnded.{ends-of, even-order, idle-placed, restarted-placed, whole-again}, RowsGrown.{as-many, follows-so, grown-is, grown-rows, have-made}, RowsSoFar.{so-far-rows}, Telling.{all_once}}

-- ---- where the partitions were

abbrev pub froms : (before rows : List Row) → List ℕ
froms before [] = []
froms before (row ∷ rows) = from_of (slice_get before 0) row ∷ froms (drop 1 before) rows

-- at their first records, before the first interval
pub froms-first : (rows : List Row) → froms [] rows ≡ begins_of rows
froms-first [] = refl
froms-first (row ∷ rows) = ap (λ ns. row.lo ∷ ns) (froms-first rows)

-- at the checkpoints of the rows before
pub froms-later : (before rows : List Row) → HaveRisen before rows → froms before rows ≡ places_of before
froms-later [] [] risen = refl
froms-later (b ∷ before) (row ∷ rows) risen = ap (λ ns. b.at ∷ ns) (froms-later before rows risen.1)
froms-later _ _ risen = absurd risen

module _ (f : Function) (rules : RulesRecord) (first : ℕ) (items : List (List ℕ)) where
  -- ---- what is new, as progresses

  pub listed : (before rows : List Row) (results : List (List (List ℕ))) (new_output : List NewOutput) → AreNewOutputsOf f rules first items before rows results new_output
      → (stops : List (Option Note)) × (all_new_output (progresses_since f first items (froms before rows) rows results stops) ≡ new_output) × AreStopsNamed f rules items rows stops
  listed before [] [] [] are = ([], refl, tt)
  listed before (row ∷ rows) (one ∷ results) (new ∷ new_output) are =
      let is = are.0 in
      let more = listed (drop 1 before) rows results new_output are.1 in (
        is.agrees.stop ∷ more.0,
        λ i. record { results = sym is.results_are i; skips = sym is.skips_are i; stop = sym is.agrees.stop_is i } ∷ more.1 i,
        (is.agrees.named, more.2),
      )
  listed before _ _ _ are = absurd are

  -- ---- they can grow

  pub can-begin : (from : ℕ) (rows : List Row) → AreRowsInOrder from (length items) rows → ArePlaced rows → FollowRules (steady f) rules items rows → CanAllGrow f rules items [] rows
  can-begin from [] order placed follow = tt
  can-begin from (r ∷ rows) order placed follow =
      (record { placed = placed.0; within = order-rises r.hi (length items) rows order.2; follows = follow.0; since = tt }, can-begin r.hi rows order.2 placed.1 follow.1)

  pub can-go-on : (from : ℕ) (other : RulesRecord) (before rows : List Row) → AreRowsInOrder from (length items) rows → ranges_of rows ≡ ranges_of before → ArePlaced before → ArePlaced rows
      → FollowRules (steady f) other items before → FollowRules (steady f) rules items rows → HaveRisen before rows → CanAllGrow f rules items before rows
  can-go-on from other before [] order ranges was placed counted follow risen = tt
  can-go-on from other [] (r ∷ rows) order ranges was placed counted follow risen = absurd risen
  can-go-on from other (b ∷ before) (r ∷ rows) order ranges was placed counted follow risen = (
    record {
      placed = placed.0;
      within = order-rises r.hi (length items) rows order.2;
      follows = follow.0;
      since = record { lo = ap (λ rs. (ith_range rs 0).lo) ranges; from = was.0.at_from; at = risen.0; counted = counted.0.counted };
    },
    can-go-on r.hi other before rows order.2 (ap (drop 1) ranges) was.1 placed.1 counted.1 follow.1 risen.1,
  )

-- ---- limits

same-limit : (limit : Option ℕ) → IsRaised limit limit
same-limit limit = grind arith

pub same-limits : (limits : Limits) → AreRaised limits limits
same-limits limits = record { skips = same-limit limits.skips; job_skips = same-limit limits.job_skips; retries = le_refl limits.retries }

-- ---- one checkpoint more

led-more : (at : SliceState) (cs : List Checkpoint) (c : Checkpoint) → led at (cs ++ c ∷ []) ≡ next (led at cs) c
led-more at [] c = refl
led-more at (d ∷ cs) c = led-more (next at d) cs c

-- ---- rows that wait again stay where they were

at-by : (row : Row) → (restarted row).at ≡ row.at
at-by row = grind arith

risen-before : (before rows : List Row) → HaveRisen (map restarted before) rows → HaveRisen before rows
risen-before [] [] risen = tt
risen-before (b ∷ before) (row ∷ rows) risen = (subst (λ n. n ≤ row.at) (at-by b) risen.0, risen-before before rows risen.1)
risen-before _ _ risen = absurd risen

-- they are placed, and were before
placed-of : {f : Function} {items : List (List ℕ)} {s : RunState} (rows : List Row) → StandsOver (steady f) items s → s.setup.rows ≡ map restarted rows → ArePlaced rows
placed-of rows stands again = (restarted-placed (record { step = []; rows = rows })).0 (idle-placed (map restarted rows) (subst AreIdle again stands.setup.openable.idle))

-- ---- results

fronts-empty : {A : Type 0} (xs ys : List A) → xs ++ ys ≡ [] → (xs ≡ []) × (ys ≡ [])
fronts-empty [] ys e = (refl, e)
fronts-empty (x ∷ xs) ys e = let none : ⊥ = cc in absurd none

-- where there is no result yet, what is new is all
first-results : (partition_results new_output : List (List (List ℕ))) → joined partition_results ≡ [] → length new_output ≡ length partition_results → joined_with partition_results new_output ≡ new_output
first-results [] [] empty number = refl
first-results (share ∷ partition_results) (new ∷ new_output) empty number =
    let parts = fronts-empty share (joined partition_results) empty in
    λ i. (parts.0 i ++ new) ∷ first-results partition_results new_output parts.1 (omega (arith, number)) i
first-results _ _ empty number = absurd (omega (arith, number))

-- ---- ONE INTERVAL

-- the run went from one state to another, by an interval with these rows and results; `new_output` is what a call answered of these
module _ (law : FaultsAreOfItems) {job : Job} {f : Function} {limits : Limits} {number : ℕ} {items : List (List ℕ)} {s t : RunState} {before rows : List Row} {results : List (List (List ℕ))} (new_output : List NewOutput)
    (some : 1 ≤ job.partitions) (goes : StandsOver (steady f) items s → HasGoneOn (steady f) items s t rows results) (waits : t.setup.rows ≡ map restarted rows) (by : t.setup.rules ≡ s.setup.rules)
    (answered : length results ≡ length rows → CanAllGrow f (rules_of job limits) items before rows → AreNewOutputsOf f (rules_of job limits) (first_of job number) items before rows results new_output)
    (functions : Functions) (all : List CheckpointBytes) (from-there : GoesOnFrom job functions f limits number items s before all) where
  abbrev own : RulesRecord
  own = rules_of job limits

  abbrev from : ℕ
  from = first_of job number

  runs-before : RunsSlice job f limits items s
  runs-before = elim from-there [ inl at ↦ at.0.runs | inr at ↦ at.runs ]

  gone : HasGoneOn (steady f) items s t rows results
  gone = goes runs-before.stands

  placed-now : ArePlaced rows
  placed-now = placed-of rows gone.stands waits

  even-now : ranges_of rows ≡ even_ranges (length items) job.partitions
  even-now = gone.ranges ∙ runs-before.ranges

  follow-now : FollowRules (steady f) own items rows
  follow-now = subst (λ (r : RulesRecord). FollowRules (steady f) r items rows) runs-before.rules_are (gone.follows (λ fields. refl))

  -- the checkpoints before, from which the partitions can grow
  record IsBehind : Type 0 where
    pub checkpoints : List Checkpoint
    pub keeps : KeepsBegun job functions f limits number items checkpoints all
    pub can : CanAllGrow f own items before rows
    pub grows : (stops : List (Option Note)) → length stops ≡ length rows
        → grown (slice_state checkpoints).partitions (progresses_since f from items (froms before rows) rows results stops) ≡ progresses_of f from items rows t.partition_results stops

  -- the header alone
  behind-first : HasHeaderOnly job functions f limits number items s all → before ≡ [] → IsBehind
  behind-first at none =
      let now = gone.partition_results_are ∙ first-results s.partition_results results at.empty.empty (gone.number ∙ gone.same ∙ sym (as-many _ s.setup.rows s.partition_results at.empty.numbered)) in
      record {
        checkpoints = at.checkpoints;
        keeps = at.keeps;
        can = subst (λ (b : List Row). CanAllGrow f own items b rows) (sym none) (can-begin f own from items 0 rows gone.so_far.order placed-now follow-now);
        grows = λ stops many.
            ap (λ (b : List Progress). grown b (progresses_since f from items (froms before rows) rows results stops)) at.alone ∙ ap (λ (ns : List ℕ). progresses_since f from items ns rows results stops) (ap (λ (b : List Row). froms b rows) none ∙ froms-first rows)
            ∙ ap (λ (x : List (List (List ℕ))). progresses_of f from items rows x stops) (sym now);
      }

  -- intervals
  behind-later : HasIntervals job functions f limits number items s before all → IsBehind
  behind-later at =
      let ps = (slice_state at.checkpoints).partitions in
      let rules = rules_of job (slice_state at.checkpoints).limits in
      let even : ranges_of (rows_in ps) ≡ even_ranges (length items) job.partitions = ap ranges_of at.rows_are ∙ sym (ap ranges_of at.again ∙ restarts-keep (record { step = []; rows = before })) ∙ at.runs.ranges in
      let placed : ArePlaced (rows_in ps) = subst ArePlaced (sym at.rows_are) (placed-of before at.runs.stands at.again) in
      let parts : ArePartitionsSoFar f rules from 0 items ps = subst (λ (g : Function). ArePartitionsSoFar g rules from 0 items ps) at.keeps.stamp_is at.partitions in
      let order : AreRowsInOrder 0 (length items) (rows_in ps) = even-order (length items) job.partitions (rows_in ps) some even in
      let same : ranges_of rows ≡ ranges_of (rows_in ps) = even-now ∙ sym even in
      let risen : HaveRisen (rows_in ps) rows = subst (λ (b : List Row). HaveRisen b rows) (sym at.rows_are) (risen-before before rows (subst (λ (b : List Row). HaveRisen b rows) at.again gone.further)) in
      record {
        checkpoints = at.checkpoints;
        keeps = at.keeps;
        can = subst (λ (b : List Row). CanAllGrow f own items b rows) at.rows_are (can-go-on f own from items 0 rules (rows_in ps) rows gone.so_far.order same placed placed-now (so-far-rows law f rules from items ps parts order placed).1 follow-now risen);
        grows = λ stops many.
            ap (λ (ns : List ℕ). grown ps (progresses_since f from items ns rows results stops)) (ap (λ (b : List Row). froms b rows) (sym at.rows_are) ∙ froms-later (rows_in ps) rows risen)
            ∙ grown-is law f rules from items ps rows results stops parts order placed same risen placed-now gone.number many
            ∙ ap (λ (x : List (List (List ℕ))). progresses_of f from items rows x stops) (ap (λ (x : List (List (List ℕ))). joined_with x results) at.partition_results_are ∙ sym gone.partition_results_are);
      }

  behind : IsBehind
  behind = elim from-there [ inl at ↦ behind-first at.0 at.1 | inr at ↦ behind-later at ]

  -- the next interval, of which this is new, and where it leads
  new : (stops : List (Option Note)) × (all_new_output (progresses_since f from items (froms before rows) rows results stops) ≡ new_output) × AreStopsNamed f own items rows stops
  new = listed f own from items before rows results new_output (answered gone.number behind.can)

  abbrev interval : Interval
  interval = record { limits = limits; partitions = progresses_since f from items (froms before rows) rows results new.0 }

  grows : grown (slice_state behind.checkpoints).partitions interval.partitions ≡ progresses_of f from items rows t.partition_results new.0
  grows = behind.grows new.0 (as-many (IsStopNamed f own items) rows new.0 new.2)

  follows : IsInterval job functions number items (slice_state behind.checkpoints) interval
  follows = follows-so law job functions f limits number items (slice_state behind.checkpoints) rows t.partition_results new.0 interval.partitions grows behind.keeps.begun behind.keeps.stamp_is behind.keeps.raised even-now gone.so_far follow-now placed-now new.2

  -- once the interval's checkpoint is kept, the work has gone on
  pub gone-on : (one : CheckpointBytes) → ((i : Interval) → i.limits ≡ limits → all_new_output i.partitions ≡ new_output → rows ≡ rows_in i.partitions → IsStoredAs (GoesOn i) one) → {held now : List Faults} → now ≡ faults_grown held new_output
      → HasGoneOnTo job functions f limits number items all held t rows now one
  gone-on one bytes {held = held} now-is =
      let cs = behind.checkpoints ++ GoesOn interval ∷ [] in
      let place : slice_state cs ≡ next (slice_state behind.checkpoints) (GoesOn interval) = led-more start behind.checkpoints (GoesOn interval) in
      let made = have-made f from items own rows t.partition_results new.0 gone.so_far new.2 in
      let rows-are = sym (grown-rows (slice_state behind.checkpoints).partitions interval.partitions) ∙ ap rows_in grows ∙ made.0 in
      let news = sym new.1 in
      let stored : AreStoredAs cs (all ++ one ∷ []) = pairwise-push IsStoredAs behind.checkpoints all (GoesOn interval) one behind.keeps.stored_as (bytes interval refl new.1 (sym rows-are)) in
      record {
        at = record {
          checkpoints = cs;
          keeps = record {
            stored_as = stored;
            so_far = one_more job functions number items behind.checkpoints (GoesOn interval) behind.keeps.so_far follows;
            begun = ap (λ (p : SliceState). p.begun) place ∙ behind.keeps.begun;
            stamp_is = ap (λ (p : SliceState). functions p.stamp) place ∙ behind.keeps.stamp_is;
            raised = subst (λ (p : SliceState). AreRaised p.limits limits) (sym place) (same-limits limits);
          };
          rows_are = ap (λ (p : SliceState). rows_in p.partitions) place ∙ ap rows_in grows ∙ made.0;
          partition_results_are = ap (λ (p : SliceState). results_in p.partitions) place ∙ ap results_in grows ∙ made.1;
          partitions = subst (IsStateSoFar job functions number items) (sym place) follows.so_far;
          runs = record { stands = gone.stands; rules_are = by ∙ runs-before.rules_are; ranges = ap ranges_of waits ∙ restarts-keep (record { step = []; rows = rows }) ∙ even-now };
          again = waits;
        };
        by = λ ds are. ap (λ (es : List Checkpoint). (slice_state es).limits) (all_once ds cs (all ++ one ∷ []) are stored) ∙ ap (λ (p : SliceState). p.limits) place;
        holds = λ holds ds are.
            now-is ∙ (λ i. faults_grown (holds behind.checkpoints behind.keeps.stored_as i) (news i))
            ∙ grown-faults (slice_state behind.checkpoints).partitions interval.partitions
            ∙ sym (ap (λ (es : List Checkpoint). map faults_by (all_new_output (slice_state es).partitions)) (all_once ds cs (all ++ one ∷ []) are stored) ∙ ap (λ (p : SliceState). map faults_by (all_new_output p.partitions)) place);
      }

  -- or it has no bytes
  pub no-bytes : (e : SliceError) → (e ≡ Memory) ⊎ (e ≡ TooLong) × (AreCodable (interval_lists limits new_output) → ⊥) → Explains (NextInterval job functions number items all) e
  no-bytes e (inl memory) = rw memory tt
  no-bytes e (inr why) = rw why.0 (record { checkpoints = behind.checkpoints; stored_as = behind.keeps.stored_as; interval = interval; follows = follows; long = λ codable. why.1 (subst AreCodable (ap (interval_lists limits) new.1) codable) })

-- ---- WHERE THE WORK STANDS

-- a whole slice is one so far
pub whole-keeps : {job : Job} {functions : Functions} {limits : Limits} {number : ℕ} {items : List (List ℕ)} {all : List CheckpointBytes} → KeepsWhole job functions limits number items all → KeepsSlice job functions number items all
whole-keeps whole = record { checkpoints = whole.checkpoints; stored_as = whole.stored_as; so_far = whole.whole.so_far }

module _ {job : Job} {functions : Functions} {f : Function} {limits : Limits} {number : ℕ} {items : List (List ℕ)} {all : List CheckpointBytes} where
  pub slice-kept : {cs : List Checkpoint} → KeepsBegun job functions f limits number items cs all → KeepsSlice job functions number items all
  slice-kept {cs = cs} keeps = record { checkpoints = cs; stored_as = keeps.stored_as; so_far = keeps.so_far }

  -- partitions at their ends are those of a whole slice
  pub whole-kept : {s : RunState} {rows : List Row} → HasIntervals job functions f limits number items s rows all → AreAtTheirEnds rows → KeepsWhole job functions limits number items all
  whole-kept at whole = record {
    checkpoints = at.checkpoints;
    stored_as = at.keeps.stored_as;
    whole = record {
      so_far = at.keeps.so_far;
      begun = at.keeps.begun;
      raised = at.keeps.raised;
      partitions = at.partitions;
      finished = (ends-of (slice_state at.checkpoints).partitions).0.1 (subst AreAtTheirEnds (sym at.rows_are) whole);
    };
  }

  -- a run behind one has nothing left
  pub nothing-left : {s : RunState} {rows : List Row} → HasIntervals job functions f limits number items s rows all → KeepsWhole job functions limits number items all → AreAtTheirEnds s.setup.rows
  nothing-left {rows = rows} at whole =
      let finished = subst (λ (ds : List Checkpoint). AreFinished (slice_state ds).partitions) (all_once whole.checkpoints at.checkpoints all whole.stored_as at.keeps.stored_as) whole.whole.finished in
      subst AreAtTheirEnds (sym at.again) ((whole-again rows).0 (subst AreAtTheirEnds at.rows_are ((ends-of (slice_state at.checkpoints).partitions).0.0 finished)))

  -- the header is kept
  pub first-kept : {s : RunState} {first : CheckpointBytes} → HasNoCheckpoint job functions f limits number items first s all → HasHeaderOnly job functions f limits number items s (all ++ first ∷ [])
  first-kept {first = first} at = record {
    checkpoints = Begins (header_of job limits at.stamp number items) ∷ [];
    keeps = record { stored_as = subst (λ (a : List CheckpointBytes). AreStoredAs (Begins (header_of job limits at.stamp number items) ∷ []) (a ++ first ∷ [])) (sym at.none) (at.first_is, tt); so_far = (record { first = refl; header_is = refl }, tt); begun = refl; stamp_is = at.stamp_is; raised = same-limits limits };
    alone = refl;
    runs = at.runs;
    empty = at.empty;
  }

  -- which holds no faults, as there were none before it
  pub first-holding : {s : RunState} {first : CheckpointBytes} → HasNoCheckpoint job functions f limits number items first s all → {held : List Faults} → HoldsFaults held all → HoldsFaults held (all ++ first ∷ [])
  first-holding {first = first} at holds cs kept =
      let header = first-kept at in
      holds [] (subst (AreStoredAs []) (sym at.none) tt) ∙ ap (λ (ps : List Progress). map faults_by (all_new_output ps)) (sym header.alone ∙ ap (λ (ds : List Checkpoint). (slice_state ds).partitions) (all_once header.checkpoints cs (all ++ first ∷ []) header.keeps.stored_as kept))

  -- and where some checkpoint is kept it goes on
  pub goes-from : {s : RunState} {rows : List Row} (stage : Stage) → ((first : HeldCheckpoint) → stage ≡ NoCheckpoint first → ⊥) → SliceStandsAt job functions f limits number items stage s rows all → GoesOnFrom job functions f limits number items s rows all
  goes-from (NoCheckpoint first) kept at = absurd (kept first refl)
  goes-from HeaderOnly kept at = inl at
  goes-from SomeIntervals kept at = inr at
