-- A slice after its checkpoints.
use Rattle.std.proofs.Common.{subst, ◌≡◌, ℕ, Bool, ◌+◌, ◌++◌, List, [], ◌∷◌, length, map, Ok, refl, ap, sym, ◌∙◌, arith}
use Rattle.sqlite_trees.proofs.ListLemmas.{map-map}
use Rattle.jb_job.specs.Reading.{tree_of}
use Rattle.jb_mapper.specs.EvenCover.{even_ranges}
use Rattle.jb_repo.specs.Openable.{AreIdle}
use Rattle.jb_rules.specs.declared.row.Row.{Row}
use Rattle.jb_saved.specs.{GoingOn.{restarted, rows_restarted}, Reading.{answer_of}, SavedRows.{SavedRows}}
use Rattle.jb_records.{specs.Following.{FollowRules, ranges_of}, specs.FollowingLaws.{FaultsAreOfItems}, specs.Function.{steady}, specs.PartitionResults.{IsSoFar}, specs.Intervals.{ResumesFrom, GoesBy, RunState, StandsOver}, specs.declared.step.RecordsStep.{RecordsStep}, proofs.Following.{restarts-keep, rules-raised}}
use Rattle.jb_slice_file.specs.{CheckpointBytes.{CheckpointBytes, checkpoint_bytes}, declared.checkpoint.Checkpoint.{Checkpoint as HeldCheckpoint}}
use Rattle.jb_slices.{specs.Checkpoint.{Begins, Checkpoint, GoesOn, Header}, specs.Job.{AreRaised, Job, Limits, first_of, rules_of}, specs.Slice.{Follow, Functions, SliceState, led, next, slice_state, start}, specs.Function.{Function}, proofs.Passing.{IsStanding}}
use Rattle.jb_slice_run.specs.{Held.{AreIntervalsOf, HasRead, limits_in, new_output_in}, Jobs.{job_in, own_header, stamps_in}, SliceBytes.{AreStoredAs, IsStoredAs, KeepsSlice}, Named.{Faults, faults_by}, Resuming.{HasBegun, HasResumed, IsOpened}, Rows.{results_in, rows_in}, Step.{AreStampsOf}}
use Rattle.jb_slice_run.specs.{Strings.{NewOutput, all_new_output, new_output_of}, Work.{HasIntervals, SliceStandsAt}, declared.job.SliceJob.{SliceJob}, declared.partition_output.HeldSlice.{HeldSlice}, declared.partition_output.PartitionOutput.{PartitionOutput}, declared.resumable_run.Stage.{Stage}}
use Rattle.jb_slice_run.{specs.declared.resumable_run.Stage.TheVariants.{HeaderOnly, NoCheckpoint}, proofs.Beginning.{begins_with_header}, proofs.Holding.{header-alone, limits-read, output-read}, proofs.RowsEnded.{even-order, idle-placed, stamps-of}, proofs.RowsGrown.{grown-rows, ranges-in}}
use Rattle.jb_slice_run.proofs.{RowsSoFar.{so-far-rows}, Telling.{all_once, ok_once}}

-- intervals, the last of which is stored as these bytes, led a slice with this stamp here
record EndsWith (job : Job) (functions : Functions) (number : ℕ) (items : List (List ℕ)) (stamp : List ℕ) (at : SliceState) (last : CheckpointBytes) : Type 0 where
  pub standing : IsStanding job functions number items at
  pub stamp_is : at.stamp ≡ stamp
  pub rows : (held : SavedRows) → answer_of (tree_of last.saved) ≡ Ok held → rows_in at.partitions ≡ held.rows

ends-with : {job : Job} {functions : Functions} {number : ℕ} {items : List (List ℕ)} (at : SliceState) (cs : List Checkpoint) (before : List CheckpointBytes) (last : CheckpointBytes) → AreStoredAs cs (before ++ last ∷ [])
    → Follow job functions number items at cs → AreIntervalsOf job.partitions cs → EndsWith job functions number items at.stamp (led at cs) last
ends-with at (Begins h ∷ cs) before last are follow all = absurd all.0
ends-with at (GoesOn i ∷ []) [] last are follow all = record {
  standing = record { begun = follow.0.begun; ranges = follow.0.ranges; so_far = follow.0.so_far };
  stamp_is = refl;
  rows = λ held read. grown-rows at.partitions i.partitions ∙ sym are.0.rows ∙ ap (λ (x : SavedRows). x.rows) (ok_once (sym are.0.read ∙ read));
}
ends-with at (GoesOn i ∷ c ∷ cs) [] last are follow all = absurd are.1
ends-with at (GoesOn i ∷ cs) (b ∷ before) last are follow all = ends-with (next at (GoesOn i)) cs before last are.1 follow.1 all.1
ends-with at [] [] last are follow all = absurd are
ends-with at [] (b ∷ before) last are follow all = absurd are

-- BEHIND INTERVALS, of which this was read, the run stands
pub underway : FaultsAreOfItems → {j : SliceJob} {functions : Functions} {f : Function} {began : Limits} {number : ℕ} {items : List (List ℕ)} {first : CheckpointBytes} {all : List CheckpointBytes} {held : HeldSlice} {saved : SavedRows}
    → IsOpened j number items began first → (before : List CheckpointBytes) (last : CheckpointBytes) → all ≡ before ++ last ∷ [] → ((cs : List Checkpoint) → AreStoredAs cs all → AreIntervalsOf j.partitions cs → HasRead began j.partitions cs held)
    → answer_of (tree_of last.saved) ≡ Ok saved → AreIdle saved.rows → AreRaised (limits_in held.limits) (limits_in j.limits) → AreStampsOf functions f (stamps_in j) → KeepsSlice (job_in j) functions number items (first ∷ all)
    → (step : RecordsStep) (s : RunState) (rows : List Row) → step.rules ≡ rules_of (job_in j) (limits_in j.limits) → rows ≡ saved.rows → ResumesFrom step.id last.saved (map (λ (n : PartitionOutput). n.results) held.partitions.items) s → GoesBy step s
    → (IsSoFar (steady f) items saved.rows (map (λ (n : PartitionOutput). n.results) held.partitions.items) → FollowRules (steady f) step.rules items (rows_restarted saved) → StandsOver (steady f) items s)
    → HasIntervals (job_in j) functions f (limits_in j.limits) number items s rows (first ∷ all)
underway law {j = j} {functions = functions} {f = f} {number = number} {items = items} {first = first} {all = all} {held = held} {saved = saved} own before last last_is has text sound raised of keeps step s rows rules rows_are behind by stands =
    let job = job_in j in
    let opened = begins_with_header job functions number items first all keeps in
    let cs = Begins opened.header ∷ opened.intervals in
    let kept : AreStoredAs cs (first ∷ all) = (opened.header_kept, opened.intervals_kept) in
    let at = slice_state cs in
    let end = ends-with (next start (Begins opened.header)) opened.intervals before last (subst (AreStoredAs opened.intervals) last_is opened.intervals_kept) opened.so_far.1 opened.are_intervals in
    let saved-rows : rows_in at.partitions ≡ saved.rows = end.rows saved text in
    let again : s.setup.rows ≡ map restarted saved.rows = behind.rows ∙ ap rows_restarted (ok_once (sym behind.read ∙ text)) in
    let stamp-there : functions at.stamp ≡ f = ap functions end.stamp_is ∙ stamps-of functions f (stamps_in j) opened.header.stamp of (own.own opened.header opened.header_kept).stamp_is in
    let even : ranges_of (rows_in at.partitions) ≡ even_ranges (length items) j.partitions = sym (ranges-in at.partitions) ∙ end.standing.ranges in
    let raised-there : AreRaised at.limits (limits_in j.limits) = subst (λ (l : Limits). AreRaised l (limits_in j.limits)) (limits-read keeps own.limits has cs kept) raised in
    let results-there : map (λ (n : PartitionOutput). n.results) held.partitions.items ≡ results_in at.partitions =
    sym (map-map (λ (n : NewOutput). n.results) new_output_in held.partitions.items) ∙ ap (map (λ (n : NewOutput). n.results)) (output-read keeps own.limits has cs kept before last last_is) ∙ map-map (λ (n : NewOutput). n.results) new_output_of at.partitions in
    let both = so-far-rows law f (rules_of job at.limits) (first_of job number) items at.partitions (rw stamp-there at end.standing.so_far) (even-order (length items) j.partitions (rows_in at.partitions) j.some even) (rw saved-rows (idle-placed saved.rows sound)) in
    let so-far = rw (saved-rows, ← results-there) at both.0 in
    let follow = rules-raised (steady f) (rules_of job at.limits) step.rules items saved (rw rules (record { skippable = refl; skips = raised-there.skips })) (rw saved-rows at both.1) in
    record {
      checkpoints = cs;
      keeps = record { stored_as = kept; so_far = opened.so_far; begun = end.standing.begun; stamp_is = stamp-there; raised = raised-there };
      rows_are = saved-rows ∙ sym rows_are;
      partition_results_are = sym results-there ∙ sym behind.partition_results_are;
      partitions = end.standing.so_far;
      runs = record { stands = stands so-far follow; rules_are = by.rules_are ∙ rules; ranges = ap ranges_of again ∙ restarts-keep saved ∙ ap ranges_of (sym saved-rows) ∙ even };
      again = again ∙ ap (map restarted) (sym rows_are);
    }

-- ---- no interval is kept

module _ {j : SliceJob} {f : Function} {number : ℕ} {items : List (List ℕ)} {has_failed : Bool} {stage : Stage} {s : RunState} {rows : List Row} {faults : List Faults} where
  pub at-blank : (own : Header) (first : HeldCheckpoint) → own ≡ own_header j number items → IsStoredAs (Begins own) (checkpoint_bytes first)
      → HasBegun (job_in j) f (limits_in j.limits) items (NoCheckpoint first) has_failed stage s rows faults → HasResumed j f number items [] has_failed stage s rows faults
  at-blank own first own-is kept-as begun = record {
    stands = λ functions of keeps.
        subst (λ (st : Stage). SliceStandsAt (job_in j) functions f (limits_in j.limits) number items st s rows []) (sym begun.stage_is)
        (record { none = refl; stamp = j.stamp.now; stamp_is = of.0; first_is = subst (λ (h : Header). IsStoredAs (Begins h) (checkpoint_bytes first)) own-is kept-as; runs = begun.runs; empty = begun.empty }, begun.none_before);
    holds = λ functions keeps cs kept. begun.no_faults ∙ ap (λ (ds : List Checkpoint). map faults_by (all_new_output (slice_state ds).partitions)) (all_once [] cs [] tt kept);
    agrees = begun.agrees;
    fresh = begun.fresh;
    later = λ many. absurd (omega (arith, many));
    own = tt;
  }

  pub at-header : (began : Limits) (first : CheckpointBytes) → IsOpened j number items began first → AreRaised began (limits_in j.limits)
      → HasBegun (job_in j) f (limits_in j.limits) items HeaderOnly has_failed stage s rows faults → HasResumed j f number items (first ∷ []) has_failed stage s rows faults
  at-header began first own raised begun = record {
    stands = λ functions of keeps.
        let opened = begins_with_header (job_in j) functions number items first [] keeps in
        let stamp = stamps-of functions f (stamps_in j) opened.header.stamp of (own.own opened.header opened.header_kept).stamp_is in
        subst (λ (st : Stage). SliceStandsAt (job_in j) functions f (limits_in j.limits) number items st s rows (first ∷ [])) (sym begun.stage_is) (
          record {
            checkpoints = Begins opened.header ∷ [];
            keeps = record { stored_as = (opened.header_kept, tt); so_far = (opened.so_far.0, tt); begun = refl; stamp_is = stamp; raised = subst (λ (l : Limits). AreRaised l (limits_in j.limits)) (sym (own.limits opened.header opened.header_kept)) raised };
            alone = refl;
            runs = begun.runs;
            empty = begun.empty;
          },
          begun.none_before,
        );
    holds = λ functions keeps cs kept. begun.no_faults ∙ ap (λ (ds : List Checkpoint). map faults_by (all_new_output (slice_state ds).partitions)) (header-alone keeps cs kept);
    agrees = begun.agrees;
    fresh = begun.fresh;
    later = λ many. absurd (omega (arith, many));
    own = own.own;
  }
