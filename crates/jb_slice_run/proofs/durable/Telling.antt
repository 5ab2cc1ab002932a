-- What is told of a slice that has ended.
use Rattle.std.proofs.Common.{ℕ, ◌≡◌, List, [], ◌∷◌, cond, false, refl, ap, ◌∙◌, arith}
use Rattle.std.proofs.lemmas.List.{length-map}
use Rattle.std.proofs.lemmas.List.Folds.{flat_map-map}
use Rattle.std.proofs.lemmas.List.Sums.{sum_by-cons}
use Rattle.std.specs.List.{count_by}
use Rattle.sqlite.specs.State.{State}
use Rattle.jb_collect.specs.declared.calls.Status.TheVariants.{Completed, Failed}
use Rattle.jb_rules.specs.declared.row.Row.{Row}
use Rattle.jb_rules.specs.States.{is_failed}
use Rattle.jb_step.specs.Statuses.{status_of}
use Rattle.jb_records.proofs.Following.{has-failed}
use Rattle.jb_records.specs.PartitionResults.{AreAtTheirEnds}
use Rattle.jb_records.specs.Intervals.{RunState}
use Rattle.jb_slice_file.specs.CheckpointBytes.{CheckpointBytes}
use Rattle.jb_slice_file.specs.declared.list_end.ListEnd.{ListEnd}
use Rattle.jb_slices.specs.Checkpoint.{Progress}
use Rattle.jb_slices.specs.Failures.{EachFailureIsNamed, FailuresAreNamed, count_failed}
use Rattle.jb_slices.specs.Function.{Function, all_results}
use Rattle.jb_slices.specs.Job.{Job, Limits}
use Rattle.jb_slices.specs.Slice.{Functions, IsSliceFailed, IsSliceWhole, slice_state}
use Rattle.jb_slices.specs.SliceLaws.{FailedSlicesDont, WholeSlicesHaveAll, WholeSlicesHaveSkips, WholeSlicesPass}
use Rattle.jb_slice_run.specs.Named.{failure_in}
use Rattle.jb_slice_run.specs.RowLaws.{EndsAreOfRows}
use Rattle.jb_slice_run.specs.Rows.{rows_in}
use Rattle.jb_slice_run.specs.Work.{GoesBy, HaveRowsEnded, HasIntervals}
use Rattle.jb_slice_run.specs.durable.Ends.{HasEnded, KeepsAll, Tells}
use Rattle.jb_slice_run.specs.durable.Work.{FileMatchesMemory, LoopEndMatchesRows, Seen, SliceInput}
use Rattle.jb_slice_run.specs.declared.durable.end.SliceEnd.{SliceEnd}
use Rattle.jb_slice_run.specs.declared.durable.loop_end.LoopEnd.TheVariants.{Whole}

-- ---- what rows tell

-- rows of which each is finished tell COMPLETED, and have ended
pub whole_completed : (rows : List Row) → AreAtTheirEnds rows → (status_of rows false ≡ Completed) × HaveRowsEnded rows
whole_completed [] whole = (refl, tt)
whole_completed (row ∷ rows) whole = rw whole.0 (let more = whole_completed rows whole.1 in (more.0, (refl, more.1)))

-- as many rows failed as partitions
count-is : (ps : List Progress) → count_failed ps ≡ count_by (λ (row : Row). is_failed row.state) (rows_in ps)
count-is [] = refl
count-is (p ∷ ps) = let step = sum_by-cons (λ (row : Row). cond (is_failed row.state) 1 0) p.row (rows_in ps) in grind (arith, count-is ps)

-- ---- what is kept

module _ {job : Job} {functions : Functions} {f : Function} {limits : Limits} {number : ℕ} {items : List (List ℕ)} {s : RunState} {rows : List Row} {all : List CheckpointBytes}
    (law : EndsAreOfRows) (at : HasIntervals job functions f limits number items s rows all) where
  -- partitions at their ends are those of a whole slice
  pub whole_at : AreAtTheirEnds rows → IsSliceWhole job functions limits number items at.checkpoints
  whole_at whole = record {
    so_far = at.keeps.so_far;
    begun = at.keeps.begun;
    raised = at.keeps.raised;
    partitions = at.partitions;
    finished = (law (slice_state at.checkpoints).partitions).0.1 (rw at.rows_are whole);
  }

  pub failed_at : GoesBy limits all → status_of rows false ≡ Failed → HaveRowsEnded rows → IsSliceFailed job functions limits number items at.checkpoints
  failed_at by agrees ended = record {
    so_far = at.keeps.so_far;
    limits_are = by at.checkpoints at.keeps.stored_as;
    ended = (law (slice_state at.checkpoints).partitions).1.1 (rw at.rows_are ended);
    failed = (law (slice_state at.checkpoints).partitions).2.1 (rw at.rows_are (has-failed rows agrees));
  }

pub keeps_all : {w : SliceInput} {t : State} {seen : Seen} {end : ListEnd} {all : List CheckpointBytes}
    → EndsAreOfRows → WholeSlicesHaveAll → FileMatchesMemory w t seen end all → LoopEndMatchesRows seen Whole → KeepsAll w t all
keeps_all {w = w} law have rests ended =
    let at = rw ended.ends.0 at rests.stands.place in
    let whole = whole_at law at (ended.agrees.whole ended.ends.1) in
    record {
      keeps = rests.keeps;
      whole = record { checkpoints = at.checkpoints; stored_as = at.keeps.stored_as; whole = whole };
      has_all = record {
        checkpoints = at.checkpoints;
        stored_as = at.keeps.stored_as;
        results = have w.job w.functions w.limits w.number w.items at.checkpoints whole ∙ ap (λ (f : Function). all_results f w.items) at.keeps.stamp_is;
      };
    }

-- ---- what comes of it

pub tells : WholeSlicesHaveAll → WholeSlicesHaveSkips → WholeSlicesPass → FailuresAreNamed → EachFailureIsNamed → FailedSlicesDont
    → (w : SliceInput) (end : SliceEnd) (all : List CheckpointBytes) → HasEnded w end all → Tells w end all
tells have skip pass each number dont w end all so = record {
  ended = so;
  results = λ is. cc (flat_map-map (λ (share : List (List ℕ)). share) (λ (p : Progress). p.results) (slice_state so.checkpoints).partitions, have w.job w.functions w.limits w.number w.items so.checkpoints (so.whole is));
  skips = λ is. cc (skip w.job w.functions w.limits w.number w.items so.checkpoints (so.whole is));
  passes = λ is. rw so.stamp_is at (pass w.job w.functions w.limits w.number w.items so.checkpoints (so.whole is));
  failures = λ is. record {
    each = rw (so.stamp_is, (so.failed is).limits_are, ← so.failures_are) at (each w.job w.functions w.number w.items so.checkpoints so.so_far);
    number = cc (length-map end.failures.items failure_in, number w.job w.functions w.number w.items so.checkpoints so.so_far, count-is (slice_state so.checkpoints).partitions);
  };
  fails = λ is. rw so.stamp_is at (dont w.job w.functions w.limits w.number w.items so.checkpoints (so.failed is));
}
