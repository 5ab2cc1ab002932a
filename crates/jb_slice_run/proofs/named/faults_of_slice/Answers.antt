use Rattle.std.proofs.{Common.{map, arith, ℕ, suc, ◌≡◌, ◌+◌, List, [], ◌∷◌, ◌++◌, length, refl, sym, ap, ◌∙◌}, lemmas.List.{length-map}}
use Rattle.jb_slice_run.specs.{Jobs.{job_in}, Named.{faults_held, AreNamed, Faults, HoldsFaults, failure_in, failures_by, faults_by, skips_by}, Held.{faults_in}, Rows.{rows_in}, Strings.{all_new_output, new_output_of}, Work.{HasIntervals}, declared.named.SliceFaults.{SliceFaults}}
use Rattle.jb_slice_run.proofs.Beginning.{even_length}
use Rattle.jb_slice_run.proofs.named.faults_of_slice.Goals as goal
use Rattle.jb_rules.specs.{Rows.{range_of}, States.{is_failed}, declared.row.Row.{Row}}
use Rattle.jb_records.specs.Intervals.{RunState}
use Rattle.jb_saved.specs.GoingOn.{restarted}
use Rattle.jb_slice_file.specs.CheckpointBytes.{CheckpointBytes}
use Rattle.jb_slices.specs.{Checkpoint.{Progress}, Failures.{failure_and, failures_from}, Function.{Function}, Job.{Job, Limits}, Partitions.{joined_skips}, Slice.{Functions, slice_state}}

skips_are : (ps : List Progress) → skips_by (map faults_by (all_new_output ps)) ≡ joined_skips ps
skips_are [] = refl
skips_are (p ∷ ps) = ap (λ rest. p.skips ++ rest) (skips_are ps)

failures_are : (partition : ℕ) (ps : List Progress) → failures_by partition (rows_in ps) (map faults_by (all_new_output ps)) ≡ failures_from partition ps
failures_are partition [] = refl
failures_are partition (p ∷ ps) = ap (λ rest. failure_and partition p.row (is_failed p.row.state) p.stop rest) (failures_are (suc partition) ps)

module _ (job : Job) (functions : Functions) (f : Function) (limits : Limits) (number : ℕ) (items : List (List ℕ)) (s : RunState) (rows : List Row) (all : List CheckpointBytes)
    (at : HasIntervals job functions f limits number items s rows all) (held : List Faults) (holds : HoldsFaults held all) where
  abbrev ps : List Progress
  ps = (slice_state at.checkpoints).partitions

  are : held ≡ map faults_by (all_new_output ps)
  are = holds at.checkpoints at.keeps.stored_as

  -- as many as there are partitions
  held_number : length held ≡ job.partitions
  held_number =
      ap length are ∙ length-map (all_new_output ps) faults_by ∙ length-map ps new_output_of ∙ sym (length-map ps (λ (p : Progress). p.row)) ∙ ap length at.rows_are
      ∙ sym (length-map rows restarted) ∙ sym (ap length at.again) ∙ sym (length-map s.setup.rows range_of) ∙ ap length at.runs.ranges ∙ even_length (length items) job.partitions

  held_named : (faults : SliceFaults) → faults_in faults.skips.items ≡ skips_by held → map failure_in faults.failures.items ≡ failures_by 0 rows held → AreNamed at.checkpoints faults
  held_named faults skips failures = record {
    skips = skips ∙ ap skips_by are ∙ skips_are ps;
    failures = failures ∙ ap (failures_by 0 rows) are ∙ ap (λ (r : List Row). failures_by 0 r (map faults_by (all_new_output ps))) (sym at.rows_are) ∙ failures_are 0 ps;
  }

-- there are no more than partitions
pub returns-then-faults-job : goal.returns-then-faults-job
returns-then-faults-job c functions f limits number items s all at holds =
    let same = held_number (job_in c.args.job.now) functions f limits number items s c.args.rows.now all at (map faults_held c.args.faults.now) holds in
    absurd (omega (arith, c.if-faults-job.true, length-map c.args.faults.now faults_held, same))

pub returns : goal.returns
returns c functions f limits number items s all at holds =
    held_named (job_in c.args.job.now) functions f limits number items s c.args.rows.now all at (map faults_held c.args.faults.now) holds _ c.in_ok-skips.ensures c.in_ok-failures.ensures
