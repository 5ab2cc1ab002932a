-- Why a slice isn't resumed.
use Rattle.std.proofs.Common.{◌≡◌, ℕ, ◌++◌, ◌⊎◌, inl, inr, List, [], ◌∷◌, Some, ap, sym, arith}
use Rattle.jb_base.specs.Causes.{IsCause}
use Rattle.jb_job.specs.Reading.{tree_of}
use Rattle.jb_saved.specs.Reading.{answer_of}
use Rattle.jb_step.specs.{declared.error.StepError.{StepError}, restarts.Saving.{text_cause}}
use Rattle.jb_records.specs.{Causes.{Call, Explains as ExplainsStep, OfEach}, Function.{steady}, declared.error.RecordsStepError.{RecordsStepError}, declared.error.RecordsStepError.TheVariants.{Step as StepFault}, declared.step.RecordsStep.{RecordsStep}}
use Rattle.jb_slice_run.specs.{declared.error.SliceError.TheVariants.{Damaged, LoweredLimit, Memory, OtherItems, OtherJob, OtherSlice, OtherStamp, Step}, Causes.{AreDamaged, Explains, InMemory, Resuming}, Held.{AreIntervalsOf, HasRead, limits_in}, Jobs.{job_in, kept_stamps, own_header}, SliceBytes.{AreStoredAs, IsStoredAs}}
use Rattle.jb_slice_run.{specs.Refusals.{IsHeaderCause, IsHeaderRefusal}, specs.Resuming.{IsOpened}, specs.Step.{IsStepOfSlice}, specs.declared.error.SliceError.{SliceError}, specs.declared.job.SliceJob.{SliceJob}, specs.declared.partition_output.HeldSlice.{HeldSlice}, proofs.Beginning.{begins_with_header}}
use Rattle.jb_slice_run.proofs.Holding.{header-alone, limits-read}
use Rattle.jb_slice_file.specs.CheckpointBytes.{CheckpointBytes}
use Rattle.jb_slices.specs.{Checkpoint.{Begins, Checkpoint, Header}, Function.{Function}, Job.{AreRaised, Limits}, Slice.{slice_state}}

-- the last text isn't read
pub unread : (f : Function) (step : RecordsStep) (items : List (List ℕ)) (text : List ℕ) (e : StepError) → IsCause (text_cause e) (answer_of (tree_of text)) → ExplainsStep (Call (steady f) step items (Some (text, OfEach []))) (StepFault e)
unread f step items text e c = grind arith

module _ (job : SliceJob) (f : Function) (number : ℕ) (items : List (List ℕ)) where
  -- the step can't start after the last interval
  pub unbegun-after : {step : RecordsStep} → IsStepOfSlice (job_in job) (limits_in job.limits) job.threads step → {all : List CheckpointBytes} (before : List CheckpointBytes) (last : CheckpointBytes) (partition_results : List (List (List ℕ))) {why : RecordsStepError}
      → all ≡ before ++ last ∷ [] → ExplainsStep (Call (steady f) step items (Some (last.saved, OfEach partition_results))) why → (first : CheckpointBytes) → Explains (Resuming job f number items InMemory (first ∷ all)) (Step why)
  unbegun-after {step = step} step-is before last partition_results is cause first = record {
    step = step;
    step_is = step-is;
    cause = inr (record { before = first ∷ before; last = last; last_is = ap (λ (l : List CheckpointBytes). first ∷ l) is; partition_results = partition_results; cause = cause });
  }

  -- the first checkpoint is refused
  pub refused-as : (first : CheckpointBytes) (later : List CheckpointBytes) (e : SliceError) → IsHeaderRefusal e → ((h : Header) → IsStoredAs (Begins h) first → IsHeaderCause (own_header job number items) (kept_stamps job) h e)
      → Explains (Resuming job f number items InMemory (first ∷ later)) e
  refused-as first later (OtherJob part) of why = why
  refused-as first later OtherSlice of why = why
  refused-as first later OtherItems of why = why
  refused-as first later OtherStamp of why = why
  refused-as first later e of why = absurd of

  damaged : {all : List CheckpointBytes} (e : SliceError) {Q : Type 0} → (Q → AreDamaged (job_in job) number items all) → (e ≡ Memory) ⊎ (e ≡ Damaged) × Q → Explains (Resuming job f number items InMemory all) e
  damaged e to (inl memory) = rw memory tt
  damaged e to (inr why) = rw why.0 (to why.1)

  -- it isn't a header, or some later one isn't an interval
  module _ (first : CheckpointBytes) (later : List CheckpointBytes) where
    pub first-why : (e : SliceError) → (e ≡ Memory) ⊎ (e ≡ Damaged) × ((h : Header) → IsStoredAs (Begins h) first → ⊥) → Explains (Resuming job f number items InMemory (first ∷ later)) e
    first-why e = damaged e (λ none functions keeps. let opened = begins_with_header (job_in job) functions number items first later keeps in none opened.header opened.header_kept)

    pub later-why : (e : SliceError) → (e ≡ Memory) ⊎ (e ≡ Damaged) × ((cs : List Checkpoint) → AreStoredAs cs later → AreIntervalsOf job.partitions cs → ⊥) → Explains (Resuming job f number items InMemory (first ∷ later)) e
    later-why e = damaged e (λ none functions keeps. let opened = begins_with_header (job_in job) functions number items first later keeps in none opened.intervals opened.intervals_kept opened.are_intervals)

  -- a limit is lower than the last interval's
  pub lowered-why : {first : CheckpointBytes} {later : List CheckpointBytes} {began : Limits} {held : HeldSlice} → IsOpened job number items began first
      → ((cs : List Checkpoint) → AreStoredAs cs later → AreIntervalsOf job.partitions cs → HasRead began job.partitions cs held)
      → (e : SliceError) → (e ≡ LoweredLimit) × (AreRaised (limits_in held.limits) (limits_in job.limits) → ⊥) → Explains (Resuming job f number items InMemory (first ∷ later)) e
  lowered-why own has e why = rw why.0 (λ functions keeps raised. why.1 (rw (limits-read keeps own.limits has keeps.checkpoints keeps.stored_as) raised))

  -- or than the header's, which is alone
  pub lowered-first : {first : CheckpointBytes} {began : Limits} → IsOpened job number items began first → (e : SliceError) → (e ≡ LoweredLimit) × (AreRaised began (limits_in job.limits) → ⊥)
      → Explains (Resuming job f number items InMemory (first ∷ [])) e
  lowered-first {first = first} own e why = rw why.0 (λ functions keeps raised.
      let opened = begins_with_header (job_in job) functions number items first [] keeps in
      why.1 (rw (sym (own.limits opened.header opened.header_kept), ap (λ (ds : List Checkpoint). (slice_state ds).limits) (header-alone keeps keeps.checkpoints keeps.stored_as)) raised))
