-- Why a slice's run has no end.
use Rattle.std.proofs.Common.{ℕ, ◌≡◌, ◌⊎◌, ◌≤◌, ◌+◌, ◌-◌, ◌^◌, ◌++◌, inl, inr, List, [], ◌∷◌, arith, rules}
use Rattle.std.proofs.lemmas.Bool.{cases_Bool}
use Rattle.sqlite.specs.State.{HasCleanDisk, State}
use Rattle.sqlite.specs.Tree.{Trees}
use Rattle.jb_slice_file.specs.ListEnd.{count_of}
use Rattle.jb_slice_file.specs.Rows.{HasNumber, IsTooLong, StandsFor}
use Rattle.jb_slice_file.specs.declared.list_end.ListEnd.{ListEnd}
use Rattle.jb_slice_file.specs.CheckpointBytes.{CheckpointBytes}
use Rattle.jb_slice_file.specs.Errors.{IsCaused, IsListRefusal, IsOpenCause}
use Rattle.jb_slice_file.specs.declared.error.StoreError.{StoreError}
use Rattle.jb_slices.specs.Function.{Function}
use Rattle.jb_slices.specs.Slice.{Functions}
use Rattle.jb_slice_run.specs.Causes.{AnyInterval, Ending, Explains, HasEachNumber, InMemory, IsRefusedBy, NextInterval, OfFile, Resuming, RunningSlice}
use Rattle.jb_slice_run.specs.Held.{limits_in}
use Rattle.jb_slice_run.specs.Jobs.{job_in, kept_stamps, own_header}
use Rattle.jb_slice_run.specs.Laws.{OwnSlicesResume, SlicesBeginWithHeaders}
use Rattle.jb_slice_run.specs.Refusals.{IsRefusal, store_refusal}
use Rattle.jb_slice_run.specs.SliceBytes.{KeepsSlice}
use Rattle.jb_slice_run.specs.durable.Ends.{BreaksOff}
use Rattle.jb_slice_run.specs.durable.Work.{FileMatchesMemory, IsLater, IsResumed, IsShown, Seen, SliceInput, SoFar, slice_input_of}
use Rattle.jb_slice_run.specs.declared.error.SliceError.{SliceError}
use Rattle.jb_slice_run.specs.declared.error.SliceError.TheVariants.{Damaged, OtherStamp}
use Rattle.jb_slice_run.specs.declared.job.SliceJob.{SliceJob}
use Rattle.jb_slice_run.specs.declared.durable.loop_end.LoopEnd.{LoopEnd}
use Rattle.jb_slice_run.specs.declared.durable.loop_end.LoopEnd.TheVariants.{Intervals}

-- ---- a later state

pub later_on : {old mid new : State} → IsLater old mid → IsLater mid new → IsLater old new
later_on one two = grind arith

pub breaks_since : {job : SliceJob} {w : SliceInput} {old mid new : State} {e : SliceError} → IsLater old mid → IsLater mid new → HasCleanDisk new → BreaksOff job w mid new e → BreaksOff job w old new e
breaks_since {old = old} one two clean broken = record { cause = λ first. let c = broken.cause first in grind (arith, cases_Bool old.is_open); crash = broken.crash }

-- what was clean after the call was so before it ended
pub shown_before : {old mid new : State} {all : List CheckpointBytes} → IsLater mid new → IsShown old new all → IsShown old mid all
shown_before later at = search (rules, arith)

pub resumed_before : {old mid new : State} {all : List CheckpointBytes} {w : SliceInput} {stamps : List (List ℕ)} → IsLater mid new → IsResumed w stamps old new all → IsResumed w stamps old mid all
resumed_before later at = search (rules, arith)

-- ---- the slice isn't resumed

-- the same checkpoints, listed from a file
pub over_file : (job : SliceJob) (f : Function) (number : ℕ) (items : List (List ℕ)) (old new : State) (all : List CheckpointBytes) (e : SliceError) → Explains (Resuming job f number items InMemory all) e
    → Explains (Resuming job f number items (OfFile old new) all) e
over_file job f number items old new all e c = grind arith

module _ (header : SlicesBeginWithHeaders) (own : OwnSlicesResume) (job : SliceJob) (functions : Functions) (f : Function) (number : ℕ) (items : List (List ℕ)) where
  -- the header of a slice so far is refused for its stamp alone
  for-its-stamp : (all : List CheckpointBytes) → KeepsSlice (job_in job) functions number items all → (e : SliceError)
      → IsRefusedBy (own_header job number items) (kept_stamps job) all e → e ≡ OtherStamp
  for-its-stamp [] keeps e c = absurd c
  for-its-stamp (first ∷ later) keeps e c =
      let begins = header (job_in job) functions number items first later keeps in
      own (job_in job) functions number items first later (limits_in job.limits) job.stamp.now (kept_stamps job) e begins (c begins.header begins.header_kept)

  pub unresumed : (old new : State) (all : List CheckpointBytes) → KeepsSlice (job_in job) functions number items all → (e : SliceError) → Explains (Resuming job f number items InMemory all) e
      → Explains (RunningSlice job (slice_input_of job functions f number items) old new all) e
  unresumed old new all keeps Damaged c = c functions keeps
  unresumed old new all keeps e c = grind (arith, for-its-stamp all keeps e)

-- a list that isn't taken
pub unlisted : (job : SliceJob) (w : SliceInput) (old new : State) (all : List CheckpointBytes) (e : StoreError) → (IsListRefusal e → ⊥) → IsOpenCause old new e
    → Explains (RunningSlice job w old new all) (store_refusal e)
unlisted job w old new all e never c = grind arith

-- ---- it breaks off

-- one interval more has no checkpoint
pub interval_breaks : {job : SliceJob} {w : SliceInput} {s : State} {at : Seen} {end : ListEnd} {all : List CheckpointBytes} → FileMatchesMemory w s at end all → (e : SliceError)
    → Explains (NextInterval w.job w.functions w.number w.items all) e → BreaksOff job w s s e
interval_breaks {all = all} it e c = record { cause = λ first. let so = it.so_far in grind arith; crash = λ db may. (all, inl (it.keeps.leaves db may), it.so_far) }

-- one more isn't taken
pub append_breaks : {job : SliceJob} {w : SliceInput} {old new : State} {at : Seen} {end : ListEnd} {all : List CheckpointBytes} (next : CheckpointBytes) → FileMatchesMemory w old at end all → SoFar w (all ++ next ∷ [])
    → (e : StoreError) → IsCaused old new (HasNumber all (count_of end + 1)) (IsTooLong next) (2 ^ 32 - 1 ≤ count_of end) e
    → ((db : Trees) → new.may_leave db → StandsFor db all ⊎ StandsFor db (all ++ next ∷ [])) → BreaksOff job w old new (store_refusal e)
append_breaks {all = all} next it so e c crash = record {
  cause = λ first. let whole = it.so_far in let count = it.ends.count in grind arith;
  crash = λ db may. elim (crash db may) [
    | inl old ↦ (all, inl old, it.so_far)
    | inr new ↦ (all ++ next ∷ [], inl new, so)
  ];
}

-- ---- its intervals ended

pub unended : (job : SliceJob) (w : SliceInput) (old new : State) (all : List CheckpointBytes) (loop_end : LoopEnd) → (loop_end ≡ Intervals → HasEachNumber w) → (e : SliceError)
    → Explains (Ending loop_end) e → Explains (RunningSlice job w old new all) e
unended job w old new all loop_end full e c = grind arith

-- ---- none is a refusal of what is stored

-- an interval that has no checkpoint isn't
pub interval_own : (e : SliceError) → Explains AnyInterval e → IsRefusal e → ⊥
interval_own e own is = grind arith

-- nor is a file that doesn't list or take one
pub store_own : (e : StoreError) → IsRefusal (store_refusal e) → ⊥
store_own e is = grind arith
