-- A slice's bytes begin with a header's, and go on with those of intervals.
use Rattle.std.proofs.{Common.{ℕ, ◌≡◌, true, true≢false, List, [], ◌∷◌, length, refl, sym, ap, ◌∙◌, arith}, lemmas.List.{length-map}, lemmas.List.FromFn.{length-map-range_with_len}}
use Rattle.jb_slice_file.specs.CheckpointBytes.{CheckpointBytes}
use Rattle.jb_mapper.specs.EvenCover.{even_range, even_ranges}
use Rattle.jb_slices.specs.{Checkpoint.{Begins, Checkpoint, GoesOn, Header, header_of}, Slice.{Follow, Functions, IsSliceSoFar, SliceState, next, start}, Job.{HaveInCommon, Job}}
use Rattle.jb_slice_run.{specs.declared.error.SliceError.TheVariants.{OtherStamp}, specs.Held.{AreIntervalsOf}, specs.SliceBytes.{AreStoredAs}, proofs.RowsGrown.{grown-rows}, specs.Laws.{BeginsWithHeader, OwnSlicesResume, SlicesBeginWithHeaders}, specs.Refusals.{IsHeaderCause, part_of}}
use Rattle.jb_slice_run.specs.declared.error.{IdentityPart.{IdentityPart}, SliceError.{SliceError}}

pub even_length : (records parts : ℕ) → length (even_ranges records parts) ≡ parts
unfolding even_ranges
even_length records parts = length-map-range_with_len (even_range records parts) 0 parts

module _ (job : Job) (functions : Functions) (number : ℕ) (items : List (List ℕ)) where
  intervals_follow : (at : SliceState) (cs : List Checkpoint) → at.begun ≡ true → Follow job functions number items at cs → AreIntervalsOf job.partitions cs
  intervals_follow at [] begun so = tt
  intervals_follow at (Begins h ∷ cs) begun so = absurd (true≢false (sym begun ∙ so.0.first))
  intervals_follow at (GoesOn i ∷ cs) begun so =
      let rows = grown-rows at.partitions i.partitions in
      (grind (arith, length-map, even_length, ap length rows, ap length so.0.ranges), intervals_follow (next at (GoesOn i)) cs begun so.1)

  begins : (cs : List Checkpoint) (first : CheckpointBytes) (later : List CheckpointBytes) → AreStoredAs cs (first ∷ later) → IsSliceSoFar job functions number items cs → BeginsWithHeader job functions number items first later
  begins [] first later kept so = absurd kept
  begins (GoesOn i ∷ cs) first later kept so = absurd (true≢false (sym so.0.begun))
  begins (Begins h ∷ cs) first later kept so = record {
    header = h;
    intervals = cs;
    header_kept = kept.0;
    header_is = so.0.header_is;
    intervals_kept = kept.1;
    are_intervals = intervals_follow (next start (Begins h)) cs refl so.1;
    so_far = so;
  }

pub begins_with_header : SlicesBeginWithHeaders
begins_with_header job functions number items first later keeps = begins job functions number items keeps.checkpoints first later keeps.stored_as keeps.so_far

-- ---- and it is our own

in_common : (part : IdentityPart) (job other : Job) → other ≡ job → HaveInCommon (part_of part) job other
in_common part job other is = rw is (grind arith)

refused_by : (own : Header) (stamps : List (List ℕ)) (held : Header) (e : SliceError) → held.job ≡ own.job → held.number ≡ own.number → held.digest ≡ own.digest → held.items ≡ own.items
    → IsHeaderCause own stamps held e → e ≡ OtherStamp
refused_by own stamps held e job number digest items cause = grind (arith, in_common)

pub own_slices : OwnSlicesResume
own_slices job functions number items first later limits stamp stamps e begins cause =
    let is = begins.header_is in
    refused_by (header_of job limits stamp number items) stamps begins.header e (ap (λ (h : Header). h.job) is) (ap (λ (h : Header). h.number) is) (ap (λ (h : Header). h.digest) is) (ap (λ (h : Header). h.items) is) cause
