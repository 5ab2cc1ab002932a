-- What the rules decide of a slice.
use Rattle.std.proofs.Common.{◌≡◌, ℕ, suc, ◌-◌, List, [], ◌∷◌, length, drop, true, refl, arith, ◌⊎◌, inl, inr}
use Rattle.std.proofs.lemmas.List.{drop_all, take_all}
use Rattle.jb_base.{specs.Rules.RulesRecord, specs.declared.range.Range.Range}
use Rattle.jb_mapper.specs.EvenCover.{even_ranges}
use Rattle.jb_slices.specs.{Checkpoint.{Begins, Checkpoint, GoesOn, Progress}, Function.Function, Job.Job, Partitions.{AreFinished, ArePartitionsSoFar, HasFailed, ranges_of}, Passing.RangesPass, Slice.{Follow, Functions, IsStateSoFar, IsSliceSoFar, SliceState, led, next, slice_state, start}, SliceLaws.{FailedSlicesDont, WholeSlicesPass}}
use Rattle.jb_slices.proofs.{Faults.{items-pass-front, pass-none}, Having.own-whole, Raising.ranges}

-- ---- ranges

pub ranges-none : (f : Function) (rules : RulesRecord) (from : ℕ) (items : List (List ℕ)) (ranges : List Range) → items ≡ [] → RangesPass f rules from items ranges
ranges-none f rules from items [] none = tt
ranges-none f rules from items (range ∷ ranges) none =
    grind (arith, pass-none rules, take_all, drop_all, ranges-none f rules range.hi (drop (range.hi - from) items) ranges)

finished-pass : (f : Function) (rules : RulesRecord) (first from : ℕ) (items : List (List ℕ)) (ps : List Progress)
    → ArePartitionsSoFar f rules first from items ps → AreFinished ps → RangesPass f rules from items (ranges_of ps)
finished-pass f rules first from items [] parts finished = tt
finished-pass f rules first from items (p ∷ ps) parts ends =
    (rw (own-whole p from items parts.0 (parts.2.finished ends.0)) at parts.2.passed, finished-pass f rules first p.row.hi _ ps parts.3 ends.1)

failed-dont : (f : Function) (rules : RulesRecord) (first from : ℕ) (items : List (List ℕ)) (ps : List Progress)
    → ArePartitionsSoFar f rules first from items ps → HasFailed ps → RangesPass f rules from items (ranges_of ps) → ⊥
failed-dont f rules first from items [] parts failed pass = failed
failed-dont f rules first from items (p ∷ ps) parts (inl here) pass =
    let stop = (parts.2.failed here).2 in stop.fails (items-pass-front f rules (suc stop.before) _ pass.0)
failed-dont f rules first from items (p ∷ ps) parts (inr later) pass = failed-dont f rules first p.row.hi _ ps parts.3 later pass.1

-- ---- where checkpoints lead

pub record IsStanding (job : Job) (functions : Functions) (number : ℕ) (items : List (List ℕ)) (at : SliceState) : Type 0 where
  pub begun : at.begun ≡ true
  pub ranges : ranges_of at.partitions ≡ even_ranges (length items) job.partitions
  pub so_far : IsStateSoFar job functions number items at

-- no interval is kept, or the last one
abbrev pub HasStood : Job → Functions → (number : ℕ) → (items : List (List ℕ)) → SliceState → Type 0
HasStood job functions number items at = (at.partitions ≡ []) ⊎ IsStanding job functions number items at

stood-led : (job : Job) (functions : Functions) (number : ℕ) (items : List (List ℕ)) (at : SliceState) (cs : List Checkpoint)
    → HasStood job functions number items at → Follow job functions number items at cs → HasStood job functions number items (led at cs)
stood-led job functions number items at [] stood follow = stood
stood-led job functions number items at (Begins header ∷ cs) stood follow = stood-led job functions number items (next at (Begins header)) cs (inl refl) follow.1
stood-led job functions number items at (GoesOn i ∷ cs) stood follow =
    stood-led job functions number items (next at (GoesOn i)) cs (let fits = follow.0 in grind arith) follow.1

pub stood : (job : Job) (functions : Functions) (number : ℕ) (items : List (List ℕ)) (all : List Checkpoint)
    → IsSliceSoFar job functions number items all → HasStood job functions number items (slice_state all)
stood job functions number items all so-far = stood-led job functions number items start all (inl refl) so-far

pub whole : WholeSlicesPass
whole job functions limits number items all w =
    let at = slice_state all in
    ranges job at.limits limits (functions at.stamp) 0 items _ w.raised (elim (stood job functions number items all w.so_far) [
      | inl none ↦ ranges-none (functions at.stamp) _ 0 items _ (rw none at w.partitions)
      | inr standing ↦ rw (← standing.ranges) (finished-pass _ _ _ 0 items _ w.partitions w.finished)
    ])

-- a failed slice has an interval
pub stands : (job : Job) (functions : Functions) (number : ℕ) (items : List (List ℕ)) (all : List Checkpoint)
    → IsSliceSoFar job functions number items all → HasFailed (slice_state all).partitions → IsStanding job functions number items (slice_state all)
stands job functions number items all so-far failed = let at = stood job functions number items all so-far in grind arith

pub failed : FailedSlicesDont
failed job functions limits number items all w pass =
    let standing = stands job functions number items all w.so_far w.failed in
    failed-dont _ _ _ 0 items _ standing.so_far w.failed (rw (← w.limits_are, ← standing.ranges) at pass)
