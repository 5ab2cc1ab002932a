-- What the place of a slice has, from interval to interval: what is read of its checkpoints, and the faults that its run holds.
use Rattle.std.proofs.{Common.{arith, length, length-append, ℕ, ◌≡◌, ◌≢◌, List, [], ◌∷◌, ◌++◌, map, Some, refl, sym, ap, subst, ◌∙◌, suc, replicate}, lemmas.List.{length-map}}
use Rattle.jb_slice_run.{proofs.RowsGrown.{as-many}, specs.Named.{faults_by, faults_grown, one_after}, specs.Held.{AreIntervalsOf, HasRead, limits_in, limits_led, new_output_in, PlacesAreRead, new_output_grown, new_output_led, no_new_output, one_grown}, specs.SliceBytes.{AreStoredAs, IsStoredAs, KeepsSlice}}
use Rattle.jb_slice_run.{specs.Laws.{BeginsWithHeader}, specs.Strings.{NewOutput, all_new_output, new_output_of}, specs.declared.partition_output.HeldSlice.{HeldSlice}, proofs.Beginning.{begins_with_header}, proofs.Telling.{all_once}}
use Rattle.jb_slice_file.specs.CheckpointBytes.{CheckpointBytes}
use Rattle.jb_slices.specs.{Checkpoint.{Begins, Checkpoint, Header, Progress, GoesOn}, Job.{Job, Limits}, Partitions.{grown}, Slice.{Functions, slice_state, SliceState, led, next, start}}

grown_there : (ps qs : List Progress) → length ps ≡ length qs → (new_output_grown (all_new_output ps) (all_new_output qs) ≡ all_new_output (grown ps qs)) × (length (grown ps qs) ≡ length qs)
grown_there [] [] same = (refl, refl)
grown_there (p ∷ ps) (q ∷ qs) same =
    let more = grown_there ps qs (omega (arith, same)) in
    (ap (λ ns. one_grown (new_output_of p) (new_output_of q) ∷ ns) more.0, ap suc more.1)
grown_there _ _ same = absurd (omega (arith, same))

led_there : (at : SliceState) (count : ℕ) (cs : List Checkpoint) → length at.partitions ≡ count → AreIntervalsOf count cs
    → (limits_led at.limits cs ≡ (led at cs).limits) × (new_output_led (all_new_output at.partitions) cs ≡ all_new_output (led at cs).partitions)
led_there at count [] number all = (refl, refl)
led_there at count (Begins h ∷ cs) number all = absurd all.0
led_there at count (GoesOn i ∷ cs) number all =
    let there = grown_there at.partitions i.partitions (number ∙ sym all.0) in
    let more = led_there (next at (GoesOn i)) count cs (there.1 ∙ all.0) all.1 in
    (more.0, ap (λ (ns : List NewOutput). new_output_led ns cs) there.0 ∙ more.1)

first_new_output : (ns : List NewOutput) → new_output_grown (replicate (length ns) no_new_output) ns ≡ ns
first_new_output [] = refl
first_new_output (n ∷ ns) = ap (λ ms. n ∷ ms) (first_new_output ns)

pub places_are_read : PlacesAreRead
places_are_read h count [] all = (refl, λ some. absurd (some refl))
places_are_read h count (Begins k ∷ cs) all = absurd all.0
places_are_read h count (GoesOn i ∷ cs) all =
    let number : count ≡ length (all_new_output i.partitions) = sym (length-map i.partitions new_output_of ∙ all.0) in
    let more = led_there (next (next start (Begins h)) (GoesOn i)) count cs all.0 all.1 in (
      more.0,
      λ some. ap (λ (n : ℕ). new_output_led (new_output_grown (replicate n no_new_output) (all_new_output i.partitions)) cs) number
          ∙ ap (λ (ns : List NewOutput). new_output_led ns cs) (first_new_output (all_new_output i.partitions)) ∙ more.1,
    )

-- ---- one interval more

pub grown-faults : (ps qs : List Progress) → faults_grown (map faults_by (all_new_output ps)) (all_new_output qs) ≡ map faults_by (all_new_output (grown ps qs))
grown-faults [] qs = refl
grown-faults (p ∷ ps) [] = refl
grown-faults (p ∷ ps) (q ∷ qs) = ap (λ r. one_after (Some (faults_by (new_output_of p))) (new_output_of q) ∷ r) (grown-faults ps qs)

-- ---- after checkpoints that were read

pub some-kept : (cs : List Checkpoint) (before : List CheckpointBytes) (last : CheckpointBytes) → AreStoredAs cs (before ++ last ∷ []) → cs ≢ []
some-kept cs before last kept none = omega (arith, as-many IsStoredAs cs (before ++ last ∷ []) kept, ap length none, length-append before (last ∷ []))

-- the header alone
pub header-alone : {job : Job} {functions : Functions} {number : ℕ} {items : List (List ℕ)} {first : CheckpointBytes} (keeps : KeepsSlice job functions number items (first ∷ [])) (cs : List Checkpoint)
    → AreStoredAs cs (first ∷ []) → Begins (begins_with_header job functions number items first [] keeps).header ∷ [] ≡ cs
header-alone {first = first} keeps cs kept = let opened = begins_with_header _ _ _ _ first [] keeps in all_once (Begins opened.header ∷ []) cs (first ∷ []) (opened.header_kept, tt) kept

-- what is read of intervals is what the state has
module _ {job : Job} {functions : Functions} {number : ℕ} {items : List (List ℕ)} {first : CheckpointBytes} {later : List CheckpointBytes} {began : Limits} {held : HeldSlice} (keeps : KeepsSlice job functions number items (first ∷ later))
    (began-is : (h : Header) → IsStoredAs (Begins h) first → h.limits ≡ began) (has : (cs : List Checkpoint) → AreStoredAs cs later → AreIntervalsOf job.partitions cs → HasRead began job.partitions cs held)
    (cs : List Checkpoint) (kept : AreStoredAs cs (first ∷ later)) where
  abbrev opened : BeginsWithHeader job functions number items first later
  opened = begins_with_header job functions number items first later keeps

  same : Begins opened.header ∷ opened.intervals ≡ cs
  same = all_once (Begins opened.header ∷ opened.intervals) cs (first ∷ later) (opened.header_kept, opened.intervals_kept) kept

  pub limits-read : limits_in held.limits ≡ (slice_state cs).limits
  limits-read =
      (has opened.intervals opened.intervals_kept opened.are_intervals).limits ∙ ap (λ (l : Limits). limits_led l opened.intervals) (sym (began-is opened.header opened.header_kept))
      ∙ (places_are_read opened.header job.partitions opened.intervals opened.are_intervals).0 ∙ ap (λ (ds : List Checkpoint). (slice_state ds).limits) same

  pub output-read : (before : List CheckpointBytes) (last : CheckpointBytes) → later ≡ before ++ last ∷ [] → map new_output_in held.partitions.items ≡ all_new_output (slice_state cs).partitions
  output-read before last last_is =
      (has opened.intervals opened.intervals_kept opened.are_intervals).new_output
      ∙ (places_are_read opened.header job.partitions opened.intervals opened.are_intervals).1 (some-kept opened.intervals before last (subst (AreStoredAs opened.intervals) last_is opened.intervals_kept))
      ∙ ap (λ (ds : List Checkpoint). all_new_output (slice_state ds).partitions) same
