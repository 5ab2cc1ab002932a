-- The rows that a step begins with, or goes on from: where they stand, and that the records and the writers serve them.
use Rattle.std.proofs.Common.{◌≡◌, ℕ, zero, suc, ◌+◌, ◌-◌, ◌≤◌, ◌⊎◌, Bool, true, false, cond, not, nat_lt, nat_le, List, [], ◌∷◌, ◌++◌, length, map, drop, slice_get, Option, Some, None, Ok, Err, refl, ap, sym, subst, arith}
use Rattle.std.specs.Prelude.{◌==◌, All, IfSome, bytes_eq}
use Rattle.std.specs.List.{AllByRecursion, list_all, zip}
use Rattle.std.proofs.lemmas.Bool.{and_parts, or_parts}
use Rattle.std.proofs.lemmas.Bool.Decides.{nat_tests}
use Rattle.std.proofs.lemmas.List.{length-drop, length-take-le}
use Rattle.std.proofs.lemmas.List.Elements.{All-from_recursion}
use Rattle.jb_job.specs.Records.{StepRecord}
use Rattle.jb_job.specs.Reading.{Read, out_of_range, wrong_shape}
use Rattle.jb_job.specs.declared.field.Field.TheVariants as field
use Rattle.jb_base.specs.declared.range.Range.{Range}
use Rattle.jb_plan.specs.Plans.{IsRunnable, IsWithin}
use Rattle.jb_plan.specs.declared.plan.PartitionPlan.{PartitionPlan}
use Rattle.jb_rules.specs.Rows.{dropped_row, fresh_row, range_of}
use Rattle.jb_rules.specs.Sound.{IsSoundRow}
use Rattle.jb_rules.specs.States.{is_failed}
use Rattle.jb_rules.specs.declared.row.Row.{Row}
use Rattle.jb_rules.specs.declared.row.RowState.TheVariants as state
use Rattle.jb_saved.specs.GoingOn.{restarted, fault_if, ends_past}
use Rattle.jb_saved.specs.declared.place.SavedPlace.TheVariants.{Step, Records}
use Rattle.jb_step.specs.preparing.Setup.{IsSetup, Setup, fresh_rows, opening_rows, saved_faults}
use Rattle.jb_documents.specs.ResumeFields.{WrittenTexts, held_outputs_at, holds}
use Rattle.jb_documents.specs.declared.restart.resume.Resume.{Resume}
use Rattle.jb_program.specs.PartitionRun.{held_by, records_in}
use Rattle.jb_program.specs.StepRun.{AreHeld, gone_on_from, outputs_of, rows_saved, setup_with}

-- a row waits or is finished, its records are there, and its writer holds what it committed
pub record IsOpening (records : ℕ) (outputs : List (List (List ℕ))) (partition : ℕ) (row : Row) : Type 0 where
  pub sound : IsSoundRow row
  pub begun : (row.state ≡ state.Waiting) ⊎ (row.state ≡ state.Finished)
  pub within : IsWithin records (range_of row)
  pub served : row.written ≤ length (held_by outputs partition)

-- the same of all rows, the first of which has this number
abbrev pub AreOpening : (records : ℕ) → (outputs : List (List (List ℕ))) → (partition : ℕ) → List Row → Type 0
AreOpening records outputs k [] = Unit {0}
AreOpening records outputs k (row ∷ rows) = IsOpening records outputs k row × AreOpening records outputs (k + 1) rows

-- ---- by place

from-places : (records : ℕ) (outputs : List (List (List ℕ))) (k : ℕ) (rows : List Row) → ((i : ℕ) (row : Row) → slice_get rows i ≡ Some row → IsOpening records outputs (k + i) row) → AreOpening records outputs k rows
from-places records outputs k [] at = tt
from-places records outputs k (row ∷ rows) at =
    let none : k + 0 ≡ k = omega arith in (
      subst (λ n. IsOpening records outputs n row) none (at 0 row refl),
      from-places records outputs (k + 1) rows (λ i r is. let one : k + suc i ≡ k + 1 + i = omega arith in subst (λ n. IsOpening records outputs n r) one (at (suc i) r is)),
    )

-- ---- no row ends past the last record

pub within-rest : (records : ℕ) (range : Range) (ranges : List Range) → All (IsWithin records) (range ∷ ranges) → All (IsWithin records) ranges
within-rest records range ranges within = λ i d below. within (suc i) d (omega (arith, below))

pub within-first : (records : ℕ) (range : Range) (ranges : List Range) → All (IsWithin records) (range ∷ ranges) → IsWithin records range
within-first records range ranges within = within zero range (omega arith)

fresh-below : (records : ℕ) (ranges : List Range) → All (IsWithin records) ranges → (i : ℕ) (row : Row) → slice_get (fresh_rows ranges) i ≡ Some row → (row.hi ≤ records) × (row.written ≤ 0)
fresh-below records [] within i row is = absurd (cc is)
fresh-below records (range ∷ ranges) within zero row is =
    let same : fresh_row range ≡ row = cc in
    subst (λ (r : Row). (r.hi ≤ records) × (r.written ≤ 0)) same ((within-first records range ranges within).1, omega arith)
fresh-below records (range ∷ ranges) within (suc i) row is = fresh-below records ranges (within-rest records range ranges within) i row is

restarted-by : (failed : Bool) (row : Row) → ((cond failed (dropped_row row) row).hi ≡ row.hi) × ((cond failed (dropped_row row) row).written ≡ row.written)
restarted-by true row = (refl, refl)
restarted-by false row = (refl, refl)

restarted-below : (records : ℕ) (rows : List Row) → ends_past records rows ≡ false → (i : ℕ) (row : Row) → slice_get (map restarted rows) i ≡ Some row → row.hi ≤ records
restarted-below records [] past i row is = absurd (cc is)
restarted-below records (r ∷ rows) past zero row is =
    let same : restarted r ≡ row = cc in
    let first : nat_lt records r.hi ≡ false = (or_parts (nat_lt records r.hi) (ends_past records rows) past).0 in
    let below : r.hi ≤ records = grind (arith, nat_tests, first) in
    let kept = (restarted-by (is_failed r.state) r).0 in
    subst (λ (one : Row). one.hi ≤ records) same (omega (arith, below, kept))
restarted-below records (r ∷ rows) past (suc i) row is = restarted-below records rows (or_parts (nat_lt records r.hi) (ends_past records rows) past).1 i row is

not-past : (step past : Bool) → fault_if step Step ++ fault_if past Records ≡ [] → past ≡ false
not-past true past is = absurd (cc is)
not-past false true is = absurd (cc is)
not-past false false is = refl

-- what a step goes on from, if its plan doesn't discard it: none of its rows ends past the last record, and it is held
abbrev IsKept : (records : ℕ) → Option Resume → Type 0
IsKept records kept = IfSome kept (λ resume. (ends_past records resume.saved.rows ≡ false) × AreHeld resume)

kept-of : (step : StepRecord) (records : ℕ) (replace : Bool) (resume : Option Resume) → saved_faults step records replace (rows_saved resume) ≡ [] → IfSome resume AreHeld → IsKept records (gone_on_from replace resume)
kept-of step records true resume accepted held = tt
kept-of step records false None accepted held = tt
kept-of step records false (Some resume) accepted held = (not-past (not (bytes_eq resume.saved.step step.id)) (ends_past records resume.saved.rows) accepted, held)

below-by : (records : ℕ) (plan : PartitionPlan) (kept : Option Resume) → IsRunnable records plan → IsKept records kept
    → (i : ℕ) (row : Row) → slice_get (opening_rows plan.ranges (rows_saved kept)) i ≡ Some row → row.hi ≤ records
below-by records plan None runnable is i row at = (fresh-below records plan.ranges runnable.within i row at).0
below-by records plan (Some resume) runnable is i row at = restarted-below records resume.saved.rows is.0 i row at

-- ---- each writer holds what was committed

held-if : (long all : Bool) (outputs : List WrittenTexts) → ◌≡◌ {A = Read (List WrittenTexts)} (cond long (cond all (Ok outputs) (Err (out_of_range field.Outputs))) (Err (wrong_shape field.Outputs))) (Ok outputs) → (long ≡ true) × (all ≡ true)
held-if true true outputs is = (refl, refl)
held-if true false outputs is = absurd (cc is)
held-if false all outputs is = absurd (cc is)

are-held : (resume : Resume) → AreHeld resume → ((length resume.outputs == length resume.saved.rows) ≡ true) × (list_all holds (zip resume.outputs resume.saved.rows) ≡ true)
unfolding held_outputs_at
are-held resume held = held-if (length resume.outputs == length resume.saved.rows) (list_all holds (zip resume.outputs resume.saved.rows)) resume.outputs held

restarted-served : (outputs : List WrittenTexts) (rows : List Row) → length outputs ≡ length rows → list_all holds (zip outputs rows) ≡ true
    → (i : ℕ) (row : Row) → slice_get (map restarted rows) i ≡ Some row → row.written ≤ length (held_by outputs i)
restarted-served outputs [] long all i row is = absurd (cc is)
restarted-served [] (r ∷ rows) long all i row is = absurd (omega (arith, long))
restarted-served (texts ∷ outputs) (r ∷ rows) long all zero row is =
    let same : restarted r ≡ row = cc in
    let first : nat_le r.written (length texts) ≡ true = (and_parts (holds (texts, r)) (list_all holds (zip outputs rows)) all).0 in
    let served : r.written ≤ length texts = grind (arith, nat_tests, first) in
    let kept = (restarted-by (is_failed r.state) r).1 in
    subst (λ (one : Row). one.written ≤ length texts) same (omega (arith, served, kept))
restarted-served (texts ∷ outputs) (r ∷ rows) long all (suc i) row is =
    restarted-served outputs rows (omega (arith, long)) (and_parts (holds (texts, r)) (list_all holds (zip outputs rows)) all).1 i row is

served-by : (records : ℕ) (plan : PartitionPlan) (kept : Option Resume) → IsRunnable records plan → IsKept records kept
    → (i : ℕ) (row : Row) → slice_get (opening_rows plan.ranges (rows_saved kept)) i ≡ Some row → row.written ≤ length (held_by (outputs_of kept) i)
served-by records plan None runnable is i row at =
    let none = (fresh-below records plan.ranges runnable.within i row at).1 in
    omega (arith, none)
served-by records plan (Some resume) runnable is i row at =
    let kept = are-held resume is.1 in
    let one = kept.0 in
    let long : length resume.outputs ≡ length resume.saved.rows = grind (arith, nat_tests, one) in
    restarted-served resume.outputs resume.saved.rows long kept.1 i row at

-- ---- all of it

-- what a step was prepared with: its plan can be run, and nothing is wrong with the rows that it goes on from or overrides
pub record IsPreparedWith (step : StepRecord) (records : ℕ) (plan : PartitionPlan) (resume : Option Resume) (s : Setup) : Type 0 where
  pub runnable : IsRunnable records plan
  pub accepted : saved_faults step records plan.replace (rows_saved resume) ≡ []
  pub is : s ≡ setup_with step plan (rows_saved (gone_on_from plan.replace resume))
  pub setup : IsSetup s
  pub held : IfSome resume AreHeld

pub opening : (step : StepRecord) (records : ℕ) (plan : PartitionPlan) (resume : Option Resume) (s : Setup) → IsPreparedWith step records plan resume s → AreOpening records (outputs_of (gone_on_from plan.replace resume)) 0 s.rows
opening step records plan resume s given =
    let kept : Option Resume = gone_on_from plan.replace resume in
    let is = kept-of step records plan.replace resume given.accepted given.held in
    let rows : s.rows ≡ opening_rows plan.ranges (rows_saved kept) = ap (λ (t : Setup). t.rows) given.is in
    from-places records (outputs_of kept) 0 s.rows (λ i row at.
    let there : slice_get (opening_rows plan.ranges (rows_saved kept)) i ≡ Some row = subst (λ (rs : List Row). slice_get rs i ≡ Some row) rows at in
    let sound = (given.setup.openable.idle i row at).0 in
    let from = sound.placed.at_from in
    let to = sound.placed.at_to in
    let below = below-by records plan kept given.runnable is i row there in
    let none : 0 + i ≡ i = omega arith in
    subst (λ n. IsOpening records (outputs_of kept) n row) (sym none) (record {
      sound = sound;
      begun = given.setup.begun i row at;
      within = (omega (arith, from, to), below);
      served = served-by records plan kept given.runnable is i row there;
    }))

within-all : (records : ℕ) (outputs : List (List (List ℕ))) (k : ℕ) (rows : List Row) → AreOpening records outputs k rows → AllByRecursion (IsWithin records) (map range_of rows)
within-all records outputs k [] are = tt
within-all records outputs k (row ∷ rows) are = (are.0.within, within-all records outputs (k + 1) rows are.1)

pub within-rows : (records : ℕ) (outputs : List (List (List ℕ))) (k : ℕ) (rows : List Row) → AreOpening records outputs k rows → All (IsWithin records) (map range_of rows)
within-rows records outputs k rows are = All-from_recursion (IsWithin records) (map range_of rows) (within-all records outputs k rows are)

-- the records of a range, where they are there
pub counted : (records : List (List ℕ)) (range : Range) → IsWithin (length records) range → length (records_in records range) ≡ range.hi - range.lo
counted records range within =
    let order = within.0 in
    let below = within.1 in
    let long = length-drop range.lo records in
    length-take-le (range.hi - range.lo) (drop range.lo records) (omega (arith, order, below, long))
