-- The list of faults, slice after slice.
use Rattle.std.proofs.Common.{◌≡◌, ◌∙◌, ℕ, suc, ◌+◌, ◌-◌, ◌<◌, ◌≤◌, ◌++◌, ◌⊎◌, List, [], ◌∷◌, Bool, true, false, Option, None, Some, ap, arith, length, map, refl, sym, take, drop}
use Rattle.std.specs.{Prelude.{get_or, slice_get, unwrap_or}, List.{AllByRecursion}}
use Rattle.std.proofs.lemmas.{Bool.{MatchBool-at_false}, List.{append-nil, get_or-drop, get_or-map, get_or-take, length-drop, length-map, length-take, map-append}, Option.{unwrap_or-slice_get}}
use Rattle.jb_base.specs.declared.class.ClassId.{ClassId}
use Rattle.jb_collect.specs.declared.calls.Status.TheVariants.{Completed, Failed}
use Rattle.jb_rows.specs.{Fields.{Fields, fields_in, packed}, Places.{AreLinesFrom}, Streams.{lines_of}, Texts.{AreRowsOf}}
use Rattle.jb_rows.{specs.declared.rows_options.RowsOptions.{RowsOptions}, specs.declared.rows_reader.RowsReader.{RowsReader}, proofs.Packing.{read-packed}}
use Rattle.jb_slice_run.specs.{Held.{fault_in, faults_in}, declared.durable.end.SliceEnd.{SliceEnd}}
use Rattle.jb_slice_run.specs.declared.fault.Fault as held
use Rattle.jb_slices.specs.{Function.{Fault, Function, fault_and, faults_from, refusal_of}, Job.{first_of}}
use Rattle.jb_csv_job.specs.{Job.{JobRecord}, Loop.{IsEndOf, IsSliceRead}, SliceFiles.{slice_of}, Slices.{IsSliceEnd}, Standing.{HasGoneOn}, Tasks.{is_own}}
use Rattle.jb_csv_job.specs.Skipped.{AreListed, AreRowsFor, HasListed, IfListed, IfTook, IsRowOf, IsSliceListed, own_faults, skipped_by}
use Rattle.jb_csv_job.{specs.declared.run.JobEnd.{JobEnd}, specs.declared.tally.Tally.{Tally}, proofs.Going.{the-end, yes-or-no}, proofs.Owning.{the-last}}

-- ---- a list that is asked for

pub same-list : {A : Type 0} (list : Option A) (Holds : A → A → Type 0) → ((one : A) → Holds one one) → IfListed list list Holds
same-list None Holds holds = tt
same-list (Some one) Holds holds = holds one

pub listed-then : {A B C : Type 0} (first : Option A) (second : Option B) (third : Option C) (One : A → B → Type 0) (Two : B → C → Type 0) (Both : A → C → Type 0)
    → IfListed first second One → IfListed second third Two → ((a : A) (b : B) (c : C) → One a b → Two b c → Both a c) → IfListed first third Both
listed-then None None None One Two Both one two join = tt
listed-then (Some a) (Some b) (Some c) One Two Both one two join = join a b c one two
listed-then _ _ _ One Two Both one two join = search

pub listed-as : {A B : Type 0} (old : Option A) (new : Option B) (One Two : A → B → Type 0) → IfListed old new One → ((a : A) (b : B) → One a b → Two a b) → IfListed old new Two
listed-as None None One Two one change = tt
listed-as (Some a) (Some b) One Two one change = change a b one
listed-as _ _ One Two one change = absurd one

-- ---- the faults of items have the items' numbers

abbrev IsWithin : (low high : ℕ) → Fault → Type 0
IsWithin low high fault = (low ≤ fault.number) × (fault.number < high)

and-within : (low high number : ℕ) (refusal : Option ClassId) (later : List Fault) → low ≤ number → number < high → AllByRecursion (IsWithin low high) later
    → AllByRecursion (IsWithin low high) (fault_and number refusal later)
and-within low high number refusal later above below all = grind arith

within : (f : Function) (low high first : ℕ) (items : List (List ℕ)) → low ≤ first → first + length items ≤ high → AllByRecursion (IsWithin low high) (faults_from f first items)
within f low high first [] above below = tt
within f low high first (item ∷ items) above below =
    and-within low high first (refusal_of f item) _ above (omega arith) (within f low high (suc first) items (omega arith) (omega arith))

-- ---- rows

module _ (options : RowsOptions) (text : List ℕ) (names : List (List ℕ)) (records : List Fields) where
  pub rows-append : (fs gs : List Fault) (rs ss : List Fields) → AreRowsFor options text names records fs rs → AreRowsFor options text names records gs ss
      → AreRowsFor options text names records (fs ++ gs) (rs ++ ss)
  rows-append [] gs [] ss first second = second
  rows-append (f ∷ fs) gs (r ∷ rs) ss first second = (first.0, rows-append fs gs rs ss first.1 second)
  rows-append _ gs _ ss first second = absurd first

  module _ (first count : ℕ) (lines : List ℕ) (begin : AreLinesFrom options text first lines) (each : length lines ≡ length (take count (drop first (map packed records)))) where
    abbrev items : List (List ℕ)
    items = take count (drop first (map packed records))

    row-of : (fault : held.Fault) → IsWithin first (first + length items) (fault_in fault) → IsRowOf options text names records (fault_in fault) (skipped_by names items lines first fault)
    row-of fault (above, below) =
        let number = fault.number in
        let index = number - first in
        let n : first + index ≡ number = omega (arith, above) in
        let few = length-take count (drop first (map packed records)) in
        let inside : number < length records = omega (arith, above, below, few, length-map records packed, length-drop first (map packed records)) in
        let cut = get_or-take count (drop first (map packed records)) index [] (omega (arith, above, below, few)) in
        record {
          line = unwrap_or (slice_get lines index) 0;
          begins = rw (n, ← unwrap_or-slice_get lines index 0) at (begin index (omega (arith, above, below, each)));
          fields = rw (unwrap_or-slice_get items index [], cut, get_or-drop first (map packed records) index [], n, get_or-map packed records number [] [] inside, read-packed (get_or records number []));
        }

    rows-of : (faults : List held.Fault) → AllByRecursion (IsWithin first (first + length items)) (faults_in faults)
        → AreRowsFor options text names records (faults_in faults) (map (skipped_by names items lines first) faults)
    rows-of [] all = tt
    rows-of (fault ∷ faults) all = (row-of fault all.0, rows-of faults all.1)

-- ---- slices

pub none-listed : {job : JobRecord} {text : List ℕ} {records : List Fields} {failed : Bool} → AreListed job text records 0 failed []
none-listed = record { slices = refl; faults = λ _. tt }

module _ {job : JobRecord} {text : List ℕ} {records : List Fields} {number : ℕ} where
  -- the slice isn't one of the task's own
  pub other-listed : (failed : Bool) (rows : List (List ℕ)) → is_own job.task number ≡ false → AreListed job text records number failed rows → AreListed job text records (suc number) failed rows
  other-listed failed rows other before = record {
    slices = (rows, [], before.slices, record { other = λ _. refl; own = λ own. yes-or-no (is_own job.task number) own other }, sym (append-nil rows));
    faults = λ fine. rw (other, append-nil) (before.faults fine);
  }

  -- it is, and it ended
  pub own-listed : {R : Type 0} {remaining : R → Option (List ℕ)} {reader : RowsReader R} {read : List Fields} {is_last : Bool} → IsSliceRead job remaining text records number reader read is_last
      → is_own job.task number ≡ true → (end : SliceEnd) → (end.status ≡ Completed) ⊎ (end.status ≡ Failed) → IsSliceEnd job number (slice_of job records number) end
      → (old new : Bool) → (new ≡ false → (old ≡ false) × (end.status ≡ Completed)) → (rows own : List (List ℕ)) → AreListed job text records number old rows
      → IsSliceListed job.job.classes.names (slice_of job records number) (lines_of reader) (first_of job.job number) end own → AreListed job text records (suc number) new (rows ++ own)
  own-listed {R} {remaining} {reader} slice mine end status ends old new fine-so rows own before listed = record {
    slices = (
      rows,
      own,
      before.slices,
      record { other = λ other. yes-or-no (is_own job.task number) mine other; own = λ _. (end, lines_of reader, status, ends, slice.lines, slice.each, listed) },
      refl,
    );
    faults = λ fine.
        (let so = fine-so fine in
        let names = job.job.classes.names in
        let first = first_of job.job number in
        let items = slice_of job records number in
        let faults = faults_from job.function first items in
        let named : faults_in listed.faults ≡ faults = ap faults_in (listed.skipped so.1) ∙ ends.skips so.1 in
        let all : AllByRecursion (IsWithin first (first + length items)) (faults_in listed.faults) = rw named (within job.function first (first + length items) first items (omega arith) (omega arith)) in
        let of-own : AreRowsFor job.options text names records faults (map fields_in own) =
        rw (← named, listed.rows_are) (rows-of job.options text names records first job.job.slice_length (lines_of reader) slice.lines slice.each listed.faults all) in
        rw (mine, map-append) (rows-append job.options text names records (own_faults job.job job.task job.function (map packed records) number) faults (map fields_in rows) (map fields_in own) (before.faults so.0) of-own));
  }

-- the job is listed once it has ended
pub has-listed : {R L : Type 0} {job : JobRecord} {remaining : R → Option (List ℕ)} {text : List ℕ} {records : List Fields} {number : ℕ} {reader : RowsReader R} {Took : List (List ℕ) → Type 0} {more : Bool}
    → (took : L → L → List (List ℕ) → Type 0) (old new : Option L) (t : Tally) → HasGoneOn job remaining text records number reader t.skips t.is_failed Took (IfTook took old new) more → more ≡ false
    → 0 < job.job.slice_length → AreRowsOf job.options text records → (end : JobEnd) → IsEndOf t end → IfListed old new (λ start now. HasListed job (Some text) (took start now) end.status end.skips)
has-listed {job = job} {records = records} {number = number} took old new t gone stops some read end is = listed-as old new _ _ gone.ran.listed (λ start now r. record {
  records = records;
  read = read;
  rows = r.0;
  last = number;
  taken = r.1;
  slices = r.2.slices;
  ended = rw is.skips (MatchBool-at_false _ _ stops gone.next);
  faults = λ zero. rw (← the-last job.job some (map packed records) number (the-end t gone stops (is.completed zero))) (r.2.faults (is.completed zero));
})
