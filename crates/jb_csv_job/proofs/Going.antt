-- Slice after slice.
use Rattle.std.proofs.Common.{◌≡◌, ◌∙◌, ℕ, suc, ◌+◌, ◌<◌, ◌≤◌, ◌++◌, List, [], Bool, true, false, Option, Some, ap, arith, length, length-append, map, refl, subst, sym, ◌⊎◌, inl, inr}
use Rattle.std.{specs.Prelude.{IfSome, MatchOption, ◌&&◌, not, ⊤}, specs.Bool.{MatchBool}, proofs.lemmas.Bool.{MatchBool-at_false, both_ways, cases_Bool, cases_lt, false≢true}, proofs.lemmas.List.{append-nil, length-map}}
use borrow.Author.Count.{below_more}
use Rattle.jb_collect.specs.declared.calls.Status.TheVariants.{Completed, Failed}
use Rattle.jb_records.specs.PartitionResults.{joined}
use Rattle.jb_rows.{proofs.Lines.{known}, specs.Fields.{Fields, packed}, specs.Streams.{HasGivenRows}, specs.Texts.{AreRowsOf}, specs.declared.rows_reader.RowsReader.{RowsReader}}
use Rattle.jb_slice_run.specs.{declared.durable.end.SliceEnd.{SliceEnd}, Held.{fault_in}}
use Rattle.jb_slices.specs.{Function.{fault_classes}, Job.{HasSlice, IsLastSlice, first_of, rules_of, slice_at}, Passing.{SlicePasses}, Slice.{Functions}}
use Rattle.jb_slices.proofs.{Faults.{classes-append, faults-count}, Passing.{ranges-none}, Seams.{all-of-them, empty-after}}
use Rattle.jb_csv_job.specs.{Done.{HasEnded, HasTakenSoFar}, Job.{JobRecord}, Loop.{AreDone, AreGood, IfJobResumes, IsEndOf, IsOver, StandsBefore, front_of}, SliceFiles.{CanResumeJob}, Slices.{IsSliceEnd}}
use Rattle.jb_csv_job.specs.{Standing.{HasGoneOn}, Tasks.{given_by, is_own, own_items, task_items}, declared.run.JobEnd.{JobEnd}, declared.tally.Tally.{Tally}}
use Rattle.jb_csv_job.proofs.Owning.{fewer, given-more, given-none, given-own, own-passes, passes, task-own}

-- nothing is both
pub yes-or-no : {A : Type 0} → (b : Bool) → b ≡ true → b ≡ false → A
yes-or-no b is isnt = absurd (both_ways b isnt is)

not-over : (limit : Option ℕ) (m n : ℕ) → IsOver limit m → m ≤ n → MatchOption limit ⊤ (λ l. n ≤ l) → ⊥
not-over limit m n over less few = grind arith

-- the records of a job that is taken up are those of the text
pub read-of : {job : JobRecord} {functions : Functions} {text : List ℕ} {log db : ℕ → List ℕ} → (up : CanResumeJob job functions (Some text) log db) → AreRowsOf job.options text up.records
read-of {job} {functions} {text} up = let same : up.bytes ≡ text = cc (up.known) in subst (λ t. AreRowsOf job.options t up.records) same up.read

-- a job is resumed only over a text that is known: what holds of it holds of what the stream has
pub of-stream : {R : Type 0} (job : JobRecord) (remaining : R → Option (List ℕ)) (reader : RowsReader R) (log db : ℕ → List ℕ) (text : Option (List ℕ)) (P : Functions → Option (List ℕ) → Type 0)
    → IfSome text (λ bytes. HasGivenRows job.options remaining reader bytes []) → IfJobResumes job remaining reader log db (λ functions bytes. P functions (Some bytes))
    → (functions : Functions) → CanResumeJob job functions text log db → P functions text
of-stream job remaining reader log db text P given holds functions up =
    rw up.known (holds up.bytes (known text (λ bytes. HasGivenRows job.options remaining reader bytes []) up.bytes up.known given) functions (rw up.known at up))

-- the slice was the last one, or the reader is before the next one
pub next-is : (is_last goes_on : Bool) (P Q O : Type 0) → MatchBool is_last P Q → (goes_on ≡ false → O) → MatchBool (not is_last && goes_on) Q (P ⊎ O)
next-is true goes_on P Q O next over = inl next
next-is false true P Q O next over = next
next-is false false P Q O next over = inr (over refl)

-- what is left of it before, or of this, is left of it after
pub then-left : {A B C P : Type 0} → (B → A ⊎ P) → (C → B ⊎ P) → C → A ⊎ P
then-left first second c = elim (second c) [
  | inl b ↦ first b
  | inr p ↦ inr p
]

-- ---- before the first slice

pub none-done : (job : JobRecord) (items : List (List ℕ)) → AreDone job items 0 0 false []
none-done job items = record {
  count = 0;
  front = given-none job.task;
  good = λ _. record { results = given-none job.task; passed = λ k less own. absurd (omega (arith, less)); skips_are = refl; few = grind arith };
  bad = λ is. absurd (false≢true is);
}

pub first-stands : {R : Type 0} (job : JobRecord) (remaining : R → Option (List ℕ)) (text : List ℕ) (records : List Fields) (reader : RowsReader R)
    → HasGivenRows job.options remaining reader text [] → StandsBefore job remaining text records 0 reader
first-stands job remaining text records reader given =
    let e : first_of job.job 0 ≡ 0 = omega arith in record { has = rw e (omega arith); given = rw e given }

-- ---- one slice more

module _ (job : JobRecord) (items : List (List ℕ)) (number skips : ℕ) (failed : Bool) (taken : List (List ℕ)) (done : AreDone job items number skips failed taken) where
  abbrev HasPassed : ℕ → Type 0
  HasPassed k = is_own job.task k ≡ true → SlicePasses job.job job.limits job.function (slice_at job.job items k)

  -- the slice isn't one of the task's own
  pub passed-by : is_own job.task number ≡ false → AreDone job items (suc number) skips failed taken
  passed-by other = record {
    count = done.count;
    front = done.front;
    good = λ fine. (let g = done.good fine in record {
      results = rw (other, append-nil) g.results;
      passed = λ k less. below_more HasPassed number g.passed (λ own. yes-or-no (is_own job.task number) own other) k (omega (arith, less));
      skips_are = rw (other, append-nil) g.skips_are;
      few = g.few;
    });
    bad = done.bad;
  }

  module _ (own : is_own job.task number ≡ true) (end : SliceEnd) (ends : IsSliceEnd job number (slice_at job.job items number) end) where
    -- its skips and those before it are the faults of the slices up to it
    counts : end.status ≡ Completed → AreGood job items number skips taken → skips + length end.skips.items ≡ length (fault_classes job.function (own_items job.job job.task items (suc number)))
    counts completed g =
        let slice = slice_at job.job items number in
        let own-skips = sym (length-map end.skips.items fault_in) ∙ ap length (ends.skips completed) ∙ faults-count job.function (first_of job.job number) slice in
        rw (own, classes-append job.function (own_items job.job job.task items number) slice, length-append) (omega (arith, own-skips, g.skips_are))

    -- it is whole, and its results are given away
    pub given-away : (new : Bool) (now : ℕ) → end.status ≡ Completed → failed ≡ false → new ≡ false → now ≡ skips + length end.skips.items → MatchOption job.limits.job_skips ⊤ (λ limit. now ≤ limit)
        → AreDone job items (suc number) now new (taken ++ given_by job.task (joined end.results.items))
    given-away new now completed fine still is few =
        let g = done.good fine in
        let more = given-more job.task job.function (own_items job.job job.task items number) (slice_at job.job items number) in
        let results : taken ++ given_by job.task (joined end.results.items) ≡ front_of job items (suc number) = rw (own, more, ends.results completed, g.results) in
        record {
          count = suc number;
          front = results;
          good = λ _. record {
            results = results;
            passed = λ k less. below_more HasPassed number g.passed (λ mine. ends.passes completed) k (omega (arith, less));
            skips_are = is ∙ counts completed g;
            few = few;
          };
          bad = λ is. yes-or-no new is still;
        }

    -- it failed, or one before it; or more were skipped than the limit
    pub kept-back : (new : Bool) (now : ℕ) → new ≡ true → 0 < job.job.slice_length → HasSlice job.job items number
        → ((failed ≡ true) ⊎ (end.status ≡ Failed)) ⊎ ((end.status ≡ Completed) × IsOver job.limits.job_skips (skips + length end.skips.items)) → AreDone job items (suc number) now new taken
    kept-back new now is some has why = record {
      count = done.count;
      front = done.front;
      good = λ fine. yes-or-no new is fine;
      bad = λ _ pass.
          (let own-pass = own-passes job items job.task pass in
          let all = length (fault_classes job.function (task_items job.job job.task items)) in
          let few = fewer job.job some items job.function job.task number has in
          elim why [
            | inl (inl before) ↦ done.bad before pass
            | inl (inr here) ↦ ends.fails here (own-pass.each number own)
            | inr over ↦ elim (cases_Bool failed) [
              | inl before ↦ done.bad before pass
              | inr fine ↦ not-over job.limits.job_skips (skips + length end.skips.items) all over.1 (rw (counts over.0 (done.good fine)) few) own-pass.few
            ]
          ]);
    }

-- ---- after the last slice

module _ {R : Type 0} {job : JobRecord} {remaining : R → Option (List ℕ)} {text : List ℕ} {records : List Fields} {number : ℕ} {reader : RowsReader R} {Took : List (List ℕ) → Type 0}
    {Listed : (List (List ℕ) → Type 0) → Type 0} {more : Bool} (t : Tally) (gone : HasGoneOn job remaining text records number reader t.skips t.is_failed Took Listed more) (stops : more ≡ false) where
  -- it is the last one if none failed
  pub the-end : t.is_failed ≡ false → IsLastSlice job.job (map packed records) number
  the-end fine = elim (MatchBool-at_false _ _ stops gone.next) [
    | inl last ↦ last
    | inr over ↦ absurd (not-over job.limits.job_skips t.skips t.skips over (omega arith) (gone.ran.done.good fine).few)
  ]

  pub has-ended : 0 < job.job.slice_length → AreRowsOf job.options text records → (end : JobEnd) → IsEndOf t end → HasEnded job (Some text) Took end.status end.skips
  has-ended some read end is =
      let items = map packed records in
      let good = λ (zero : end.status ≡ 0). gone.ran.done.good (is.completed zero) in
      let last = λ (zero : end.status ≡ 0). the-end (is.completed zero) in
      let own = λ (zero : end.status ≡ 0). task-own job.job some items job.task number (last zero) in
      record {
        by_rules = record {
          records = records;
          read = read;
          passes = λ zero. passes job items job.task (record {
            each = λ k mine. elim (cases_lt number k) [
              | inl later ↦ ranges-none job.function (rules_of job.job job.limits) 0 (slice_at job.job items k) _ (empty-after job.job items number k (last zero) later)
              | inr more ↦ (good zero).passed k (omega (arith, more)) mine
            ];
            few = rw (← own zero, ← (good zero).skips_are) (good zero).few;
          });
          fails = λ one. gone.ran.done.bad (is.failed one);
        };
        all = λ zero. record {
          records = records;
          read = read;
          taken = rw (← all-of-them job.job items number (last zero), ← given-own job.job job.task job.function items (suc number), ← (good zero).results) gone.ran.took;
        };
        skipped = λ zero. record { records = records; read = read; skips_are = rw (is.skips, ← own zero) (good zero).skips_are };
      }

-- ---- what was given

pub so-far : {job : JobRecord} {text : List ℕ} {Took : List (List ℕ) → Type 0} (records : List Fields) (taken : List (List ℕ)) (count : ℕ) → AreRowsOf job.options text records → Took taken
    → taken ≡ front_of job (map packed records) count → HasTakenSoFar job (Some text) Took
so-far {job} {text} {Took} records taken count read took front =
    record { records = records; count = count; read = read; taken = subst Took (front ∙ given-own job.job job.task job.function (map packed records) count) took }
