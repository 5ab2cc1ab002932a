-- What can be begun, and why a step over records has no end.
use Rattle.std.proofs.Common.{◌≡◌, ℕ, zero, suc, ◌+◌, ◌-◌, ◌≤◌, Bool, true, false, not, cond, nat_lt, List, [], ◌∷◌, ◌++◌, length, map, drop, Option, Some, None, refl, ap, sym, subst, ◌∙◌, arith}
use Rattle.std.proofs.lemmas.Bool.{or_parts}
use Rattle.std.proofs.lemmas.Bool.Decides.{nat_tests}
use Rattle.std.proofs.lemmas.List.{length-drop, length-take-le}
use Rattle.std.specs.Prelude.{All, bytes_eq, filter, slice_get}
use Rattle.std.specs.List.{AllByRecursion, enumerate_from}
use Rattle.jb_base.specs.declared.range.Range.{Range}
use Rattle.jb_base.specs.Rules.{RulesRecord}
use Rattle.jb_job.specs.Records.{StepRecord}
use Rattle.jb_plan.specs.Plans.{IsWithin}
use Rattle.jb_artifacts.specs.Meaning.{ArtifactsMeaning, Fits}
use Rattle.jb_rules.specs.declared.row.Row.{Row}
use Rattle.jb_rules.specs.Rows.{dropped_row, fresh_row, range_of}
use Rattle.jb_rules.specs.States.{is_failed, is_finished}
use Rattle.jb_saved.specs.GoingOn.{fault_if, ends_past, restarted}
use Rattle.jb_saved.specs.SavedRows.{SavedRows}
use Rattle.jb_saved.specs.declared.place.SavedPlace.TheVariants.{Step, Records}
use Rattle.jb_step.specs.preparing.Prepare.{DoFit, FitRows}
use Rattle.jb_step.specs.preparing.Setup.{Setup, fresh_rows, gone_on, needs, opening_rows, saved_faults, unfinished}
use Rattle.jb_records.specs.declared.step.RecordsStep.{RecordsStep}
use Rattle.jb_records.specs.Function.{Function}
use Rattle.jb_records.specs.Made.{IsStepBegun, step_record}
use Rattle.jb_records.specs.PartitionResults.{AreNumbered}
use Rattle.jb_records.specs.Steps.{AreFirstArtifacts, AreArtifacts, IsArtifactsFor}
use Rattle.jb_records.specs.Artifacts.{own_records}
use Rattle.jb_records.specs.inside.Calls.{CanBeginOver, HasOwn, HaveOwn}
use Rattle.jb_records.proofs.Begun.{artifacts-at-first}

-- ---- NO ROW ENDS PAST THE LAST RECORD

fresh-below : (records : ℕ) (ranges : List Range) → All (IsWithin records) ranges → (i : ℕ) (row : Row) → slice_get (fresh_rows ranges) i ≡ Some row → row.hi ≤ records
fresh-below records [] within i row is = absurd (cc is)
fresh-below records (range ∷ ranges) within zero row is =
    let same : fresh_row range ≡ row = cc in
    subst (λ (r : Row). r.hi ≤ records) same (within zero range (omega arith)).1
fresh-below records (range ∷ ranges) within (suc i) row is = fresh-below records ranges (λ j d below. within (suc j) d (omega (arith, below))) i row is

restarted-hi : (failed : Bool) (row : Row) → (cond failed (dropped_row row) row).hi ≡ row.hi
restarted-hi true row = refl
restarted-hi false row = refl

restarted-below : (records : ℕ) (rows : List Row) → ends_past records rows ≡ false → (i : ℕ) (row : Row) → slice_get (map restarted rows) i ≡ Some row → row.hi ≤ records
restarted-below records [] past i row is = absurd (cc is)
restarted-below records (r ∷ rows) past zero row is =
    let same : restarted r ≡ row = cc in
    let first : nat_lt records r.hi ≡ false = (or_parts (nat_lt records r.hi) (ends_past records rows) past).0 in
    let below : r.hi ≤ records = grind (arith, nat_tests, first) in
    let kept = restarted-hi (is_failed r.state) r in
    subst (λ (one : Row). one.hi ≤ records) same (omega (arith, below, kept))
restarted-below records (r ∷ rows) past (suc i) row is = restarted-below records rows (or_parts (nat_lt records r.hi) (ends_past records rows) past).1 i row is

not-past : (step past : Bool) → fault_if step Step ++ fault_if past Records ≡ [] → past ≡ false
not-past true past is = absurd (cc is)
not-past false true is = absurd (cc is)
not-past false false is = refl

opening-below : (step : StepRecord) (records : ℕ) (ranges : List Range) (replace : Bool) (saved : Option SavedRows) → All (IsWithin records) ranges → saved_faults step records replace saved ≡ []
    → (i : ℕ) (row : Row) → slice_get (opening_rows ranges (gone_on replace saved)) i ≡ Some row → row.hi ≤ records
opening-below step records ranges true saved within accepted i row at = fresh-below records ranges within i row at
opening-below step records ranges false None within accepted i row at = fresh-below records ranges within i row at
opening-below step records ranges false (Some held) within accepted i row at =
    restarted-below records held.rows (not-past (not (bytes_eq held.step step.id)) (ends_past records held.rows) accepted) i row at

pub can-begin : (step : RecordsStep) (records : ℕ) (saved : Option SavedRows) (earlier : List (List ℕ)) (s : Setup) (partition_results : List (List (List ℕ))) → IsStepBegun step records saved earlier s partition_results → CanBeginOver records s.rows partition_results
can-begin step records saved earlier s partition_results begun =
    let its = begun.prepared in record {
      within = λ p row at.
          let there : slice_get (opening_rows its.plan.ranges (gone_on its.plan.replace saved)) p ≡ Some row = subst (λ (rs : List Row). slice_get rs p ≡ Some row) its.rows at in
          let placed = (begun.setup.openable.idle p row at).0.placed in
          let from = placed.at_from in
          let to = placed.at_to in
          (omega (arith, from, to), opening-below (step_record step) records its.plan.ranges its.plan.replace saved its.runnable.within its.accepted p row there);
      numbered = begun.numbered;
    }

-- ---- EACH UNFINISHED PARTITION HAS ITS RECORDS AND ITS SHARE

abbrev left-of : List (ℕ × Row) → List (ℕ × Row)
left-of ns = filter (λ n. not (is_finished n.1.state)) ns

module _ (records : ℕ) (all : List Row) (given : List (List (List ℕ))) where
  own-if : (n : ℕ × Row) (ns : List (ℕ × Row)) (b : Bool) → HasOwn records all given n → AllByRecursion (HasOwn records all given) ns → AllByRecursion (HasOwn records all given) (cond b (n ∷ ns) ns)
  own-if n ns true own owns = (own, owns)
  own-if n ns false own owns = owns

  own-from : (k : ℕ) (rows : List Row) (partition_results : List (List (List ℕ))) → ((p : ℕ) (row : Row) → slice_get all p ≡ Some row → IsWithin records (range_of row)) → AreNumbered rows partition_results
      → ((i : ℕ) (row : Row) → slice_get rows i ≡ Some row → slice_get all (k + i) ≡ Some row) → ((i : ℕ) (share : List (List ℕ)) → slice_get partition_results i ≡ Some share → slice_get given (k + i) ≡ Some share)
      → AllByRecursion (HasOwn records all given) (left-of (enumerate_from k rows))
  own-from k [] [] within are at has = tt
  own-from k [] (share ∷ partition_results) within are at has = absurd are
  own-from k (row ∷ rows) [] within are at has = absurd are
  own-from k (row ∷ rows) (share ∷ partition_results) within are at has =
      let none : k + 0 ≡ k = omega arith in
      let here : slice_get all k ≡ Some row = subst (λ m. slice_get all m ≡ Some row) none (at zero row refl) in
      own-if (k, row) (left-of (enumerate_from (k + 1) rows)) (not (is_finished row.state))
      (record { row = here; within = within k row here; share = share; given = subst (λ m. slice_get given m ≡ Some share) none (has zero share refl); number = are.0 })
      (own-from (k + 1) rows partition_results within are.1
      (λ i r get. let e : k + suc i ≡ (k + 1) + i = omega arith in subst (λ m. slice_get all m ≡ Some r) e (at (suc i) r get))
      (λ i x get. let e : k + suc i ≡ (k + 1) + i = omega arith in subst (λ m. slice_get given m ≡ Some x) e (has (suc i) x get)))

  own-named : (ns : List (ℕ × Row)) → AllByRecursion (HasOwn records all given) ns → HaveOwn records all given (map (λ n. n.0) ns)
  own-named [] owns = tt
  own-named (n ∷ ns) owns = ((n.1, owns.0), own-named ns owns.1)

  pub own-all : CanBeginOver records all given → AllByRecursion (HasOwn records all given) (unfinished all)
  own-all can =
      own-from 0 all given can.within can.numbered (λ i row get. let e : i ≡ 0 + i = omega arith in subst (λ m. slice_get all m ≡ Some row) e get)
      (λ i x get. let e : i ≡ 0 + i = omega arith in subst (λ m. slice_get given m ≡ Some x) e get)

  pub have-own : (ps : List ℕ) → ps ≡ needs all → CanBeginOver records all given → HaveOwn records all given ps
  have-own ps is can = subst (HaveOwn records all given) (sym is) (own-named (unfinished all) (own-all can))

-- ---- SO WHAT THEY WORK WITH FITS THEM

pub own-length : (records : List (List ℕ)) (row : Row) → row.lo ≤ row.hi → row.hi ≤ length records → length (own_records records row) ≡ row.hi - row.lo
own-length records row order below =
    let long = length-drop row.lo records in
    length-take-le (row.hi - row.lo) (drop row.lo records) (omega (arith, order, below, long))

same-given : (o : Option (List (List ℕ))) (share other : List (List ℕ)) → o ≡ Some share → o ≡ Some other → other ≡ share
same-given o share other a b = cc

module _ (f : Function) (rules : RulesRecord) (records : List (List ℕ)) (rows : List Row) (partition_results : List (List (List ℕ))) where
  fit-one : (n : ℕ × Row) (w : ArtifactsMeaning) → HasOwn (length records) rows partition_results n → IsArtifactsFor f rules records partition_results n w → Fits w n.1
  fit-one n w own first =
      let order = own.within.0 in
      let below = own.within.1 in
      let from = first.0.first_is in
      let long = ap length first.0.records_are ∙ own-length records n.1 order below in
      let number = ap length (same-given (slice_get partition_results n.0) own.share w.writer.written own.given first.1) ∙ own.number in
      record { from = omega (arith, from); to = omega (arith, from, long, order); count = omega (arith, number) }

  all-fit : (ns : List (ℕ × Row)) (ws : List ArtifactsMeaning) → AllByRecursion (HasOwn (length records) rows partition_results) ns → AreArtifacts f rules records partition_results ns ws → FitRows ns ws
  all-fit [] [] owns are = tt
  all-fit [] (w ∷ ws) owns are = absurd are
  all-fit (n ∷ ns) [] owns are = absurd are
  all-fit (n ∷ ns) (w ∷ ws) owns are = (fit-one n w owns.0 are.0, all-fit ns ws owns.1 are.1)

pub artifacts-fit : (f : Function) (rules : RulesRecord) (records : List (List ℕ)) (s : Setup) (partition_results : List (List (List ℕ))) (ws : List ArtifactsMeaning) → CanBeginOver (length records) s.rows partition_results → AreArtifacts f rules records partition_results (unfinished s.rows) ws → DoFit s ws
artifacts-fit f rules records s partition_results ws can are = all-fit f rules records s.rows partition_results (unfinished s.rows) ws (own-all (length records) s.rows partition_results can) are

pub first-artifacts-fit : (f : Function) (rules : RulesRecord) (records : List (List ℕ)) (s : Setup) (partition_results : List (List (List ℕ))) (ws : List ArtifactsMeaning) → CanBeginOver (length records) s.rows partition_results → AreFirstArtifacts f rules records partition_results (unfinished s.rows) ws → DoFit s ws
first-artifacts-fit f rules records s partition_results ws can are = artifacts-fit f rules records s partition_results ws can (artifacts-at-first f rules records partition_results (unfinished s.rows) ws are)
