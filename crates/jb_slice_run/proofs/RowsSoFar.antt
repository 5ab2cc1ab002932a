-- Rows that follow the rules are partitions so far, and back: the faults and results of a range of records are those of its items.
use Rattle.std.{specs.List.{AllByRecursion, cons_option, filter_map, range_with_len}, proofs.Common.{◌≡◌, ℕ, suc, ◌+◌, ◌-◌, ◌≤◌, ◌<◌, List, [], ◌∷◌, length, take, drop, Option, option_map, refl, ap, sym, subst, ◌∙◌, arith, inl, inr, zero, ◌++◌, add-one, drop-cons}, proofs.lemmas.Bool.{cases_lt}}
use Rattle.std.{proofs.lemmas.List.{drop_all, length-map, length-drop, length-take-le}, proofs.lemmas.List.Elements.{filter_map-append}, specs.Prelude.{slice_index_or}}
use Rattle.jb_base.specs.{Rules.{RulesRecord}, declared.class.ClassId.{ClassId}}
use Rattle.jb_ready.specs.declared.notes.Note.{Note}
use Rattle.jb_rules.specs.{Sound.{IsPlaced}, declared.row.Row.{Row}}
use Rattle.jb_records.specs.{Following.{FollowRules, FollowsRules, IsStop as IsRowStop, classes_between}, FollowingLaws.{FaultsAreOfItems}, Function.{refusal_of as row_refusal, steady}, PartitionResults.{AreRowsInOrder, ArePartitionResults, IsPartitionResult}, Skips.{skips_between, skip_by}}
use Rattle.jb_records.{proofs.Joining.{order-rises, own-record}, specs.Artifacts.{record_of, results_between}}
use Rattle.jb_slices.{specs.Function.{Fault, Function, ItemsPass, Pass, faults_from, refusal_of, all_results, fault_and, fault_classes, result_of}, specs.Checkpoint.{Progress}, specs.Partitions.{ArePartitionsSoFar, IsPartitionSoFar, IsStop}, proofs.Faults.{items-pass-front}, proofs.Lists.{drop-drop, take-less}}
use Rattle.jb_slice_run.specs.{Rows.{ArePlaced, AreStopsNamed, IsStopNamed, fault_at, faults_at, progress_of, progresses_of, results_in, rows_in}, RowLaws.{RowsAreSoFar, SoFarAreRows}}

-- ---- one item

item-at : (xs : List (List ℕ)) (i n : ℕ) → i < length xs → take (suc n) (drop i xs) ≡ slice_index_or xs i [] ∷ take n (drop (i + 1) xs)
item-at xs i n below = rw (add-one, drop-cons xs i [])

-- a partition's records are those of all that have their numbers
pub own-item : (records : List (List ℕ)) (lo hi k n : ℕ) → k ≡ lo + n → k < hi → slice_index_or (take (hi - lo) (drop lo records)) n [] ≡ record_of 0 records k
own-item records lo hi k n is to = let e : n ≡ k - lo = omega (arith, is) in rw e (own-record records lo hi k (omega (arith, is)) to)

-- ---- faults

fault-by : (first k : ℕ) (o : Option ClassId) (notes : List Note) → faults_at first (cons_option (skip_by k o) notes) ≡ fault_and (first + k) o (faults_at first notes)
fault-by first k o notes = grind arith

pub faults-of : (f : Function) (first : ℕ) (records : List (List ℕ)) (n lo : ℕ) → lo + n ≤ length records
    → faults_at first (filter_map (λ k. skip_by k (row_refusal (steady f) (record_of 0 records k))) (range_with_len lo n)) ≡ faults_from f (first + lo) (take n (drop lo records))
faults-of f first records zero lo below = refl
faults-of f first records (suc n) lo below =
    let here : lo - 0 ≡ lo = omega arith in
    let next : first + (lo + 1) ≡ suc (first + lo) = omega arith in
    let later = faults-of f first records n (lo + 1) (omega (arith, below)) ∙ ap (λ m. faults_from f m (take n (drop (lo + 1) records))) next in
    fault-by first lo (refusal_of f (record_of 0 records lo)) (filter_map (λ k. skip_by k (row_refusal (steady f) (record_of 0 records k))) (range_with_len (lo + 1) n))
    ∙ (λ i. fault_and (first + lo) (refusal_of f (slice_index_or records (here i) [])) (later i))
    ∙ sym (ap (faults_from f (first + lo)) (item-at records lo n (omega (arith, below))))

-- ---- skips up to one place, and from there on

pub range-on : (lo m n at k : ℕ) → at ≡ lo + m → k ≡ m + n → range_with_len lo m ++ range_with_len at n ≡ range_with_len lo k
range-on lo zero n at k is all = let here : at ≡ lo = omega arith in let same : n ≡ k = omega arith in λ i. range_with_len (here i) (same i)
range-on lo (suc m) n at zero is all = absurd (omega (arith, all))
range-on lo (suc m) n at (suc k) is all = ap (λ ns. lo ∷ ns) (range-on (lo + 1) m n at k (omega (arith, is)) (omega (arith, all)))

pub skips-join : (f : Function) (records : List (List ℕ)) (lo at hi : ℕ) → lo ≤ at → at ≤ hi → skips_between (steady f) records lo at ++ skips_between (steady f) records at hi ≡ skips_between (steady f) records lo hi
skips-join f records lo at hi from to =
    let g : ℕ → Option Note = λ k. skip_by k (refusal_of f (record_of 0 records k)) in
    sym (filter_map-append g (range_with_len lo (at - lo)) (range_with_len at (hi - at))) ∙ ap (filter_map g) (range-on lo (at - lo) (hi - at) at (hi - lo) (omega arith) (omega arith))

-- the classes of those of a partition's first items
pub classes-own : FaultsAreOfItems → (f : Function) (records : List (List ℕ)) (lo hi k n : ℕ) → k ≡ lo + n → k ≤ hi → hi ≤ length records
    → classes_between (steady f) records lo k ≡ fault_classes f (take n (take (hi - lo) (drop lo records)))
classes-own law f records lo hi k n is to below =
    let e : k - lo ≡ n = omega (arith, is) in
    law (steady f) records lo k (omega (arith, is)) (omega (arith, to, below))
    ∙ ap (λ m. fault_classes f (take m (drop lo records))) e
    ∙ sym (ap (fault_classes f) (take-less n (hi - lo) (drop lo records) (omega (arith, is, to))))

-- ---- results

items-of : {B : Type 0} (g : List ℕ → Option B) (xs : List (List ℕ)) (lo i n from : ℕ) → from ≡ lo + i → i + n ≤ length xs
    → filter_map (λ k. g (record_of lo xs k)) (range_with_len from n) ≡ filter_map g (take n (drop i xs))
items-of g xs lo i zero from is below = refl
items-of g xs lo i (suc n) from is below =
    let here : from - lo ≡ i = omega (arith, is) in
    let later = items-of g xs lo (i + 1) n (from + 1) (omega (arith, is)) (omega (arith, below)) in
    (λ j. cons_option (g (slice_index_or xs (here j) [])) (later j)) ∙ sym (ap (filter_map g) (item-at xs i n (omega (arith, below))))

pub own-length : (records : List (List ℕ)) (lo hi : ℕ) → lo ≤ hi → hi ≤ length records → length (take (hi - lo) (drop lo records)) ≡ hi - lo
own-length records lo hi le below = length-take-le (hi - lo) (drop lo records) (omega (arith, length-drop lo records, below))

-- those of a partition's first items
pub results-own : (f : Function) (records : List (List ℕ)) (lo hi at : ℕ) → lo ≤ at → at ≤ hi → hi ≤ length records
    → results_between (steady f) lo (take (hi - lo) (drop lo records)) lo at ≡ all_results f (take (at - lo) (take (hi - lo) (drop lo records)))
unfolding results_between
results-own f records lo hi at from to below =
    items-of (result_of f) (take (hi - lo) (drop lo records)) lo 0 (at - lo) lo (omega arith) (omega (arith, own-length records lo hi (omega (arith, from, to)) below, from, to))

-- the items of a row's range
abbrev own-of : (records : List (List ℕ)) → Row → List (List ℕ)
own-of records row = take (row.hi - row.lo) (drop row.lo records)

-- ---- ONE ROW

module _ (law : FaultsAreOfItems) (f : Function) (rules : RulesRecord) (first : ℕ) (records : List (List ℕ)) where
  -- the record by whose fault it fails
  stop-there : (row : Row) (note : Note) → IsPlaced row → row.hi ≤ length records → IsRowStop (steady f) rules records row note
      → IsStop f rules (first + row.lo) (own-of records row) (fault_at first note)
  stop-there row note placed below stop =
      let before = note.number - row.lo in
      record {
        before = before;
        within = omega (arith, own-length records row.lo row.hi (omega arith) below);
        number = omega arith;
        class = ap (refusal_of f) (own-item records row.lo row.hi note.number before (omega arith) stop.to) ∙ stop.refused;
        passed = subst (Pass rules) (classes-own law f records row.lo row.hi note.number before (omega arith) (omega arith) below) stop.passed;
        fails = λ pass. stop.fails (subst (Pass rules) (sym (classes-own law f records row.lo row.hi (suc note.number) (suc before) (omega arith) (omega arith) below)) pass);
      }

  -- its skipped items
  skips-own : (row : Row) → IsPlaced row → row.hi ≤ length records
      → faults_at first (skips_between (steady f) records row.lo row.at) ≡ faults_from f (first + row.lo) (take (row.at - row.lo) (own-of records row))
  skips-own row placed below =
      faults-of f first records (row.at - row.lo) row.lo (omega (arith, placed))
      ∙ sym (ap (faults_from f (first + row.lo)) (take-less (row.at - row.lo) (row.hi - row.lo) (drop row.lo records) (omega arith)))

  row-so-far : (row : Row) (share : List (List ℕ)) (stop : Option Note) → IsPlaced row → row.hi ≤ length records → IsPartitionResult (steady f) records row share → FollowsRules (steady f) rules records row
      → IsStopNamed f rules records row stop → IsPartitionSoFar f rules (first + row.lo) (own-of records row) (progress_of f first records row share stop)
  row-so-far row share stop placed below is follows named =
      let count = sym (length-map (skips_between (steady f) records row.lo row.at) (fault_at first)) in
      record {
        results = is.results ∙ results-own f records row.lo row.hi row.at placed.at_from placed.at_to below;
        skips = skips-own row placed below;
        written = sym is.number;
        counted = follows.counted ∙ count;
        skipped = follows.skipped ∙ count;
        passed = subst (Pass rules) (classes-own law f records row.lo row.hi row.at (row.at - row.lo) (omega (arith, placed)) placed.at_to below) follows.passed;
        failed = λ failed. (
            let stopped = named failed in
            (fault_at first stopped.0, ap (option_map (fault_at first)) stopped.1, stop-there row stopped.0 placed below stopped.2)
            );
        finished = is.whole;
      }

  -- ---- and back

  -- each partition by itself
  pub record IsPart (p : Progress) : Type 0 where
    pub placed : IsPlaced p.row
    pub below : p.row.hi ≤ length records
    pub part : IsPartitionSoFar f rules (first + p.row.lo) (own-of records p.row) p

  pub skips-of : (p : Progress) → IsPart p → p.skips ≡ faults_at first (skips_between (steady f) records p.row.lo p.row.at)
  skips-of p is = is.part.skips ∙ sym (skips-own p.row is.placed is.below)

  part-share : (p : Progress) → IsPart p → IsPartitionResult (steady f) records p.row p.results
  part-share p is = record {
    results = is.part.results ∙ sym (results-own f records p.row.lo p.row.hi p.row.at is.placed.at_from is.placed.at_to is.below);
    number = sym is.part.written;
    whole = is.part.finished;
  }

  -- a partition hasn't passed the item by whose fault it fails
  not-passed : (n before : ℕ) (own : List (List ℕ)) → ItemsPass f rules (take n own) → (ItemsPass f rules (take (suc before) own) → ⊥) → n ≤ before
  not-passed n before own passed fails =
      elim (cases_lt before n) [
        | inl less ↦ absurd (fails (subst (ItemsPass f rules) (take-less (suc before) n own (omega (arith, less))) (items-pass-front f rules (suc before) (take n own) passed)))
        | inr more ↦ more
      ]

  stop-back : (p : Progress) (fault : Fault) → IsPlaced p.row → p.row.hi ≤ length records → ItemsPass f rules (take (p.row.at - p.row.lo) (own-of records p.row))
      → (s : IsStop f rules (first + p.row.lo) (own-of records p.row) fault) → IsRowStop (steady f) rules records p.row (record { number = p.row.lo + s.before; class = fault.class })
  stop-back p fault placed below passed s =
      let row = p.row in
      let n = row.lo + s.before in
      let last : n < row.hi = omega (arith, placed, s.within, own-length records row.lo row.hi (omega (arith, placed)) below) in
      record {
        from = omega (arith, placed, not-passed (row.at - row.lo) s.before (own-of records row) passed s.fails);
        to = last;
        refused = sym (ap (refusal_of f) (own-item records row.lo row.hi n s.before refl last)) ∙ s.class;
        passed = subst (Pass rules) (sym (classes-own law f records row.lo row.hi n s.before refl (omega (arith, last)) below)) s.passed;
        fails = λ pass. s.fails (subst (Pass rules) (classes-own law f records row.lo row.hi (suc n) (suc s.before) (omega arith) (omega (arith, last)) below) pass);
      }

  part-follows : (p : Progress) → IsPart p → FollowsRules (steady f) rules records p.row
  part-follows p is =
      let row = p.row in
      let count = ap length (skips-of p is) ∙ length-map (skips_between (steady f) records row.lo row.at) (fault_at first) in
      record {
        counted = is.part.counted ∙ count;
        skipped = is.part.skipped ∙ count;
        passed = subst (Pass rules) (sym (classes-own law f records row.lo row.hi row.at (row.at - row.lo) (omega (arith, is.placed)) is.placed.at_to is.below)) is.part.passed;
        failed = λ failed. (
            let stop = is.part.failed failed in
            (record { number = row.lo + stop.2.before; class = stop.0.class }, stop-back p stop.0 is.placed is.below is.part.passed stop.2)
            );
      }

  -- ---- ALL ROWS

  rows-parts : (from : ℕ) (rs : List Row) (partition_results : List (List (List ℕ))) (stops : List (Option Note)) → AreRowsInOrder from (length records) rs → ArePartitionResults (steady f) records rs partition_results
      → FollowRules (steady f) rules records rs → ArePlaced rs → AreStopsNamed f rules records rs stops → ArePartitionsSoFar f rules first from (drop from records) (progresses_of f first records rs partition_results stops)
  rows-parts from [] partition_results stops order are follow placed named = drop_all from records (omega (arith, order))
  rows-parts from (row ∷ rs) [] stops order are follow placed named = absurd are
  rows-parts from (row ∷ rs) (share ∷ partition_results) [] order are follow placed named = absurd named
  rows-parts from (row ∷ rs) (share ∷ partition_results) (stop ∷ stops) order are follow placed named =
      let here = order.1 in
      let below = order-rises row.hi (length records) rs order.2 in (
        order.0,
        here,
        subst (λ n. IsPartitionSoFar f rules (first + n) (take (row.hi - n) (drop n records)) (progress_of f first records row share stop)) order.0
            (row-so-far row share stop placed.0 below are.0 follow.0 named.0),
        subst (λ items. ArePartitionsSoFar f rules first row.hi items (progresses_of f first records rs partition_results stops)) (sym (drop-drop from (row.hi - from) row.hi records (omega (arith, here))))
            (rows-parts row.hi rs partition_results stops order.2 are.1 follow.1 placed.1 named.1),
      )

  pub parts-all : (from : ℕ) (ps : List Progress) → ArePartitionsSoFar f rules first from (drop from records) ps → AreRowsInOrder from (length records) (rows_in ps) → ArePlaced (rows_in ps) → AllByRecursion IsPart ps
  parts-all from [] parts order placed = tt
  parts-all from (p ∷ ps) parts order placed = (
    record { placed = placed.0; below = order-rises p.row.hi (length records) (rows_in ps) order.2; part = subst (λ n. IsPartitionSoFar f rules (first + n) (take (p.row.hi - n) (drop n records)) p) (sym parts.0) parts.2 },
    parts-all p.row.hi ps (rw (drop-drop from (p.row.hi - from) p.row.hi records (omega (arith, parts.1))) at parts.3) order.2 placed.1,
  )

  parts-rows : (ps : List Progress) → AllByRecursion IsPart ps → ArePartitionResults (steady f) records (rows_in ps) (results_in ps) × FollowRules (steady f) rules records (rows_in ps)
  parts-rows [] are = (tt, tt)
  parts-rows (p ∷ ps) are = let more = parts-rows ps are.1 in ((part-share p are.0, more.0), (part-follows p are.0, more.1))

pub rows-so-far : FaultsAreOfItems → RowsAreSoFar
rows-so-far law f rules first records rs partition_results stops so-far follow placed named = rows-parts law f rules first records 0 rs partition_results stops so-far.order so-far.each follow placed named

pub so-far-rows : FaultsAreOfItems → SoFarAreRows
so-far-rows law f rules first records ps parts order placed =
    let both = parts-rows law f rules first records ps (parts-all law f rules first records 0 ps parts order placed) in
    (record { order = order; each = both.0 }, both.1)
