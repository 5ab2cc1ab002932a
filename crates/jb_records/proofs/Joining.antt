-- The shares of all partitions, joined.
use Rattle.std.proofs.Common.{◌≡◌, ℕ, zero, suc, ◌+◌, ◌-◌, ◌≤◌, ◌<◌, ◌++◌, List, [], ◌∷◌, Option, length, refl, ap, sym, ◌∙◌, arith}
use Rattle.std.proofs.lemmas.List.{get_or-drop, get_or-take}
use Rattle.std.specs.Prelude.{slice_index_or, take, drop}
use Rattle.std.specs.List.{filter_map, range_with_len, cons_option}
use Rattle.jb_rules.specs.declared.row.Row.{Row}
use Rattle.jb_records.specs.Function.{Function, all_results, result_of}
use Rattle.jb_records.specs.Artifacts.{record_of, own_records, results_between}
use Rattle.jb_records.specs.PartitionResults.{ArePartitionResults, AreRowsInOrder, AreAtTheirEnds, PartitionResultsJoin, joined, results_so_far}
use Rattle.jb_records.proofs.Going.{results-join}

-- what agrees on a range of numbers gives the same list
same-on : (g h : ℕ → Option (List ℕ)) (n lo : ℕ) → ((k : ℕ) → lo ≤ k → k < lo + n → g k ≡ h k) → filter_map g (range_with_len lo n) ≡ filter_map h (range_with_len lo n)
same-on g h zero lo are = refl
same-on g h (suc n) lo are =
    ap (λ o. cons_option o (filter_map g (range_with_len (lo + 1) n))) (are lo (omega arith) (omega arith))
    ∙ ap (cons_option (h lo)) (same-on g h n (lo + 1) (λ k from to. are k (omega (arith, from)) (omega (arith, to))))

-- the record of a number, behind the first one
record-later : (first k : ℕ) (x : List ℕ) (xs : List (List ℕ)) → first + 1 ≤ k → record_of first (x ∷ xs) k ≡ record_of (first + 1) xs k
record-later first k x xs from = let e : k - first ≡ suc (k - (first + 1)) = omega (arith, from) in ap (λ i. slice_index_or (x ∷ xs) i []) e

record-here : (first : ℕ) (x : List ℕ) (xs : List (List ℕ)) → record_of first (x ∷ xs) first ≡ x
record-here first x xs = let e : first - first ≡ 0 = omega arith in ap (λ i. slice_index_or (x ∷ xs) i []) e

results-all : (f : Function) (first : ℕ) (xs : List (List ℕ)) → filter_map (λ k. result_of f (record_of first xs k)) (range_with_len first (length xs)) ≡ filter_map (result_of f) xs
results-all f first [] = refl
results-all f first (x ∷ xs) =
    ap (λ bytes. cons_option (result_of f bytes) (filter_map (λ k. result_of f (record_of first (x ∷ xs) k)) (range_with_len (first + 1) (length xs)))) (record-here first x xs)
    ∙ ap (cons_option (result_of f x)) (
    same-on (λ k. result_of f (record_of first (x ∷ xs) k)) (λ k. result_of f (record_of (first + 1) xs k)) (length xs) (first + 1) (λ k from to. ap (result_of f) (record-later first k x xs from))
    ∙ results-all f (first + 1) xs)

-- a partition's records are those of all that have their numbers
pub own-record : (records : List (List ℕ)) (lo hi k : ℕ) → lo ≤ k → k < hi → record_of lo (take (hi - lo) (drop lo records)) k ≡ record_of 0 records k
own-record records lo hi k from to =
    get_or-take (hi - lo) (drop lo records) (k - lo) [] (omega (arith, from, to)) ∙ get_or-drop lo records (k - lo) []
    ∙ (let e : lo + (k - lo) ≡ k - 0 = omega (arith, from) in ap (λ i. slice_index_or records i []) e)

-- the share of a partition that is at its end
share-whole : (f : Function) (records : List (List ℕ)) (row : Row) → row.at ≡ row.hi → row.lo ≤ row.hi → results_so_far f records row ≡ results_between f 0 records row.lo row.hi
unfolding results_between
share-whole f records row whole order =
    let own = own_records records row in
    ap (λ at. filter_map (λ k. result_of f (record_of row.lo own k)) (range_with_len row.lo (at - row.lo))) whole
    ∙ same-on (λ k. result_of f (record_of row.lo own k)) (λ k. result_of f (record_of 0 records k)) (row.hi - row.lo) row.lo
    (λ k from to. ap (result_of f) (own-record records row.lo row.hi k from (omega (arith, order, to))))

pub order-rises : (from to : ℕ) (rows : List Row) → AreRowsInOrder from to rows → from ≤ to
order-rises from to [] order = omega (arith, order)
order-rises from to (row ∷ rows) order = let here = order.1 in let later = order-rises row.hi to rows order.2 in omega (arith, here, later)

no-results : (f : Function) (records : List (List ℕ)) (from to : ℕ) → from ≡ to → [] ≡ results_between f 0 records from to
unfolding results_between
no-results f records from to same =
    let none : to - from ≡ 0 = omega (arith, same) in
    ap (λ n. filter_map (λ k. result_of f (record_of 0 records k)) (range_with_len from n)) (sym none)

partition_results-join : (f : Function) (records : List (List ℕ)) (from to : ℕ) (rows : List Row) (partition_results : List (List (List ℕ))) → AreRowsInOrder from to rows
    → ArePartitionResults f records rows partition_results → AreAtTheirEnds rows → joined partition_results ≡ results_between f 0 records from to
partition_results-join f records from to [] [] order are whole = no-results f records from to order
partition_results-join f records from to [] (share ∷ partition_results) order are whole = absurd are
partition_results-join f records from to (row ∷ rows) [] order are whole = absurd are
partition_results-join f records from to (row ∷ rows) (share ∷ partition_results) order are whole =
    let lo = order.0 in
    let here = order.1 in
    let later = order-rises row.hi to rows order.2 in
    let own : share ≡ results_between f 0 records from row.hi =
    are.0.results ∙ share-whole f records row (are.0.whole whole.0) (omega (arith, lo, here)) ∙ ap (λ a. results_between f 0 records a row.hi) lo in
    let others = partition_results-join f records row.hi to rows partition_results order.2 are.1 whole.1 in
    (λ i. own i ++ others i) ∙ results-join f 0 records from row.hi to here later

whole-is-all : (f : Function) (records : List (List ℕ)) → results_between f 0 records 0 (length records) ≡ all_results f records
unfolding results_between
whole-is-all f records =
    let all : length records - 0 ≡ length records = omega arith in
    ap (λ n. filter_map (λ k. result_of f (record_of 0 records k)) (range_with_len 0 n)) all ∙ results-all f 0 records

pub partition_results-are-joined : PartitionResultsJoin
partition_results-are-joined f records rows partition_results so-far whole = partition_results-join f records 0 (length records) rows partition_results so-far.order so-far.each whole ∙ whole-is-all f records
