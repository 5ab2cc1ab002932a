-- A run that goes on from an earlier one.
use Rattle.std.proofs.Common.{◌≡◌, ℕ, ◌++◌, ◌≤◌, Bool, true, false, cond, List, [], ◌∷◌, length, map, Option, Some, None, Result, Ok, refl, ap, sym, subst, ◌∙◌}
use Rattle.std.proofs.Math.Seq.{drop-append_seam, take-append_seam}
use Rattle.std.specs.Prelude.{IfSome, drop, take}
use Rattle.jb_rules.specs.declared.row.Row.{Row}
use Rattle.jb_rules.specs.Rows.{dropped_row}
use Rattle.jb_rules.specs.States.{is_failed}
use Rattle.jb_job.specs.Reading.{tree_of}
use Rattle.jb_saved.specs.GoingOn.{restarted, rows_restarted}
use Rattle.jb_saved.specs.Reading.{answer_of}
use Rattle.jb_saved.specs.SavedRows.{SavedRows}
use Rattle.jb_saved.specs.declared.place.SavedPlace.{SavedPlace}
use Rattle.jb_records.specs.StoppedRuns.{HoldsStoppedRun, IsStoppedRun}
use Rattle.jb_records.specs.Function.{Function}
use Rattle.jb_records.specs.PartitionResults.{AreRowsInOrder, AreNumbered, ArePartitionResults, IsPartitionResult, IsSoFar, joined}

-- ---- ROWS THAT GO ON

share-again : (f : Function) (records : List (List ℕ)) (b : Bool) (row : Row) (share : List (List ℕ)) → IsPartitionResult f records row share → IsPartitionResult f records (cond b (dropped_row row) row) share
share-again f records true row share is = record { results = is.results; number = is.number; whole = λ e. absurd cc }
share-again f records false row share is = is

partition_results-again : (f : Function) (records : List (List ℕ)) (rows : List Row) (partition_results : List (List (List ℕ))) → ArePartitionResults f records rows partition_results → ArePartitionResults f records (map restarted rows) partition_results
partition_results-again f records [] [] are = tt
partition_results-again f records [] (share ∷ partition_results) are = absurd are
partition_results-again f records (row ∷ rows) [] are = absurd are
partition_results-again f records (row ∷ rows) (share ∷ partition_results) are = (share-again f records (is_failed row.state) row share are.0, partition_results-again f records rows partition_results are.1)

first-again : (from to : ℕ) (b : Bool) (row : Row) (rows : List Row) → row.lo ≡ from → from ≤ row.hi → AreRowsInOrder row.hi to rows → AreRowsInOrder from to (cond b (dropped_row row) row ∷ rows)
first-again from to true row rows lo hi order = (lo, hi, order)
first-again from to false row rows lo hi order = (lo, hi, order)

order-again : (from to : ℕ) (rows : List Row) → AreRowsInOrder from to rows → AreRowsInOrder from to (map restarted rows)
order-again from to [] order = order
order-again from to (row ∷ rows) order = first-again from to (is_failed row.state) row (map restarted rows) order.0 order.1 (order-again row.hi to rows order.2)

-- a partition that failed waits at its checkpoint, with its share
pub so-far-again : (f : Function) (records : List (List ℕ)) (held : SavedRows) (partition_results : List (List (List ℕ))) → IsSoFar f records held.rows partition_results → IsSoFar f records (rows_restarted held) partition_results
so-far-again f records held partition_results so-far = record { order = order-again 0 (length records) held.rows so-far.order; each = partition_results-again f records held.rows partition_results so-far.each }

-- ---- THE SHARES ARE FOUND AGAIN

pub numbered-so : (f : Function) (records : List (List ℕ)) (rows : List Row) (partition_results : List (List (List ℕ))) → ArePartitionResults f records rows partition_results → AreNumbered rows partition_results
numbered-so f records [] [] are = tt
numbered-so f records [] (share ∷ partition_results) are = absurd are
numbered-so f records (row ∷ rows) [] are = absurd are
numbered-so f records (row ∷ rows) (share ∷ partition_results) are = (are.0.number, numbered-so f records rows partition_results are.1)

same-front : {A : Type 0} (a b x y : List A) → length a ≡ length b → a ++ x ≡ b ++ y → a ≡ b
same-front a b x y long e = sym (take-append_seam a x) ∙ ap (take (length a)) e ∙ ap (λ n. take n (b ++ y)) long ∙ take-append_seam b y

same-back : {A : Type 0} (a b x y : List A) → length a ≡ length b → a ++ x ≡ b ++ y → x ≡ y
same-back a b x y long e = sym (drop-append_seam a x) ∙ ap (drop (length a)) e ∙ ap (λ n. drop n (b ++ y)) long ∙ drop-append_seam b y

-- joined shares come apart in one way only
same-partition_results : (rows : List Row) (partition_results others : List (List (List ℕ))) → AreNumbered rows partition_results → AreNumbered rows others → joined partition_results ≡ joined others → partition_results ≡ others
same-partition_results [] [] [] are were e = refl
same-partition_results [] [] (other ∷ others) are were e = absurd were
same-partition_results [] (share ∷ partition_results) others are were e = absurd are
same-partition_results (row ∷ rows) [] others are were e = absurd are
same-partition_results (row ∷ rows) (share ∷ partition_results) [] are were e = absurd were
same-partition_results (row ∷ rows) (share ∷ partition_results) (other ∷ others) are were e =
    let long = are.0 ∙ sym were.0 in
    let front = same-front share other (joined partition_results) (joined others) long e in
    let back = same-back share other (joined partition_results) (joined others) long e in
    ap (λ s. s ∷ partition_results) front ∙ ap (λ ss. other ∷ ss) (same-partition_results rows partition_results others are.1 were.1 back)

held-rows : (saved : Option SavedRows) (held : SavedRows) (rows : List Row) → saved ≡ Some held → IfSome saved (λ s. rows ≡ rows_restarted s) → rows ≡ rows_restarted held
held-rows saved held rows given are = subst (λ (o : Option SavedRows). IfSome o (λ s. rows ≡ rows_restarted s)) given are

pub going-on : (f : Function) (records : List (List ℕ)) (saved : Option SavedRows) (earlier : List (List ℕ)) (rows : List Row) (partition_results : List (List (List ℕ))) → IsStoppedRun f records saved earlier
    → IfSome saved (λ held. rows ≡ rows_restarted held) → AreNumbered rows partition_results → joined partition_results ≡ earlier → IsSoFar f records rows partition_results
going-on f records saved earlier rows partition_results stopped are numbered whole =
    let same-rows = held-rows saved stopped.held rows stopped.given are in
    let so-far : IsSoFar f records rows stopped.partition_results =
    subst (λ (rs : List Row). IsSoFar f records rs stopped.partition_results) (sym same-rows) (so-far-again f records stopped.held stopped.partition_results stopped.so_far) in
    let same = same-partition_results rows stopped.partition_results partition_results (numbered-so f records rows stopped.partition_results so-far.each) numbered (stopped.results ∙ sym whole) in
    subst (IsSoFar f records rows) same so-far

-- ---- A SAVED TEXT

pub same-held : (o : Result SavedRows SavedPlace) (held other : SavedRows) → o ≡ Ok held → o ≡ Ok other → held ≡ other
same-held o held other a b = cc

-- a text is read in one way only
pub stopped-run : (f : Function) (records : List (List ℕ)) (text : List ℕ) (held : SavedRows) (earlier : List (List ℕ)) → answer_of (tree_of text) ≡ Ok held → HoldsStoppedRun f records text earlier
    → IsStoppedRun f records (Some held) earlier
stopped-run f records text held earlier read stopped = record {
  held = stopped.held;
  given = ap Some (same-held _ held stopped.held read stopped.read);
  partition_results = stopped.partition_results;
  so_far = stopped.so_far;
  results = stopped.results;
}

-- what holds behind an earlier run, if there is one
pub behind : {E Q : Type 0} (P : Function → E → Type 0) (Begins : Function → Type 0) (o : Option E) (f : Function) → IfSome o (λ e. (g : Function) → P g e → Begins g) → (Begins f → Q) → IfSome o (λ e. P f e → Q)
behind P Begins None f goes so = tt
behind P Begins (Some e) f goes so = λ stopped. so (goes f stopped)

pub if-some : {E : Type 0} (o : Option E) (e : E) (P : E → Type 0) → o ≡ Some e → P e → IfSome o P
if-some o e P is holds = subst (λ x. IfSome x P) (sym is) holds
