-- The rows of a table, in any order, and the checkpoints that they are.
use Rattle.std.proofs.Common.{◌≡◌, ◌<◌, ◌≤◌, ◌+◌, ℕ, suc, pos, List, [], ◌∷◌, length, map, Bool, true, false, Ordering, Less, Equal, Greater, IsPermutation, sym, ◌∙◌, arith, true≢false, lt-ltb}
use Rattle.std.{specs.List.AllByRecursion, specs.Ordering.{is_eq, match_ordering}, proofs.lemmas.List.Sorted.{list_any-IsPermutation, IsPermutation-refl, IsPermutation-cons, IsPermutation-trans, IsPermutation-middle, IsPermutation-sym}, proofs.lemmas.Bool.Decides.nat_tests, proofs.lemmas.Int.ints}
use Rattle.sqlite.specs.declared.types.Value.TheVariants.{Int}
use Rattle.sqlite_value.{specs.Order.{Row, value_cmp}, proofs.OrderLemmas.value_cmp-Int}
use Rattle.sqlite_trees.specs.Tree.{rowid, put_row, IsAscending}
use Rattle.sqlite_rules.specs.Edit.{is_taken}
use Rattle.sqlite_sql.specs.Query.{Output, output, output_cmp}
use Rattle.jb_slice_file.specs.{Rows.{HasNumber, stored, stored_from}, CheckpointBytes.CheckpointBytes, Numbered.at_number, Chain.{Linked, chained}}
use Rattle.jb_slice_file.proofs.{Chains.as_many, Texts.query}

-- a row whose number is free is one row more
pub put_adds : (new : Row) (rows : List Row) → is_taken rows new ≡ false → IsPermutation (new ∷ rows) (put_row new rows)
put_adds new [] free = IsPermutation-refl _
put_adds new (r ∷ rows) free = go (value_cmp (rowid r) (rowid new)) (is_taken rows new) free (put_adds new rows)
  where
    go : (o : Ordering) (b : Bool) → Rattle.std.proofs.Common.◌||◌ (is_eq o) b ≡ false → (b ≡ false → IsPermutation (new ∷ rows) (put_row new rows)) → IsPermutation (new ∷ (r ∷ rows)) (match_ordering o (r ∷ put_row new rows) (new ∷ rows) (new ∷ r ∷ rows))
    go Less b free more = IsPermutation-trans _ _ _ (IsPermutation-sym _ _ (IsPermutation-middle (r ∷ []) new rows)) (IsPermutation-cons r _ _ (more free))
    go Equal b free more = absurd (true≢false free)
    go Greater b free more = IsPermutation-refl _

-- what the query shows of a row, and what it sorts it by
abbrev pub out : Row → Output
out row = output query ([] ∷ row ∷ [])

above : (n m : ℕ) (it : Linked) (more : List Linked) → n < m → AllByRecursion (λ b. output_cmp query (out (stored (at_number n it))) b ≡ Less) (map out (stored_from m more))
above n m it [] lt = tt
above n m it (x ∷ more) lt = (rw (value_cmp-Int (pos n) (pos m), lt-ltb n m lt), above n (suc m) it more (omega arith))

pub rises : (number : ℕ) (all : List Linked) → IsAscending (λ a b. output_cmp query a b ≡ Less) (map out (stored_from number all))
rises number [] = tt
rises number (it ∷ more) = (above number (suc number) it more (omega arith), rises (suc number) more)

within : (start number : ℕ) (it : Linked) (all : List Linked) → is_taken (stored_from start all) (stored (at_number number it)) ≡ true → (start ≤ number) × (number < start + length all)
within start number it [] h = absurd (true≢false (sym h))
within start number it (x ∷ more) h = grind (arith, value_cmp-Int, ints, nat_tests, within (suc start) number it more)

-- a number that the table has is that of a checkpoint
pub taken_has : (rows : List Row) (all : List CheckpointBytes) (number : ℕ) (it : Linked) → IsPermutation (stored_from 1 (chained all)) rows → is_taken rows (stored (at_number number it)) ≡ true → HasNumber all number
taken_has rows all number it are taken =
    let w = within 1 number it (chained all) (list_any-IsPermutation (λ r. is_eq (value_cmp (rowid r) (Int (pos number)))) _ _ are ∙ taken) in
    let many = as_many all in
    (w.0, omega (arith, w.1, many))
