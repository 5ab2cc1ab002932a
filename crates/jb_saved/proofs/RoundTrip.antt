-- Reading the tree of saved rows gives the rows.
use Rattle.std.proofs.Common.{◌≡◌, ℕ, zero, suc, ◌≤◌, ◌++◌, Bool, true, false, cond, List, [], ◌∷◌, length, map, take, Option, Some, Ok, Err, Result, refl, sym, ap, ◌∙◌, subst, append_assoc, append-nil, arith, inl, inr, ◌⊎◌}
use Rattle.std.specs.Prelude.{◌==◌}
use Rattle.std.proofs.lemmas.Bool.Decides.{nat_tests}
use Rattle.std.proofs.lemmas.Bool.{cases_lt}
use Rattle.serde_json.specs.Data.{Data, string}
use Rattle.serde_json.specs.Events.{items_len}
use Rattle.serde_json.specs.View.{items_of}
use Rattle.jb_job.proofs.FieldTrees.{within}
use Rattle.jb_rules.specs.declared.row.Row.{Row}
use Rattle.jb_rules.specs.declared.row.RowState.{RowState}
use Rattle.jb_rules.specs.declared.row.RowState.TheVariants.{Waiting, Running, Finished, Failed}
use Rattle.jb_rules.specs.Numbers.{numbers_of, row_of_numbers, state_name, state_named}
use Rattle.jb_rules.specs.States.{is_running}
use Rattle.jb_saved.specs.declared.place.SavedPlace.{SavedPlace}
use Rattle.jb_saved.specs.declared.place.SavedPlace.TheVariants.{NotJson, Shape, Version, Rows, Step, Records}
use Rattle.jb_saved.specs.SavedRows.{SavedRows, IsSaved}
use Rattle.jb_saved.specs.Laws.{IsSavedTree}
use Rattle.jb_saved.specs.SavedTree.{number_tree, CanHold, row_tree_in, rows_tree_in, saved_tree}
use Rattle.jb_saved.specs.inside.Forms.{AreStill}
use Rattle.jb_saved.specs.SavedForm.{◌>>=◌, row_parts, row_of_tree, rows_from_trees, rows_of_tree, keyed, step_of, saved_of_tree, saved_form_at}
use Rattle.jb_base.specs.Limits.{max_name, max_partitions}
use Rattle.jb_saved.specs.Answers.{AllFit, IsFirstUnfit, saved_form_of, IsSavedAnswer}
use Rattle.jb_repo.proofs.Ranges.{apart_of}

-- a state's name is read back
state-back : (s : RowState) → is_running s ≡ false → state_named (state_name s) ≡ Some s
state-back Waiting still = refl
state-back (Running lane) still = cc
state-back Finished still = refl
state-back Failed still = refl

parts-back : (ns : List ℕ) (s : RowState) → is_running s ≡ false → row_parts (length ns) (items_of (map number_tree ns ++ string (state_name s) ∷ [])) ≡ Some (ns, s)
parts-back [] s still = ap (λ (o : Option RowState). o >>= λ t. Some ([], t)) (state-back s still)
parts-back (n ∷ ns) s still = ap (λ (o : Option (List ℕ × RowState)). o >>= λ more. Some (n ∷ more.0, more.1)) (parts-back ns s still)

abbrev made : Option (List ℕ × RowState) → Option Row
made o = o >>= λ parts. Some (row_of_numbers parts.0 parts.1)

-- what is listed of a row is the row: all its numbers, or all but a last one that is 0
row-by-back : (b : Bool) (r : Row) → is_running r.state ≡ false → (b ≡ true → r.in_place ≡ 0)
    → made (row_parts (cond b 14 15) (items_of (map number_tree (take (cond b 14 15) (numbers_of r)) ++ string (state_name r.state) ∷ []))) ≡ Some r
row-by-back true r still none =
    ap made (parts-back (take 14 (numbers_of r)) r.state still)
    ∙ ap (λ (n : ℕ). Some (record r { in_place = n })) (sym (none refl))
row-by-back false r still none = ap made (parts-back (numbers_of r) r.state still)

is-one : (n : ℕ) → (n == 1) ≡ true → n ≡ 1
is-one n e = grind (arith, nat_tests)

-- a row is read back of its tree, in each version that can hold it
row-back : (n : ℕ) (r : Row) → is_running r.state ≡ false → (n ≡ 1 → r.in_place ≡ 0) → row_of_tree n (row_tree_in n r) ≡ Some r
unfolding row_of_tree
row-back n r still none = row-by-back (n == 1) r still (λ e. none (is-one n e))

still-tail : (r : Row) (rows : List Row) → AreStill (r ∷ rows) → AreStill rows
still-tail r rows still i s is = still (suc i) s is

held-tail : (n : ℕ) (r : Row) (rows : List Row) → CanHold n (r ∷ rows) → CanHold n rows
held-tail n r rows held one i s is = held one (suc i) s is

pub rows-back : (n : ℕ) (done rows : List Row) → AreStill rows → CanHold n rows → rows_from_trees n done (items_of (map (row_tree_in n) rows)) ≡ Some (done ++ rows)
rows-back n done [] still held = ap Some (sym (append-nil done))
rows-back n done (r ∷ rows) still held =
    ap (λ (o : Option Row). o >>= λ row. rows_from_trees n (done ++ row ∷ []) (items_of (map (row_tree_in n) rows))) (row-back n r (still zero r refl) (λ one. held one zero r refl))
    ∙ rows-back n (done ++ r ∷ []) rows (still-tail r rows still) (held-tail n r rows held)
    ∙ ap Some (append_assoc done (r ∷ []) rows)

items-len : (n : ℕ) (rows : List Row) → items_len (items_of (map (row_tree_in n) rows)) ≡ length rows
items-len n [] = refl
items-len n (r ∷ rows) = ap suc (items-len n rows)

rows-of-back : (n : ℕ) (s : SavedRows) → IsSaved s → CanHold n s.rows → rows_of_tree n (rows_tree_in n s.rows) ≡ Some s.rows
unfolding rows_of_tree
rows-of-back n s kept held =
    let len = items-len n s.rows in
    let count = within 1 (items_len (items_of (map (row_tree_in n) s.rows))) max_partitions (subst (λ m. 1 ≤ m) (sym len) kept.some_rows) (subst (λ m. m ≤ max_partitions) (sym len) kept.few_rows) in
    rw count (rows-back n [] s.rows (λ i r is. (kept.idle i r is).1) held)

step-of-back : (s : SavedRows) → IsSaved s → step_of (string s.step) ≡ Some s.step
unfolding step_of
step-of-back s kept = rw (within 1 (length s.step) max_name kept.named.some kept.named.short) refl

-- an object that holds what a saved one holds is read as the saved rows
pub object-back : (n : ℕ) (d : Data) (s : SavedRows) → IsSavedTree n d s → IsSaved s → saved_form_at d ≡ Ok s
unfolding saved_form_at saved_of_tree
object-back n d s tree kept = rw (tree.version, tree.known, tree.keys, tree.rows, tree.step, rows-of-back n s kept tree.holds, step-of-back s kept) refl

two-holds : (rows : List Row) → CanHold 2 rows
two-holds rows one = absurd (omega (arith, one))

tree-is : (s : SavedRows) → IsSavedTree 2 (saved_tree s) s
unfolding keyed
tree-is s = record { known = refl; holds = two-holds s.rows; keys = refl; rows = refl; step = refl; version = refl }

-- ---- answers

pub all-fit : (s : SavedRows) → IsSaved s → AllFit s.rows
all-fit s kept i lt r is = ((kept.idle i r is).0, λ k t below has. apart_of s.rows kept.disjoint k i t r below has is)

pub answer-back : (n : ℕ) (d : Data) (s : SavedRows) → IsSavedTree n d s → IsSaved s → IsSavedAnswer (Some d) (Ok s)
answer-back n d s tree kept = (object-back n d s tree kept, all-fit s kept)

pub written-back : (s : SavedRows) → IsSaved s → IsSavedAnswer (Some (saved_tree s)) (Ok s)
written-back s kept = answer-back 2 (saved_tree s) s (tree-is s) kept

-- an answer that is a fault: of the form, or of a row
err-cases : (tree : Option Data) (p : SavedPlace) → IsSavedAnswer tree (Err p) → (saved_form_of tree ≡ Err p) ⊎ ((i : ℕ) × (s : SavedRows) × (p ≡ Rows i) × (saved_form_of tree ≡ Ok s) × IsFirstUnfit s.rows i)
err-cases tree NotJson a = inl a
err-cases tree Shape a = inl a
err-cases tree Version a = inl a
err-cases tree (Rows i) a = inr (i, a.0, refl, a.1, a.2)
err-cases tree Step a = inl a
err-cases tree Records a = inl a

abbrev Answer : Type 0
Answer = Result SavedRows SavedPlace

ok-is : (form : Answer) (s t : SavedRows) → form ≡ Ok s → form ≡ Ok t → s ≡ t
ok-is form s t a b = cc

not-both : (form : Answer) (s : SavedRows) (p : SavedPlace) → form ≡ Ok s → form ≡ Err p → ⊥
not-both form s p a b = cc

-- rows that all fit have no first one that doesn't
no-unfit : (form : Answer) (s t : SavedRows) (i : ℕ) → form ≡ Ok s → AllFit s.rows → form ≡ Ok t → IsFirstUnfit t.rows i → ⊥
no-unfit form s t i a fit b bad =
    let same = ok-is form s t a b in
    bad.unfit (subst (λ (u : SavedRows). AllFit u.rows) same fit i bad.here)

ok-err : (tree : Option Data) (s : SavedRows) (p : SavedPlace) → IsSavedAnswer tree (Ok s) → IsSavedAnswer tree (Err p) → ⊥
ok-err tree s p a b =
    elim (err-cases tree p b) [
      | inl form ↦ not-both (saved_form_of tree) s p a.0 form
      | inr bad ↦ no-unfit (saved_form_of tree) s bad.1 bad.0 a.0 a.1 bad.3 bad.4
    ]

first-one : (rows : List Row) (i j : ℕ) → IsFirstUnfit rows i → IsFirstUnfit rows j → i ≡ j
first-one rows i j a b =
    elim (cases_lt i j) [
      | inl lt ↦ absurd (a.unfit (b.earlier i lt))
      | inr le ↦ elim (cases_lt j i) [
        | inl gt ↦ absurd (b.unfit (a.earlier j gt))
        | inr ge ↦ omega (arith, le, ge)
      ]
    ]

same-row : (form : Answer) (s t : SavedRows) (i j : ℕ) → form ≡ Ok s → form ≡ Ok t → IsFirstUnfit s.rows i → IsFirstUnfit t.rows j → i ≡ j
same-row form s t i j a b x y = first-one t.rows i j (subst (λ (u : SavedRows). IsFirstUnfit u.rows i) (ok-is form s t a b) x) y

err-err : (tree : Option Data) (p q : SavedPlace) → IsSavedAnswer tree (Err p) → IsSavedAnswer tree (Err q) → p ≡ q
err-err tree p q a b =
    elim (err-cases tree p a) [
      | inl form ↦ elim (err-cases tree q b) [
        | inl other ↦ cc
        | inr bad ↦ absurd (not-both (saved_form_of tree) bad.1 p bad.3 form)
      ]
      | inr bad ↦ elim (err-cases tree q b) [
        | inl form ↦ absurd (not-both (saved_form_of tree) bad.1 q bad.3 form)
        | inr other ↦ bad.2 ∙ ap Rows (same-row (saved_form_of tree) bad.1 other.1 bad.0 other.0 bad.3 other.3 bad.4 other.4) ∙ sym other.2
      ]
    ]

-- a text has one answer
pub one-answer : (tree : Option Data) (a b : Answer) → IsSavedAnswer tree a → IsSavedAnswer tree b → a ≡ b
one-answer tree (Ok s) (Ok t) a b = ap Ok (ok-is (saved_form_of tree) s t a.0 b.0)
one-answer tree (Ok s) (Err q) a b = absurd (ok-err tree s q a b)
one-answer tree (Err p) (Ok t) a b = absurd (ok-err tree t p b a)
one-answer tree (Err p) (Err q) a b = ap Err (err-err tree p q a b)
