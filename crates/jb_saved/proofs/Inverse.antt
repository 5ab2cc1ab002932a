-- What a tree holds from which saved rows were read.
use Rattle.std.proofs.Common.{◌≡◌, ℕ, zero, suc, ◌≤◌, Bool, true, false, cond, List, [], ◌∷◌, ◌++◌, map, take, Option, Some, None, Ok, Err, Result, refl, sym, ap, ap₂, ◌∙◌, subst, arith, append_assoc, append-nil}
use Rattle.std.proofs.Math.ListN.{get_or-eq_default}
use Rattle.std.specs.Prelude.{◌==◌, ◌&&◌, nat_le, bytes_eq, codes, length, slice_index, option_and_then}
use Rattle.std.proofs.lemmas.Slice.Eq.{bytes_eq-Decides}
use Rattle.serde_json.specs.Data.{Data, null, boolean, number, string, array, object, unsigned, negative, float, Items, no_items, item}
use Rattle.serde_json.specs.Events.{items_len}
use Rattle.serde_json.specs.Find as find
use Rattle.serde_json.specs.View.{items_of}
use Rattle.jb_base.specs.Limits.{max_name, max_partitions}
use Rattle.jb_job.specs.Reading.{whole_number, member_names}
use Rattle.jb_rules.specs.Laws.{RowsAreTested, NumbersMakeRows}
use Rattle.jb_rules.specs.declared.row.Row.{Row}
use Rattle.jb_rules.specs.declared.row.RowState.{RowState}
use Rattle.jb_rules.specs.declared.row.RowState.TheVariants.{Waiting, Finished, Failed}
use Rattle.jb_rules.specs.Numbers.{numbers_of, row_of_numbers, state_name, state_named}
use Rattle.std.specs.List.{list_all, list_any}
use Rattle.jb_saved.specs.declared.place.SavedPlace.{SavedPlace}
use Rattle.jb_saved.specs.declared.place.SavedPlace.TheVariants.{Version}
use Rattle.jb_saved.specs.Answers.{IsSavedAnswer}
use Rattle.jb_saved.specs.Reading.{saved_at}
use Rattle.jb_saved.specs.Laws.{IsSavedTree}
use Rattle.jb_saved.proofs.Unfit.{answer-computed}
use Rattle.jb_saved.specs.SavedRows.{SavedRows}
use Rattle.jb_saved.specs.SavedTree.{number_tree, is_known, listed, CanHold, row_tree_in, rows_tree_in}
use Rattle.jb_saved.specs.SavedForm.{◌>>=◌, row_parts, row_of_tree, rows_from_trees, rows_of_tree, saved_keys, keyed, step_of, saved_of_tree, version_of, saved_shaped, form_by, saved_form_at}

whole-is : (d : Data) (n : ℕ) → whole_number d ≡ Some n → d ≡ number_tree n
whole-is null n e = cc
whole-is (boolean b) n e = cc
whole-is (number (unsigned m)) n e = cc
whole-is (number (negative z)) n e = cc
whole-is (number (float x)) n e = cc
whole-is (string s) n e = cc
whole-is (array ds) n e = cc
whole-is (object ms) n e = cc

text-is : (d : Data) (s : List ℕ) → find.as_str d ≡ Some s → d ≡ string s
text-is null s e = cc
text-is (boolean b) s e = cc
text-is (number n) s e = cc
text-is (string t) s e = cc
text-is (array ds) s e = cc
text-is (object ms) s e = cc

same-bytes : (xs ys : List ℕ) (b : Bool) → bytes_eq xs ys ≡ b → b ≡ true → xs ≡ ys
same-bytes xs ys b e holds = (bytes_eq-Decides xs ys).0 (e ∙ holds)

some-is : (s t : RowState) → Some s ≡ Some t → s ≡ t
some-is s t e = cc

state-by : (a b c : Bool) (name : List ℕ) (s : RowState) → bytes_eq name (codes "waiting") ≡ a → bytes_eq name (codes "done") ≡ b → bytes_eq name (codes "failed") ≡ c
    → cond a (Some Waiting) (cond b (Some Finished) (cond c (Some Failed) None)) ≡ Some s → name ≡ state_name s
state-by true b c name s x y z e = same-bytes name (codes "waiting") true x refl ∙ ap state_name (some-is Waiting s e)
state-by false true c name s x y z e = same-bytes name (codes "done") true y refl ∙ ap state_name (some-is Finished s e)
state-by false false true name s x y z e = same-bytes name (codes "failed") true z refl ∙ ap state_name (some-is Failed s e)
state-by false false false name s x y z e = cc

state-text : (d : Data) (s : RowState) (o : Option (List ℕ)) → find.as_str d ≡ o → option_and_then state_named o ≡ Some s → d ≡ string (state_name s)
state-text d s None t e = cc
state-text d s (Some name) t e = text-is d name t ∙ ap string (state-by (bytes_eq name (codes "waiting")) (bytes_eq name (codes "done")) (bytes_eq name (codes "failed")) name s refl refl refl e)

-- ---- a row, part by part

no-more : (ns : List ℕ) → length ns ≡ 14 → slice_index ns 14 ≡ 0
no-more ns e = get_or-eq_default ns 0 (omega (arith, e))

abbrev Parts : Type 0
Parts = List ℕ × RowState

abbrev last-of : Option RowState → Option Parts
last-of o = o >>= λ stands. Some ([], stands)

abbrev next-of : Option ℕ → Option Parts → Option Parts
next-of one rest = one >>= λ n. rest >>= λ more. Some (n ∷ more.0, more.1)

last-is : (o : Option RowState) (ns : List ℕ) (s : RowState) → last-of o ≡ Some (ns, s) → (o ≡ Some s) × (ns ≡ [])
last-is None ns s is = absurd cc
last-is (Some t) ns s is = let same : ◌≡◌ {A = Parts} ([], t) (ns, s) = cc in (ap (λ (x : Parts). Some x.1) same, sym (ap (λ (x : Parts). x.0) same))

next-is : (one : Option ℕ) (rest : Option Parts) (ns : List ℕ) (s : RowState) → next-of one rest ≡ Some (ns, s)
    → (n : ℕ) × (ms : List ℕ) × (one ≡ Some n) × (rest ≡ Some (ms, s)) × (ns ≡ n ∷ ms)
next-is None rest ns s is = absurd cc
next-is (Some n) None ns s is = absurd cc
next-is (Some n) (Some more) ns s is =
    let same : ◌≡◌ {A = Parts} (n ∷ more.0, more.1) (ns, s) = cc in
    (n, more.0, refl, ap (λ (t : RowState). Some (more.0, t)) (ap (λ (x : Parts). x.1) same), sym (ap (λ (x : Parts). x.0) same))

abbrev part-items : List ℕ → RowState → Items
part-items ns s = items_of (map number_tree ns ++ string (state_name s) ∷ [])

-- the parts were read of their own items alone
parts-items : (n : ℕ) (ds : Items) (ns : List ℕ) (s : RowState) → row_parts n ds ≡ Some (ns, s) → (length ns ≡ n) × (ds ≡ part-items ns s)
parts-items zero no_items ns s is = absurd cc
parts-items zero (item d no_items) ns s is =
    let last = last-is (option_and_then state_named (find.as_str d)) ns s is in
    let text = state-text d s (find.as_str d) refl last.0 in
    (ap length last.1, ap (λ (x : Data). item x no_items) text ∙ ap (λ (ms : List ℕ). part-items ms s) (sym last.1))
parts-items zero (item d (item e es)) ns s is = absurd cc
parts-items (suc n) no_items ns s is = absurd cc
parts-items (suc n) (item d ds) ns s is =
    let next = next-is (whole_number d) (row_parts n ds) ns s is in
    let rest = parts-items n ds next.1 s next.3 in (
      ap length next.4 ∙ ap suc rest.0,
      ap₂ item (whole-is d next.0 next.2) rest.1 ∙ ap (λ (ms : List ℕ). part-items ms s) (sym next.4),
    )

row-is : (parts : Option Parts) (r : Row) → (parts >>= λ p. Some (row_of_numbers p.0 p.1)) ≡ Some r
    → (ns : List ℕ) × (s : RowState) × (parts ≡ Some (ns, s)) × (row_of_numbers ns s ≡ r)
row-is None r is = absurd cc
row-is (Some p) r is = (p.0, p.1, refl, cc)

listed-few : (b : Bool) → cond b 14 15 ≤ 15
listed-few true = omega arith
listed-few false = omega arith

row-array : NumbersMakeRows → (n : ℕ) (ds : Items) (r : Row) → (row_parts (listed n) ds >>= λ p. Some (row_of_numbers p.0 p.1)) ≡ Some r → (array ds ≡ row_tree_in n r) × (n ≡ 1 → r.in_place ≡ 0)
row-array make n ds r is =
    let row = row-is (row_parts (listed n) ds) r is in
    let ns = row.0 in
    let s = row.1 in
    let parts = parts-items (listed n) ds ns s row.2 in
    let few : length ns ≤ 15 = subst (λ (k : ℕ). k ≤ 15) (sym parts.0) (listed-few (n == 1)) in
    let front : take (listed n) (numbers_of (row_of_numbers ns s)) ≡ ns = subst (λ (k : ℕ). take k (numbers_of (row_of_numbers ns s)) ≡ ns) parts.0 (make.numbers ns s few) in (
      ap array (parts.1 ∙ ap (λ (ms : List ℕ). part-items ms s) (sym front)) ∙ ap (row_tree_in n) row.3,
      λ one. sym (ap (λ (x : Row). x.in_place) row.3) ∙ no-more ns (parts.0 ∙ ap listed one),
    )

-- a row was read of its own tree alone, and of a version that can hold it
pub row-tree : NumbersMakeRows → (n : ℕ) (d : Data) (r : Row) → row_of_tree n d ≡ Some r → (d ≡ row_tree_in n r) × (n ≡ 1 → r.in_place ≡ 0)
unfolding row_of_tree
row-tree make n null r is = absurd cc
row-tree make n (boolean b) r is = absurd cc
row-tree make n (number m) r is = absurd cc
row-tree make n (string s) r is = absurd cc
row-tree make n (array ds) r is = row-array make n ds r is
row-tree make n (object ms) r is = absurd cc

rows-by : NumbersMakeRows → (n : ℕ) (o : Option Row) (d : Data) (ds : Items) (done rows : List Row) → row_of_tree n d ≡ o → (o >>= λ row. rows_from_trees n (done ++ row ∷ []) ds) ≡ Some rows
    → (row : Row) × (d ≡ row_tree_in n row) × (n ≡ 1 → row.in_place ≡ 0) × (rows_from_trees n (done ++ row ∷ []) ds ≡ Some rows)
rows-by make n None d ds done rows e is = absurd cc
rows-by make n (Some row) d ds done rows e is = let tree = row-tree make n d row e in (row, tree.0, tree.1, is)

rows-is : (a b : List Row) → Some a ≡ Some b → a ≡ b
rows-is a b e = cc

one-more : (n : ℕ) (row : Row) (rest : List Row) → (n ≡ 1 → row.in_place ≡ 0) → CanHold n rest → CanHold n (row ∷ rest)
one-more n row rest first others one zero r is = let same : row ≡ r = cc in subst (λ (x : Row). x.in_place ≡ 0) same (first one)
one-more n row rest first others one (suc i) r is = others one i r is

no-row : (n : ℕ) → CanHold n []
no-row n one i r is = absurd cc

-- and so were rows
pub rows-trees : NumbersMakeRows → (n : ℕ) (ds : Items) (done rows : List Row) → rows_from_trees n done ds ≡ Some rows
    → (rest : List Row) × (rows ≡ done ++ rest) × (ds ≡ items_of (map (row_tree_in n) rest)) × CanHold n rest
rows-trees make n no_items done rows is = ([], sym (rows-is done rows is) ∙ sym (append-nil done), refl, no-row n)
rows-trees make n (item d ds) done rows is =
    let one = rows-by make n (row_of_tree n d) d ds done rows refl is in
    let more = rows-trees make n ds (done ++ one.0 ∷ []) rows one.3 in
    (one.0 ∷ more.0, more.1 ∙ append_assoc done (one.0 ∷ []) more.0, ap₂ item one.1 more.2, one-more n one.0 more.0 one.2 more.3)

-- ---- the object

abbrev pair : List ℕ → List Row → SavedRows
pair step rows = record { step = step; rows = rows }

-- an array of rows' trees, of a version that can hold them
abbrev AreTrees : ℕ → Data → List Row → Type 0
AreTrees n d rows = (d ≡ rows_tree_in n rows) × CanHold n rows

rows-when : NumbersMakeRows → (n : ℕ) (b : Bool) (ds : Items) (rows : List Row) → cond b (rows_from_trees n [] ds) None ≡ Some rows → AreTrees n (array ds) rows
rows-when make n true ds rows is =
    let trees = rows-trees make n ds [] rows is in
    subst (λ (rs : List Row). AreTrees n (array ds) rs) (sym trees.1) (ap array trees.2, trees.3)
rows-when make n false ds rows is = absurd cc

rows-tree-is : NumbersMakeRows → (n : ℕ) (d : Data) (rows : List Row) → rows_of_tree n d ≡ Some rows → AreTrees n d rows
unfolding rows_of_tree
rows-tree-is make n null rows is = absurd cc
rows-tree-is make n (boolean b) rows is = absurd cc
rows-tree-is make n (number m) rows is = absurd cc
rows-tree-is make n (string s) rows is = absurd cc
rows-tree-is make n (array ds) rows is = rows-when make n (nat_le 1 (items_len ds) && nat_le (items_len ds) max_partitions) ds rows is
rows-tree-is make n (object ms) rows is = absurd cc

id-when : (b : Bool) (s id : List ℕ) → cond b (Some s) None ≡ Some id → s ≡ id
id-when true s id is = cc
id-when false s id is = absurd cc

step-is : (d : Data) (id : List ℕ) → step_of d ≡ Some id → d ≡ string id
unfolding step_of
step-is null id is = absurd cc
step-is (boolean b) id is = absurd cc
step-is (number n) id is = absurd cc
step-is (string s) id is = ap string (id-when (nat_le 1 (length s) && nat_le (length s) max_name) s id is)
step-is (array ds) id is = absurd cc
step-is (object ms) id is = absurd cc

rows-held : NumbersMakeRows → (n : ℕ) (o : Option Data) (rows : List Row) → (o >>= rows_of_tree n) ≡ Some rows → (o ≡ Some (rows_tree_in n rows)) × CanHold n rows
rows-held make n None rows is = absurd cc
rows-held make n (Some d) rows is = let trees = rows-tree-is make n d rows is in (ap Some trees.0, trees.1)

step-held : (o : Option Data) (id : List ℕ) → (o >>= step_of) ≡ Some id → o ≡ Some (string id)
step-held None id is = absurd cc
step-held (Some d) id is = ap Some (step-is d id is)

version-held : (o : Option Data) (n : ℕ) → (o >>= whole_number) ≡ Some n → o ≡ Some (number_tree n)
version-held None n is = absurd cc
version-held (Some d) n is = ap Some (whole-is d n is)

keyed-when : (b : Bool) (d x : Data) → cond b (Some d) None ≡ Some x → d ≡ x
keyed-when true d x is = cc
keyed-when false d x is = absurd cc

keyed-self : (d x : Data) → keyed d ≡ Some x → d ≡ x
unfolding keyed
keyed-self null x is = absurd cc
keyed-self (boolean b) x is = absurd cc
keyed-self (number n) x is = absurd cc
keyed-self (string s) x is = absurd cc
keyed-self (array ds) x is = absurd cc
keyed-self (object ms) x is = keyed-when (list_all (λ name. list_any (bytes_eq name) saved_keys) (member_names ms)) (object ms) x is

saved-is : (a b : SavedRows) → Some a ≡ Some b → a ≡ b
saved-is a b e = cc

pair-of : (o : Option (List Row)) (i : Option (List ℕ)) (s : SavedRows) → (o >>= λ rows. i >>= λ step. Some (pair step rows)) ≡ Some s → (o ≡ Some s.rows) × (i ≡ Some s.step)
pair-of None i s is = absurd cc
pair-of (Some rows) None s is = absurd cc
pair-of (Some rows) (Some step) s is = let same = saved-is (pair step rows) s is in (ap (λ (x : SavedRows). Some x.rows) same, ap (λ (x : SavedRows). Some x.step) same)

-- what an object of saved rows holds
abbrev Holds : ℕ → Data → SavedRows → Type 0
Holds n d s = (keyed d ≡ Some d) × (find.get (codes "rows") d ≡ Some (rows_tree_in n s.rows)) × (find.get (codes "step") d ≡ Some (string s.step)) × CanHold n s.rows

saved-by : NumbersMakeRows → (n : ℕ) (k : Option Data) (d : Data) (s : SavedRows) → keyed d ≡ k
    → (k >>= λ object. (find.get (codes "rows") object >>= rows_of_tree n) >>= λ rows. (find.get (codes "step") object >>= step_of) >>= λ step. Some (pair step rows)) ≡ Some s
    → Holds n d s
saved-by make n None d s e is = absurd cc
saved-by make n (Some x) d s e is =
    let same = keyed-self d x e in
    let parts = pair-of (find.get (codes "rows") x >>= rows_of_tree n) (find.get (codes "step") x >>= step_of) s is in
    let rows = rows-held make n (find.get (codes "rows") x) s.rows parts.0 in (
      e ∙ ap Some (sym same),
      ap (λ (y : Data). find.get (codes "rows") y) same ∙ rows.0,
      ap (λ (y : Data). find.get (codes "step") y) same ∙ step-held (find.get (codes "step") x) s.step parts.1,
      rows.1,
    )

saved-parts : NumbersMakeRows → (n : ℕ) (d : Data) (s : SavedRows) → saved_of_tree n d ≡ Some s → Holds n d s
unfolding saved_of_tree
saved-parts make n d s is = saved-by make n (keyed d) d s refl is

shaped-is : (o : Option SavedRows) (s : SavedRows) → saved_shaped o ≡ Ok s → o ≡ Some s
shaped-is None s is = absurd cc
shaped-is (Some t) s is = cc

known-when : (b : Bool) (o : Option SavedRows) (s : SavedRows) → cond b (saved_shaped o) (Err Version) ≡ Ok s → (b ≡ true) × (o ≡ Some s)
known-when true o s is = (refl, shaped-is o s is)
known-when false o s is = absurd cc

form-parts : (v : Option ℕ) (d : Data) (s : SavedRows) → form_by v d ≡ Ok s → (n : ℕ) × (v ≡ Some n) × (is_known n ≡ true) × (saved_of_tree n d ≡ Some s)
form-parts None d s is = absurd cc
form-parts (Some n) d s is = let both = known-when (is_known n) (saved_of_tree n d) s is in (n, refl, both.0, both.1)

form-tree : NumbersMakeRows → (d : Data) (s : SavedRows) → saved_form_at d ≡ Ok s → (n : ℕ) × IsSavedTree n d s
unfolding saved_form_at
form-tree make d s is =
    let form = form-parts (version_of d) d s is in
    let n = form.0 in
    let parts = saved-parts make n d s form.3 in (
      n,
      record { known = form.2; holds = parts.3; keys = parts.0; rows = parts.1; step = parts.2; version = version-held (find.get (codes "version") d) n form.1 },
    )

pub only-saved : RowsAreTested → NumbersMakeRows → (d : Data) (s : SavedRows) → saved_at d ≡ Ok s → (n : ℕ) × IsSavedTree n d s
only-saved law make d s is = form-tree make d s (subst (λ (a : Result SavedRows SavedPlace). IsSavedAnswer (Some d) a) is (answer-computed law (Some d))).0
