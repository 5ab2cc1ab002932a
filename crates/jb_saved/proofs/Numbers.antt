-- A row as it is read, number by number.
use Rattle.std.proofs.Common.{◌≡◌, ◌≢◌, ℕ, zero, suc, ◌+◌, ◌-◌, ◌<◌, List, [], ◌∷◌, ◌++◌, map, take, length, replicate, set, get_or, Option, Some, None, refl, sym, ap, ◌∙◌, arith, append_assoc}
use Rattle.std.specs.Prelude.{option_map, slice_set}
use Rattle.std.proofs.lemmas.List.{map-append, take_more, length-append, length-map}
use Rattle.serde_json.specs.Data.{Data, Items}
use Rattle.serde_json.specs.Find as find
use Rattle.serde_json.specs.View.{view, items_of, items_view}
use Rattle.serde_json.specs.declared.value.Value.{Value}
use Rattle.jb_job.specs.Reading.{whole_number}
use Rattle.jb_rules.specs.declared.row.Row.{Row}
use Rattle.jb_rules.specs.declared.row.RowState.{RowState}
use Rattle.jb_rules.specs.Numbers.{row_of_numbers}
use Rattle.jb_saved.specs.SavedForm.{◌>>=◌, row_parts, row_of_tree}
use Rattle.jb_saved.specs.SavedTree.{listed}
use Rattle.jb_saved.specs.inside.Forms.{padded, whole_numbers, state_in, row_from}

-- ---- numbers of a list

abbrev before : Option ℕ → Option (List ℕ) → Option (List ℕ)
before one rest = one >>= λ n. rest >>= λ ns. Some (n ∷ ns)

before-both : (one : Option ℕ) (rest : Option (List ℕ)) (ns : List ℕ) → before one rest ≡ Some ns → (n : ℕ) × (ms : List ℕ) × (one ≡ Some n) × (rest ≡ Some ms) × (ns ≡ n ∷ ms)
before-both None rest ns is = absurd cc
before-both (Some n) None ns is = absurd cc
before-both (Some n) (Some ms) ns is = (n, ms, refl, refl, cc)

before-none : (one : Option ℕ) (rest : Option (List ℕ)) → rest ≡ None → before one rest ≡ None
before-none None rest none = refl
before-none (Some n) rest none = ap (before (Some n)) none

-- one number more
one-more : (ds : List Data) (d : Data) (ns : List ℕ) (n : ℕ) → whole_numbers ds ≡ Some ns → whole_number d ≡ Some n → whole_numbers (ds ++ d ∷ []) ≡ Some (ns ++ n ∷ [])
one-more [] d ns n read is = let none : ns ≡ [] = cc in ap (λ (o : Option ℕ). before o (Some [])) is ∙ ap (λ (xs : List ℕ). Some (xs ++ n ∷ [])) (sym none)
one-more (e ∷ ds) d ns n read is =
    let parts = before-both (whole_number e) (whole_numbers ds) ns read in
    let rest = one-more ds d parts.1 n parts.3 is in
    ap (λ (o : Option ℕ). before o (whole_numbers (ds ++ d ∷ []))) parts.2 ∙ ap (before (Some parts.0)) rest
    ∙ ap (λ (xs : List ℕ). Some (xs ++ n ∷ [])) (sym parts.4)

-- ---- read by a loop

pub more-read : (vs : List Value) (i : ℕ) (v : Value) (ns : List ℕ) (n : ℕ) → i < length vs → v ≡ get_or vs i v → whole_numbers (map view (take i vs)) ≡ Some ns
    → whole_number (view v) ≡ Some n → whole_numbers (map view (take (i + 1) vs)) ≡ Some (ns ++ n ∷ [])
more-read vs i v ns n within here read is =
    ap (λ (xs : List Value). whole_numbers (map view xs)) (take_more vs i v within ∙ ap (λ (x : Value). take i vs ++ x ∷ []) (sym here))
    ∙ ap whole_numbers (map-append view (take i vs) (v ∷ []))
    ∙ one-more (map view (take i vs)) (view v) ns n read is

-- none is read where one isn't a number
pub none-read : (vs : List Value) (i : ℕ) (v : Value) → i < length vs → v ≡ get_or vs i v → whole_number (view v) ≡ None → whole_numbers (map view vs) ≡ None
none-read [] i v within here none = absurd (omega (arith, within))
none-read (x ∷ vs) zero v within here none = ap (λ (o : Option ℕ). before o (whole_numbers (map view vs))) (ap (λ (y : Value). whole_number (view y)) (sym here) ∙ none)
none-read (x ∷ vs) (suc i) v within here none = before-none (whole_number (view x)) (whole_numbers (map view vs)) (none-read vs i v (omega (arith, within)) here none)

put : (ns : List ℕ) (k n : ℕ) → set (ns ++ replicate (suc k) 0) (length ns) n ≡ ns ++ n ∷ replicate k 0
put [] k n = refl
put (m ∷ ns) k n = ap (λ (xs : List ℕ). m ∷ xs) (put ns k n)

pub more-filled : (ns numbers : List ℕ) (i n : ℕ) → length ns ≡ i → i < 15 → numbers ≡ padded ns → slice_set numbers i n ≡ padded (ns ++ n ∷ [])
more-filled ns numbers i n len within filled =
    let room : 15 - length ns ≡ suc (14 - length ns) = omega (arith, len, within) in
    let more = length-append ns (n ∷ []) in
    let rest : 15 - length (ns ++ n ∷ []) ≡ 14 - length ns = omega (arith, more) in
    ap (λ (xs : List ℕ). set xs i n) (filled ∙ ap (λ (k : ℕ). ns ++ replicate k 0) room)
    ∙ ap (λ (k : ℕ). set (ns ++ replicate (suc (14 - length ns)) 0) k n) (sym len)
    ∙ put ns (14 - length ns) n
    ∙ sym (append_assoc ns (n ∷ []) (replicate (14 - length ns) 0))
    ∙ ap (λ (k : ℕ). (ns ++ n ∷ []) ++ replicate k 0) (sym rest)

pub one-longer : (ns : List ℕ) (i n : ℕ) → length ns ≡ i → length (ns ++ n ∷ []) ≡ i + 1
one-longer ns i n len = let more = length-append ns (n ∷ []) in omega (arith, more, len)

-- ---- a row: its numbers, and a state behind them

abbrev with_state : Option (List ℕ) → Option RowState → Option (List ℕ × RowState)
with_state numbers state = numbers >>= λ ns. state >>= λ s. Some (ns, s)

abbrev with_number : Option ℕ → Option (List ℕ × RowState) → Option (List ℕ × RowState)
with_number one rest = one >>= λ n. rest >>= λ more. Some (n ∷ more.0, more.1)

join : (one : Option ℕ) (rest : Option (List ℕ)) (state : Option RowState) → with_number one (with_state rest state) ≡ with_state (before one rest) state
join None rest state = refl
join (Some n) None state = refl
join (Some n) (Some ns) None = refl
join (Some n) (Some ns) (Some s) = refl

last-state : (state : Option RowState) → (state >>= λ s. Some ([], s)) ≡ with_state (Some []) state
last-state None = refl
last-state (Some s) = refl

pub parts-of : (n : ℕ) (ds : List Data) (d : Data) → length ds ≡ n → row_parts n (items_of (ds ++ d ∷ [])) ≡ with_state (whole_numbers ds) (state_in d)
parts-of zero [] d len = last-state (state_in d)
parts-of zero (e ∷ ds) d len = absurd (omega (arith, len))
parts-of (suc n) [] d len = absurd (omega (arith, len))
parts-of (suc n) (e ∷ ds) d len =
    ap (with_number (whole_number e)) (parts-of n ds d (omega (arith, len))) ∙ join (whole_number e) (whole_numbers ds) (state_in d)

no-parts : (one : Option ℕ) (rest : Option (List ℕ × RowState)) → rest ≡ None → with_number one rest ≡ None
no-parts None rest none = refl
no-parts (Some n) rest none = ap (with_number (Some n)) none

none-left : (n : ℕ) → row_parts n (items_of []) ≡ None
none-left zero = refl
none-left (suc n) = refl

-- a row of another length has none
pub other-length : (n : ℕ) (ds : List Data) (d : Data) → length ds ≢ n → row_parts n (items_of (ds ++ d ∷ [])) ≡ None
other-length zero [] d other = absurd (other refl)
other-length zero (e ∷ []) d other = refl
other-length zero (e ∷ f ∷ ds) d other = refl
other-length (suc n) [] d other = no-parts (whole_number d) (row_parts n (items_of [])) (none-left n)
other-length (suc n) (e ∷ ds) d other = no-parts (whole_number e) (row_parts n (items_of (ds ++ d ∷ []))) (other-length n ds d (λ len. other (ap suc len)))

-- ---- a row of numbers that were padded

zeros : (m k : ℕ) → ◌≡◌ {A = ℕ} (get_or (replicate m 0) k 0) 0
zeros zero k = refl
zeros (suc m) zero = refl
zeros (suc m) (suc k) = zeros m k

pad-at : (ns : List ℕ) (m k : ℕ) → ◌≡◌ {A = ℕ} (get_or (ns ++ replicate m 0) k 0) (get_or ns k 0)
pad-at [] m k = zeros m k
pad-at (n ∷ ns) m zero = refl
pad-at (n ∷ ns) m (suc k) = pad-at ns m k

padded-row : (ns : List ℕ) (s : RowState) → row_of_numbers (padded ns) s ≡ row_of_numbers ns s
padded-row ns s = simp (pad-at ns (15 - length ns))

abbrev row-by : Option (List ℕ) → Option RowState → Option Row
row-by numbers state = numbers >>= λ ns. state >>= λ s. Some (row_of_numbers ns s)

pub no-numbers : (numbers : Option (List ℕ)) (state : Option RowState) → option_map padded numbers ≡ None → row-by numbers state ≡ None
no-numbers None state none = refl
no-numbers (Some ns) state none = absurd cc

pub no-state : (numbers : Option (List ℕ)) (state : Option RowState) → state ≡ None → row-by numbers state ≡ None
no-state None state none = refl
no-state (Some ns) state none = ap (row-by (Some ns)) none

pub row-made : (numbers : Option (List ℕ)) (state : Option RowState) (ms : List ℕ) (s : RowState) → option_map padded numbers ≡ Some ms → state ≡ Some s
    → row-by numbers state ≡ Some (row_of_numbers ms s)
row-made None state ms s is there = absurd cc
row-made (Some ns) state ms s is there =
    let same : padded ns ≡ ms = cc in
    ap (row-by (Some ns)) there ∙ ap Some (sym (padded-row ns s)) ∙ ap (λ (xs : List ℕ). Some (row_of_numbers xs s)) same

-- ---- a row of a list

both : (numbers : Option (List ℕ)) (state : Option RowState) → (with_state numbers state >>= λ parts. Some (row_of_numbers parts.0 parts.1)) ≡ row-by numbers state
both None state = refl
both (Some ns) None = refl
both (Some ns) (Some s) = refl

abbrev row-in : ℕ → Option Items → Option Row
row-in n items = items >>= λ ds. row_parts (listed n) ds >>= λ parts. Some (row_of_numbers parts.0 parts.1)

in-items : (n : ℕ) (d : Data) (vs members : List Value) (name : Value) → find.as_array d ≡ Some (items_view vs) → vs ≡ members ++ name ∷ []
    → row_of_tree n d ≡ (row_parts (listed n) (items_of (map view members ++ view name ∷ [])) >>= λ parts. Some (row_of_numbers parts.0 parts.1))
unfolding row_of_tree
in-items n d vs members name is whole =
    ap (row-in n) (is ∙ ap (λ (xs : List Value). Some (items_view xs)) whole ∙ ap (λ (ds : List Data). Some (items_of ds)) (map-append view members (name ∷ [])))

pub row-of-list : (n : ℕ) (d : Data) (vs members : List Value) (name : Value) → find.as_array d ≡ Some (items_view vs) → vs ≡ members ++ name ∷ []
    → length members ≡ listed n → row_of_tree n d ≡ row_from (map view members) (view name)
row-of-list n d vs members name is whole len =
    in-items n d vs members name is whole
    ∙ ap (λ (o : Option (List ℕ × RowState)). o >>= λ parts. Some (row_of_numbers parts.0 parts.1)) (parts-of (listed n) (map view members) (view name) (length-map members view ∙ len))
    ∙ both (whole_numbers (map view members)) (state_in (view name))

pub row-of-another : (n : ℕ) (d : Data) (vs members : List Value) (name : Value) → find.as_array d ≡ Some (items_view vs) → vs ≡ members ++ name ∷ []
    → length members ≢ listed n → row_of_tree n d ≡ None
row-of-another n d vs members name is whole other =
    in-items n d vs members name is whole
    ∙ ap (λ (o : Option (List ℕ × RowState)). o >>= λ parts. Some (row_of_numbers parts.0 parts.1)) (other-length (listed n) (map view members) (view name) (λ len. other (sym (length-map members view) ∙ len)))
