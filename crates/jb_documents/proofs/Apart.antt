-- An object apart: its last member of a name, and the object without it.
use Rattle.std.proofs.Common.{◌≡◌, ℕ, suc, ◌≤◌, ◌<◌, Bool, true, false, cond, List, [], ◌∷◌, ◌++◌, length, get_or, take, drop, Option, Some, None, option_map, IfSome, MatchOption, Vec, Global, Bor, refl, sym, ap, subst, ◌∙◌, bytes_eq, arith}
use Rattle.std.specs.List.{remove}
use Rattle.std.proofs.lemmas.Bool.{and_parts}
use Rattle.std.proofs.lemmas.List.{take-append-drop}
use Rattle.std.proofs.lemmas.Slice.Eq.{bytes_eq-Decides}
use Rattle.std.proofs.Math.Seq.{drop-cons}
use Rattle.json.specs.Json as json
use Rattle.json.specs.Find as find
use Rattle.json.specs.Find.{later_or}
use Rattle.json.specs.Tree.{depth, members_depth, HasNumbers, MembersHaveNumbers}
use Rattle.json.specs.Value.{value_view, members_view}
use Rattle.json.specs.declared.value.Value.{Value, Object}
use Rattle.json.proofs.Trees.{view-Object}
use Rattle.serde_json.specs.Data.{Data, Members, no_members, put}
use Rattle.serde_json.specs.Find.{get, get_member}
use Rattle.serde_json.specs.Read.{max_depth}
use Rattle.serde_json.proofs.Views.{get_member-put, get_member-put_other}
use Rattle.jb_documents.specs.inside.Borrowed.{data_of, members_data, in_range, members_in_range, seen, members_joined, IsApart, IsReadable}

-- ---- the last member of a name is the one that is found

abbrev chosen : Option json.Json → Option Data → Option Data
chosen None earlier = earlier
chosen (Some j) earlier = Some (data_of j)

chosen_later : (later : Option json.Json) (same : Bool) (j : json.Json) (old new : Option Data)
    → (same ≡ true → new ≡ Some (data_of j)) → (same ≡ false → new ≡ old) → chosen later new ≡ chosen (later_or later (cond same (Some j) None)) old
chosen_later (Some x) same j old new here there = refl
chosen_later None true j old new here there = here refl
chosen_later None false j old new here there = there refl

found_last : (name : List ℕ) (ms : json.Members) (found : Members) → get_member name (members_data ms found) ≡ chosen (find.get_member name ms) (get_member name found)
found_last name json.no_members found = refl
found_last name (json.member k j ms) found =
    found_last name ms (put k (data_of j) found)
    ∙ chosen_later (find.get_member name ms) (bytes_eq k name) j (get_member name found) (get_member name (put k (data_of j) found))
    (λ same. let is : k ≡ name = (bytes_eq-Decides k name).0 same in subst (λ n. get_member n (put k (data_of j) found) ≡ Some (data_of j)) is (get_member-put k (data_of j) found))
    (λ other. get_member-put_other name k (data_of j) found (λ is. absurd (cc (sym other ∙ (bytes_eq-Decides k name).1 (sym is)))))

pub none_found : (name : List ℕ) (ms : json.Members) → find.get_member name ms ≡ None → get_member name (members_data ms no_members) ≡ None
none_found name ms none = found_last name ms no_members ∙ ap (λ o. chosen o None) none

-- ---- a member that is put between others

other_test : (k name : List ℕ) (b : Bool) → bytes_eq k name ≡ b → (name ≡ k → ⊥) → b ≡ false
other_test k name true e other = absurd (other (sym ((bytes_eq-Decides k name).0 e)))
other_test k name false e other = refl

skipped : (later : Option json.Json) (j : json.Json) (b : Bool) → b ≡ false → later_or later (cond b (Some j) None) ≡ later
skipped None j b e = rw e refl
skipped (Some x) j b e = refl

others_stay : (front back : json.Members) (name k : List ℕ) (part : json.Json) → (name ≡ k → ⊥)
    → find.get_member name (members_joined front (json.member k part back)) ≡ find.get_member name (members_joined front back)
others_stay json.no_members back name k part other = skipped (find.get_member name back) part (bytes_eq k name) (other_test k name _ refl other)
others_stay (json.member l j ms) back name k part other = ap (λ later. later_or later (cond (bytes_eq l name) (Some j) None)) (others_stay ms back name k part other)

found_between : (front back : json.Members) (name : List ℕ) (part : json.Json) → find.get_member name back ≡ None
    → find.get_member name (members_joined front (json.member name part back)) ≡ Some part
found_between json.no_members back name part none = rw (none, (bytes_eq-Decides name name).1 refl) refl
found_between (json.member l j ms) back name part none = ap (λ later. later_or later (cond (bytes_eq l name) (Some j) None)) (found_between ms back name part none)

pub part_found : (name : List ℕ) (whole part rest : json.Json) → IsApart name whole part rest → get name (data_of whole) ≡ Some (data_of part)
part_found name whole part rest a =
    ap (λ j. get name (data_of j)) a.whole_is ∙ found_last name (members_joined a.front (json.member name part a.back)) no_members
    ∙ ap (λ o. chosen o None) (found_between a.front a.back name part a.last)

pub others_found : (name : List ℕ) (whole part rest : json.Json) → IsApart name whole part rest → (other : List ℕ) → (other ≡ name → ⊥) → get other (data_of rest) ≡ get other (data_of whole)
others_found name whole part rest a other differs =
    ap (λ j. get other (data_of j)) a.rest_is ∙ found_last other (members_joined a.front a.back) no_members
    ∙ ap (λ o. chosen o None) (sym (others_stay a.front a.back other name part differs))
    ∙ sym (ap (λ j. get other (data_of j)) a.whole_is ∙ found_last other (members_joined a.front (json.member name part a.back)) no_members)

-- ---- the parts can be printed and read again, where the whole can

numbers_apart : (front back : json.Members) (name : List ℕ) (part : json.Json) → MembersHaveNumbers (members_joined front (json.member name part back)) → HasNumbers part × MembersHaveNumbers (members_joined front back)
numbers_apart json.no_members back name part h = (h.0, h.1)
numbers_apart (json.member k j ms) back name part h = let more = numbers_apart ms back name part h.1 in (more.0, (h.0, more.1))

depth_apart : (front back : json.Members) (name : List ℕ) (part : json.Json) (d : ℕ) → members_depth (members_joined front (json.member name part back)) ≤ d → (depth part ≤ d) × (members_depth (members_joined front back) ≤ d)
depth_apart json.no_members back name part d h = (omega (arith, h), omega (arith, h))
depth_apart (json.member k j ms) back name part d h =
    let more = depth_apart ms back name part d (omega (arith, h)) in
    (more.0, omega (arith, h, more.1))

ranges_apart : (front back : json.Members) (name : List ℕ) (part : json.Json) → members_in_range (members_joined front (json.member name part back)) ≡ true → (in_range part ≡ true) × (members_in_range (members_joined front back) ≡ true)
ranges_apart json.no_members back name part h = let both = and_parts (in_range part) (members_in_range back) h in (both.0, both.1)
ranges_apart (json.member k j ms) back name part h =
    let both = and_parts (in_range j) (members_in_range (members_joined ms (json.member name part back))) h in
    let more = ranges_apart ms back name part both.1 in
    (more.0, rw (both.0, more.1) refl)

pub readable_apart : (name : List ℕ) (whole part rest : json.Json) → IsApart name whole part rest → IsReadable whole → IsReadable part × IsReadable rest
readable_apart name whole part rest a r =
    let numbers = numbers_apart a.front a.back name part (subst HasNumbers a.whole_is r.numbers) in
    let deep : suc (members_depth (members_joined a.front (json.member name part a.back))) ≤ max_depth = subst (λ j. depth j ≤ max_depth) a.whole_is r.nests in
    let depths = depth_apart a.front a.back name part 126 (omega (arith, deep)) in
    let ranges = ranges_apart a.front a.back name part (subst (λ j. in_range j ≡ true) a.whole_is r.ranges) in (
      record { numbers = numbers.0; nests = omega (arith, depths.0); ranges = ranges.0 },
      subst IsReadable (sym a.rest_is) (record { numbers = numbers.1; nests = omega (arith, depths.1); ranges = ranges.1 }),
    )

-- ---- a member that is removed

abbrev Member : Type 0 → Type 0
Member A = Bor (List ℕ) × Value A

joined_view : {A : Type 0} (xs ys : List (Member A)) → members_view (xs ++ ys) ≡ members_joined (members_view xs) (members_view ys)
joined_view [] ys = refl
joined_view (x ∷ xs) ys = ap (json.member x.0.now (value_view x.1)) (joined_view xs ys)

split_at : {A : Type 0} (xs : List (Member A)) (i : ℕ) (x : Member A) → i < length xs → x ≡ get_or xs i x → take i xs ++ (x ∷ drop (suc i) xs) ≡ xs
split_at xs i x within is = ap (λ y. take i xs ++ (y ∷ drop (suc i) xs)) is ∙ ap (λ ys. take i xs ++ ys) (sym (drop-cons xs i x within)) ∙ take-append-drop i xs

pub apart_at : {A : Type 0} (name : List ℕ) (xs : List (Member A)) (i : ℕ) (x : Member A)
    → i < length xs → x ≡ get_or xs i x → x.0.now ≡ name → find.get_member name (members_view (drop (suc i) xs)) ≡ None
    → IsApart name (json.object (members_view xs)) (value_view x.1) (json.object (members_view (remove xs i)))
apart_at name xs i x within is called last =
    let front = members_view (take i xs) in
    let back = members_view (drop (suc i) xs) in
    let all : members_view xs ≡ members_joined front (json.member name (value_view x.1) back) =
    ap members_view (sym (split_at xs i x within is)) ∙ joined_view (take i xs) (x ∷ drop (suc i) xs) ∙ ap (λ k. members_joined front (json.member k (value_view x.1) back)) called in
    record { front = front; back = back; whole_is = ap json.object all; rest_is = ap json.object (joined_view (take i xs) (drop (suc i) xs)); last = last }

-- ---- a field that is taken out

-- the last member of a name is taken out of these members, where one is there
abbrev pub Takes : (name : List ℕ) → List (Member Global) → Option (Value Global) → List (Member Global) → Type 0
Takes name old taken new = MatchOption taken ((find.get_member name (members_view old) ≡ None) × (new ≡ old))
    (λ part. IsApart name (json.object (members_view old)) (value_view part) (json.object (members_view new)))

abbrev object_of : List (Member Global) → json.Json
object_of members = json.object (members_view members)

part_of : (name : List ℕ) (old new : List (Member Global)) (taken : Option (Value Global)) → Takes name old taken new → option_map seen taken ≡ get name (data_of (object_of old))
part_of name old new None t = sym (none_found name (members_view old) t.0)
part_of name old new (Some part) t = sym (part_found name (object_of old) (value_view part) (object_of new) t)

others_of : (name : List ℕ) (old new : List (Member Global)) (taken : Option (Value Global)) → Takes name old taken new → (other : List ℕ) → (other ≡ name → ⊥) → get other (data_of (object_of new)) ≡ get other (data_of (object_of old))
others_of name old new None t other differs = ap (λ ms. get other (data_of (object_of ms))) t.1
others_of name old new (Some part) t other differs = others_found name (object_of old) (value_view part) (object_of new) t other differs

readable_part_of : (name : List ℕ) (old new : List (Member Global)) (taken : Option (Value Global)) → Takes name old taken new → IsReadable (object_of old) → IfSome taken (λ part. IsReadable (value_view part))
readable_part_of name old new None t r = tt
readable_part_of name old new (Some part) t r = (readable_apart name (object_of old) (value_view part) (object_of new) t r).0

readable_rest_of : (name : List ℕ) (old new : List (Member Global)) (taken : Option (Value Global)) → Takes name old taken new → IsReadable (object_of old) → IsReadable (object_of new)
readable_rest_of name old new None t r = subst (λ ms. IsReadable (object_of ms)) (sym t.1) r
readable_rest_of name old new (Some part) t r = (readable_apart name (object_of old) (value_view part) (object_of new) t r).1

-- what taking a field by this name does to the tree of the members
pub record TakesField (name : List ℕ) (tree : Value Global) (taken : Option (Value Global)) (rest : Value Global) : Type 0 where
  pub part : option_map seen taken ≡ get name (seen tree)
  pub others : (other : List ℕ) → (other ≡ name → ⊥) → get other (seen rest) ≡ get other (seen tree)
  pub readable : IsReadable (value_view tree) → IfSome taken (λ part. IsReadable (value_view part))
  pub readable_rest : IsReadable (value_view tree) → IsReadable (value_view rest)

pub takes_field : (name : List ℕ) (tree : Value Global) (old new : Vec (Member Global) Global) (taken : Option (Value Global)) → tree ≡ Object old → Takes name old.items taken new.items
    → TakesField name tree taken (Object new)
takes_field name tree old new taken is t =
    let whole : value_view tree ≡ object_of old.items = ap value_view is ∙ view-Object old in
    let rest : value_view (Object new) ≡ object_of new.items = view-Object new in
    record {
      part = part_of name old.items new.items taken t ∙ ap (λ j. get name (data_of j)) (sym whole);
      others = λ other differs. ap (λ j. get other (data_of j)) rest ∙ others_of name old.items new.items taken t other differs ∙ ap (λ j. get other (data_of j)) (sym whole);
      readable = λ r. readable_part_of name old.items new.items taken t (subst IsReadable whole r);
      readable_rest = λ r. subst IsReadable (sym rest) (readable_rest_of name old.items new.items taken t (subst IsReadable whole r));
    }
