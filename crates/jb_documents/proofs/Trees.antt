-- Trees that borrow their text, as code sees them, beside the data that they are.
use Rattle.std.proofs.Common.{◌≡◌, ℕ, ◌&&◌, suc, List, [], ◌∷◌, length, Bool, true, false, Option, Some, None, option_and_then, Vec, Bor, Ordering, Less, Equal, Greater, nat_cmp, is_eq, refl, sym, ap, ◌∙◌}
use Rattle.std.proofs.Math.Bool.{and_assoc, and-true}
use Rattle.std.proofs.lemmas.Map.Text.{is_eq-slice_cmp}
use Rattle.std.proofs.lemmas.Slice.Eq.{bytes_eq-Decides}
use Rattle.std.specs.Cmp.Lexicographic.{slice_cmp}
use Rattle.std.specs.List.{list_all}
use Rattle.std.specs.Ordering.{match_ordering}
use Rattle.json.specs.Json as json
use Rattle.json.specs.Find as find
use Rattle.json.specs.Value.{members_view}
use Rattle.json.specs.declared.value.Value.{Value, Array, Object}
use Rattle.json.proofs.Trees.{view-Array, view-Object}
use Rattle.serde_json.specs.Data.{Data, Num, array, object, Members, no_members, member, put}
use Rattle.serde_json.specs.Events.{items_len}
use Rattle.serde_json.specs.Find.{as_number, as_str, as_u64}
use Rattle.serde_json.specs.Read.{number_of}
use Rattle.jb_job.specs.Reading.{member_names, triple_of, whole_number}
use Rattle.jb_documents.specs.inside.Borrowed.{number_data, data_of, members_data, seen, items_seen, keys}

-- ---- kinds

pub seen-Array : {A : Type 0} (v : Vec (Value A) A) → seen (Array v) ≡ array (items_seen v.items)
seen-Array v = ap data_of (view-Array v)

pub seen-Object : {A : Type 0} (v : Vec (Bor (List ℕ) × Value A) A) → seen (Object v) ≡ object (members_data (members_view v.items) no_members)
seen-Object v = ap data_of (view-Object v)

no_text : (o : Option Num) → as_str (number_data o) ≡ None
no_text None = refl
no_text (Some n) = refl

pub as_str-data_of : (j : json.Json) → as_str (data_of j) ≡ find.as_str j
as_str-data_of json.null = refl
as_str-data_of (json.boolean b) = refl
as_str-data_of (json.number s) = no_text (number_of s)
as_str-data_of (json.string s) = refl
as_str-data_of (json.array js) = refl
as_str-data_of (json.object ms) = refl

-- the whole number of a number's text
abbrev pub whole_of : List ℕ → Option ℕ
whole_of s = option_and_then as_u64 (number_of s)

that_number : (o : Option Num) → option_and_then as_u64 (as_number (number_data o)) ≡ option_and_then as_u64 o
that_number None = refl
that_number (Some n) = refl

pub whole_number-data_of : (j : json.Json) → whole_number (data_of j) ≡ option_and_then whole_of (find.as_number j)
whole_number-data_of json.null = refl
whole_number-data_of (json.boolean b) = refl
whole_number-data_of (json.number s) = that_number (number_of s)
whole_number-data_of (json.string s) = refl
whole_number-data_of (json.array js) = refl
whole_number-data_of (json.object ms) = refl

-- ---- lists

pub items_len-all_seen : {A : Type 0} (vs : List (Value A)) → items_len (items_seen vs) ≡ length vs
items_len-all_seen [] = refl
items_len-all_seen (v ∷ vs) = ap suc (items_len-all_seen vs)

pub triple_of-not_three : {A : Type 0} (vs : List (Value A)) → (length vs ≡ 3 → ⊥) → triple_of (items_seen vs) ≡ None
triple_of-not_three [] h = refl
triple_of-not_three (a ∷ []) h = refl
triple_of-not_three (a ∷ b ∷ []) h = refl
triple_of-not_three (a ∷ b ∷ c ∷ []) h = absurd (h refl)
triple_of-not_three (a ∷ b ∷ c ∷ v ∷ vs) h = refl

-- ---- the keys of an object are those of its members

and_in : (a b c : Bool) → a && (b && c) ≡ b && (a && c)
and_in true b c = refl
and_in false true c = refl
and_in false false c = refl

and_twice : (a b c : Bool) → a ≡ b → a && (b && c) ≡ b && c
and_twice true true c e = refl
and_twice true false c e = absurd (cc)
and_twice false true c e = absurd (cc)
and_twice false false c e = refl

names_put_at : (p : List ℕ → Bool) (o : Ordering) (k l : List ℕ) (d e : Data) (ms : Members) → slice_cmp nat_cmp k l ≡ o → list_all p (member_names (put k d ms)) ≡ p k && list_all p (member_names ms)
    → list_all p (member_names (match_ordering o (member k d (member l e ms)) (member l d ms) (member l e (put k d ms)))) ≡ p k && (p l && list_all p (member_names ms))
names_put_at p Less k l d e ms is later = refl
names_put_at p Equal k l d e ms is later =
    let same : k ≡ l = (bytes_eq-Decides k l).0 (sym (is_eq-slice_cmp k l) ∙ ap is_eq is) in
    sym (and_twice (p k) (p l) (list_all p (member_names ms)) (ap p same))
names_put_at p Greater k l d e ms is later = ap (λ b. p l && b) later ∙ and_in (p l) (p k) (list_all p (member_names ms))

names_put : (p : List ℕ → Bool) (k : List ℕ) (d : Data) (ms : Members) → list_all p (member_names (put k d ms)) ≡ p k && list_all p (member_names ms)
names_put p k d no_members = refl
names_put p k d (member l e ms) = names_put_at p (slice_cmp nat_cmp k l) k l d e ms refl (names_put p k d ms)

names_found : (p : List ℕ → Bool) (ms : json.Members) (found : Members) → list_all p (member_names (members_data ms found)) ≡ list_all p (keys ms) && list_all p (member_names found)
names_found p json.no_members found = refl
names_found p (json.member k j ms) found =
    names_found p ms (put k (data_of j) found)
    ∙ ap (λ b. list_all p (keys ms) && b) (names_put p k (data_of j) found)
    ∙ and_in (list_all p (keys ms)) (p k) (list_all p (member_names found))
    ∙ sym (and_assoc (p k) (list_all p (keys ms)) (list_all p (member_names found)))

pub all_names : (p : List ℕ → Bool) (ms : json.Members) → list_all p (member_names (members_data ms no_members)) ≡ list_all p (keys ms)
all_names p ms = names_found p ms no_members ∙ and-true (list_all p (keys ms))

pub ruleset tree_steps = (seen-Array, seen-Object, as_str-data_of, whole_number-data_of, items_len-all_seen, triple_of-not_three, all_names)
