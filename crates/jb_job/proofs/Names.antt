-- Names of classes, as code holds them and as definitions see them.
use Rattle.std.proofs.Common.{◌≡◌, ◌+◌, List, [], ◌∷◌, ◌++◌, length, map, Bool, true, false, not, cond, String, Global, string_bytes, refl, arith}
use Rattle.std.specs.List.{prefix_len, list_any}
use Rattle.std.specs.Prelude.{position, bytes_eq}
use Rattle.indexmap.specs.IndexSet.{insert_key}
use Rattle.std.proofs.lemmas.List.{length-map, length-append, map-append}
use Rattle.std.proofs.Common.{◌≤◌}
use Rattle.jb_job.specs.JobRecord.{with_name}

prefix_len-map : {X Y : Type 0} (p : Y → Bool) (f : X → Y) (xs : List X) → prefix_len p (map f xs) ≡ prefix_len (λ x. p (f x)) xs
prefix_len-map p f [] = refl
prefix_len-map p f (x ∷ xs) = rw (prefix_len-map p f xs) refl

-- the place of a name is that among the texts
pub position-map : {X Y : Type 0} (p : Y → Bool) (f : X → Y) (xs : List X) → position p (map f xs) ≡ position (λ x. p (f x)) xs
position-map p f xs = rw (prefix_len-map (λ y. not (p y)) f xs, length-map xs f) refl

list_any-map : {X Y : Type 0} (p : Y → Bool) (f : X → Y) (xs : List X) → list_any p (map f xs) ≡ list_any (λ x. p (f x)) xs
list_any-map p f [] = refl
list_any-map p f (x ∷ xs) = rw (list_any-map p f xs) refl

abbrev same_text : String Global → String Global → Bool
same_text a b = bytes_eq (string_bytes a) (string_bytes b)

added : (b : Bool) (ks : List (String Global)) (k : String Global) → map string_bytes (cond b ks (ks ++ k ∷ [])) ≡ cond b (map string_bytes ks) (map string_bytes ks ++ string_bytes k ∷ [])
added true ks k = refl
added false ks k = map-append string_bytes ks (k ∷ [])

-- a text that is inserted is a name that is added
pub map-insert_key : (ks : List (String Global)) (k : String Global) → map string_bytes (insert_key same_text ks k) ≡ with_name (map string_bytes ks) (string_bytes k)
map-insert_key ks k = rw (list_any-map (bytes_eq (string_bytes k)) string_bytes ks) (added (list_any (same_text k) ks) ks k)

longer : (b : Bool) (ks : List (String Global)) (k : String Global) → length (cond b ks (ks ++ k ∷ [])) ≤ length ks + 1
longer true ks k = omega arith
longer false ks k = omega (arith, length-append ks (k ∷ []))

pub length-insert_key : (ks : List (String Global)) (k : String Global) → length (insert_key same_text ks k) ≤ length ks + 1
length-insert_key ks k = longer (list_any (same_text k) ks) ks k
