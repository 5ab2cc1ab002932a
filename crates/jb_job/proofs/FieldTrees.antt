-- Trees of fields that are read as the values that they were made of.
use Rattle.std.proofs.Common.{◌≡◌, ℕ, suc, ◌≤◌, true, List, [], ◌∷◌, ◌++◌, length, map, Some, None, Result, Ok, All, refl, sym, ap, subst, ◌∙◌, arith, append_assoc, append-nil}
use Rattle.std.specs.Prelude.{◌&&◌, nat_le}
use Rattle.std.specs.List.{AllByRecursion}
use Rattle.std.proofs.lemmas.Bool.{le-leb}
use Rattle.std.proofs.lemmas.Bool.Decides.{nat_tests}
use Rattle.std.proofs.lemmas.List.{map-append}
use Rattle.std.proofs.lemmas.List.Elements.{recursion_from_All}
use Rattle.serde_json.specs.Data.{Data, string}
use Rattle.serde_json.specs.Events.{items_len}
use Rattle.serde_json.specs.Find.{get}
use Rattle.serde_json.specs.View.{items_of}
use Rattle.jb_job.specs.declared.field.Field.{Field}
use Rattle.jb_job.specs.JobTree.{number_tree, list_tree}
use Rattle.jb_job.specs.Names.{name_of}
use Rattle.jb_job.specs.Reading.{Read, ◌>>=◌, list_at, text_at, number_at, required, optional, each_after, each_at}

-- ---- one reading after another

pub then-ok : {E A B : Type 0} (r : Result A E) (x : A) (f : A → Result B E) (y : B) → r ≡ Ok x → f x ≡ Ok y → (r >>= f) ≡ Ok y
then-ok r x f y is goes_on = ap (λ (read : Result _ _). read >>= f) is ∙ goes_on

pub within : (low n high : ℕ) → low ≤ n → n ≤ high → (nat_le low n && nat_le n high) ≡ true
within low n high least most = grind (arith, nat_tests)

pub text-back : (low high : ℕ) (f : Field) (s : List ℕ) → low ≤ length s → length s ≤ high → text_at low high f (string s) ≡ Ok s
unfolding text_at
text-back low high f s least most = rw (within low (length s) high least most) refl

pub number-back : (low high : ℕ) (f : Field) (n : ℕ) → low ≤ n → n ≤ high → number_at low high f (number_tree n) ≡ Ok n
unfolding number_at
number-back low high f n least most = rw (within low n high least most) refl

items-long : (ds : List Data) → items_len (items_of ds) ≡ length ds
items-long [] = refl
items-long (d ∷ ds) = ap suc (items-long ds)

pub list-back : (low high : ℕ) (f : Field) (ds : List Data) → low ≤ length ds → length ds ≤ high → list_at low high f (list_tree ds) ≡ Ok (items_of ds)
unfolding list_at
list-back low high f ds least most = rw (items-long ds, le-leb (length ds) high most, le-leb low (length ds) least) refl

pub required-back : {A : Type 0} (kind : Field → Data → Read A) (f : Field) (d g : Data) (x : A) → get (name_of f) d ≡ Some g → kind f g ≡ Ok x → required kind f d ≡ Ok x
unfolding required
required-back kind f d g x is reads = rw is reads

pub optional-back : {A : Type 0} (kind : Field → Data → Read A) (absent : A) (f : Field) (d g : Data) (x : A) → get (name_of f) d ≡ Some g → kind f g ≡ Ok x → optional kind absent f d ≡ Ok x
unfolding optional
optional-back kind absent f d g x is reads = rw is reads

pub optional-none : {A : Type 0} (kind : Field → Data → Read A) (absent : A) (f : Field) (d : Data) → get (name_of f) d ≡ None → optional kind absent f d ≡ Ok absent
unfolding optional
optional-none kind absent f d is = rw is refl

-- ---- lists

-- each member is read, after those before it, as the value that it stands for
abbrev pub Reads : {A B : Type 0} → (List A → Data → Read A) → (B → Data) → (B → A) → List B → Type 0
Reads {A} {B} kind tree value all = (done : List B) (x : B) (rest : List B) → done ++ x ∷ rest ≡ all → kind (map value done) (tree x) ≡ Ok (value x)

each-on : {A B : Type 0} (kind : List A → Data → Read A) (tree : B → Data) (value : B → A) (all : List B) → Reads kind tree value all → (done rest : List B) → done ++ rest ≡ all → each_after kind (map value done) (items_of (map tree rest)) ≡ Ok (map value all)
each-on kind tree value all reads done [] is = ap (λ (xs : List _). Ok (map value xs)) (sym (append-nil done) ∙ is)
each-on kind tree value all reads done (x ∷ rest) is =
    then-ok (kind (map value done) (tree x)) (value x) _ (map value all) (reads done x rest is)
    (subst (λ (xs : List _). each_after kind xs (items_of (map tree rest)) ≡ Ok (map value all)) (map-append value done (x ∷ [])) (each-on kind tree value all reads (done ++ x ∷ []) rest (append_assoc done (x ∷ []) rest ∙ is)))

pub each-back : {A B : Type 0} (kind : List A → Data → Read A) (tree : B → Data) (value : B → A) (all : List B) → Reads kind tree value all → each_at kind (items_of (map tree all)) ≡ Ok (map value all)
each-back kind tree value all reads = each-on kind tree value all reads [] all refl

pub middle : {A : Type 0} (P : A → Type 0) (done : List A) (x : A) (rest : List A) → AllByRecursion P (done ++ x ∷ rest) → P x
middle P [] x rest each = each.0
middle P (y ∷ done) x rest each = middle P done x rest each.1

-- what each member of a list has
pub member-has : {A : Type 0} (P : A → Type 0) (all done : List A) (x : A) (rest : List A) → All P all → done ++ x ∷ rest ≡ all → P x
member-has P all done x rest each is = middle P done x rest (recursion_from_All P (done ++ x ∷ rest) (subst (λ (xs : List _). All P xs) (sym is) each))
