-- What a field of each kind keeps, and a list what each of its members does.
use Rattle.std.proofs.Common.{◌≡◌, ℕ, ◌+◌, ◌≤◌, Bool, true, false, List, [], ◌∷◌, ◌++◌, length, Option, Some, None, Ok, Err, IfOk, All, refl, arith, length-append}
use Rattle.std.specs.Prelude.{◌&&◌, nat_le, if◌then◌else◌}
use Rattle.std.proofs.lemmas.Bool.Decides.{nat_tests}
use Rattle.std.proofs.lemmas.List.Elements.{All-append, All-cons, All-nil}
use Rattle.std.proofs.lemmas.Result.{IfOk-weaker}
use Rattle.serde_json.specs.Data.{Data, Items, no_items, item}
use Rattle.serde_json.specs.Events.{items_len}
use Rattle.serde_json.specs.Find.{get, as_str, as_array}
use Rattle.jb_base.specs.Causes.{◌>>=◌}
use Rattle.jb_base.proofs.Causes.{followed, next}
use Rattle.jb_job.specs.declared.field.Field.{Field}
use Rattle.jb_job.specs.Names.{name_of}
use Rattle.jb_job.specs.Reading.{Read, Fault, shaped, whole_number, list_at, text_at, number_at, required, optional, or_else, each_after, each_at}
use Rattle.jb_job.proofs.Kept.{in-range, each-keeps}

-- ---- kinds of fields

between : (low n high : ℕ) → (nat_le low n && nat_le n high) ≡ true → (low ≤ n) × (n ≤ high)
between low n high inside = grind (arith, nat_tests)

pub text-between : (low high : ℕ) (f : Field) (d : Data) → IfOk (text_at low high f d) (λ s. (low ≤ length s) × (length s ≤ high))
unfolding text_at
text-between low high f d = next _ (shaped f (as_str d)) _ (λ s. in-range _ f _ s (λ inside. between low (length s) high inside))

pub number-between : (low high : ℕ) (f : Field) (d : Data) → IfOk (number_at low high f d) (λ n. (low ≤ n) × (n ≤ high))
unfolding number_at
number-between low high f d = next _ (shaped f (whole_number d)) _ (λ n. in-range _ f _ n (λ inside. between low n high inside))

pub if-so : {A : Type 0} (P : A → Type 0) (so : Bool) (fault : Fault) (r : Read A) → (so ≡ true → IfOk r P) → IfOk (if so then r else Err fault) P
if-so P true fault r known = known refl
if-so P false fault r known = tt

pub if-read : {A : Type 0} (P : A → Type 0) (r : Read A) → ((x : A) → r ≡ Ok x → P x) → IfOk r P
if-read P (Ok x) known = known x refl
if-read P (Err e) known = tt

both-ends : (low n high : ℕ) → nat_le n high ≡ true → nat_le low n ≡ true → (low ≤ n) × (n ≤ high)
both-ends low n high most least = grind (arith, nat_tests)

pub list-between : (low high : ℕ) (f : Field) (d : Data) → IfOk (list_at low high f d) (λ items. (low ≤ items_len items) × (items_len items ≤ high))
unfolding list_at
list-between low high f d = next _ (shaped f (as_array d)) _ (λ items. if-so _ (nat_le (items_len items) high) _ _ (λ few. in-range _ f _ items (λ some. both-ends low (items_len items) high few some)))

-- a field that has to be there
pub required-has : {A : Type 0} (P : A → Type 0) (kind : Field → Data → Read A) (f : Field) (d : Data) → ((g : Data) → IfOk (kind f g) P) → IfOk (required kind f d) P
unfolding required
required-has P kind f d has = next P (shaped f (get (name_of f) d)) (kind f) has

or-has : {A : Type 0} (P : A → Type 0) (kind : Data → Read A) (absent : A) (found : Option Data) → P absent → ((g : Data) → IfOk (kind g) P) → IfOk (or_else kind absent found) P
or-has P kind absent None known has = known
or-has P kind absent (Some d) known has = has d

-- a field that may be absent
pub optional-has : {A : Type 0} (P : A → Type 0) (kind : Field → Data → Read A) (absent : A) (f : Field) (d : Data) → P absent → ((g : Data) → IfOk (kind f g) P) → IfOk (optional kind absent f d) P
unfolding optional
optional-has P kind absent f d known has = or-has P (kind f) absent (get (name_of f) d) known has

-- ---- lists

-- as many as there are members
long-after : {A : Type 0} (kind : List A → Data → Read A) (done : List A) (items : Items) → IfOk (each_after kind done items) (λ xs. length xs ≡ length done + items_len items)
long-after kind done no_items = omega arith
long-after kind done (item d ds) = next _ (kind done d) _ (λ one. IfOk-weaker (each_after kind (done ++ one ∷ []) ds) _ _ (λ xs long. omega (arith, length-append done (one ∷ []), long)) (long-after kind (done ++ one ∷ []) ds))

pub each-long : {A : Type 0} (kind : List A → Data → Read A) (items : Items) → IfOk (each_at kind items) (λ xs. length xs ≡ items_len items)
each-long kind items = IfOk-weaker (each_at kind items) _ _ (λ xs long. omega (arith, long)) (long-after kind [] items)

-- what each member has, all have
pub each-has : {A : Type 0} (P : A → Type 0) (kind : List A → Data → Read A) → ((done : List A) (d : Data) → IfOk (kind done d) P) → (items : Items) → IfOk (each_at kind items) (All P)
each-has P kind has items = each-keeps (All P) kind (λ done d all. IfOk-weaker (kind done d) P _ (λ x is. All-append P done (x ∷ []) all (All-cons P x [] is (All-nil P))) (has done d)) [] items (All-nil P)

pub both : {A : Type 0} (P Q : A → Type 0) (r : Read A) → IfOk r P → IfOk r Q → IfOk r (λ x. P x × Q x)
both P Q (Ok x) p q = (p, q)
both P Q (Err e) p q = tt

-- a list of a field: as many as it may have, and each has what the members have
pub members-have : {A : Type 0} (P : A → Type 0) (kind : List A → Data → Read A) (low high : ℕ) (f : Field) (d : Data) → ((done : List A) (g : Data) → IfOk (kind done g) P) → IfOk (list_at low high f d >>= each_at kind) (λ xs. ((low ≤ length xs) × (length xs ≤ high)) × All P xs)
members-have P kind low high f d has = followed _ _ (list_at low high f d) (each_at kind) (list-between low high f d) (λ items within.
    both _ _ (each_at kind items)
    (IfOk-weaker (each_at kind items) _ _ (λ xs long. (omega (arith, long, within.0), omega (arith, long, within.1))) (each-long kind items))
    (each-has P kind has items))
