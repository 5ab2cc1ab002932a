-- What a filter keeps.
use Rattle.std.proofs.Common.{◌≡◌, ℕ, ◌+◌, ◌≤◌, Bool, true, false, cond, List, [], ◌∷◌, map, refl, ap, ap₂, sym, ◌∙◌, arith}
use Rattle.std.proofs.lemmas.Bool.{and_from, and_parts}
use Rattle.std.specs.Prelude.{filter}
use Rattle.std.specs.List.{AllByRecursion, list_all}
use Rattle.jb_cert.specs.Rising.{RiseFrom}
use Rattle.jb_chunk.specs.TaskState.{TaskState}
use Rattle.jb_step.specs.inside.rounds.Round.{partitions_of}

-- what is so of all is so of those that are kept
pub filter-all : {X : Type 0} (P : X → Type 0) (keep : X → Bool) (xs : List X) → AllByRecursion P xs → AllByRecursion P (filter keep xs)
filter-all P keep [] h = tt
filter-all P keep (x ∷ xs) h =
    elim (keep x) as (λ b. AllByRecursion P (cond b (x ∷ filter keep xs) (filter keep xs))) [ true ↦ (h.0, filter-all P keep xs h.1) | false ↦ filter-all P keep xs h.1 ]

-- what is so of all images
pub all-map : {X Y : Type 0} (P : Y → Type 0) (f : X → Y) (xs : List X) → AllByRecursion (λ (x : X). P (f x)) xs → AllByRecursion P (map f xs)
all-map P f [] h = tt
all-map P f (x ∷ xs) h = (h.0, all-map P f xs h.1)

pub all-back : {X Y : Type 0} (P : Y → Type 0) (f : X → Y) (xs : List X) → AllByRecursion P (map f xs) → AllByRecursion (λ (x : X). P (f x)) xs
all-back P f [] h = tt
all-back P f (x ∷ xs) h = (h.0, all-back P f xs h.1)

-- what a test says of all
pub all-true : {X : Type 0} (test : X → Bool) (xs : List X) → list_all test xs ≡ true → AllByRecursion (λ (x : X). test x ≡ true) xs
all-true test [] e = tt
all-true test (x ∷ xs) e = let both = and_parts (test x) (list_all test xs) e in (both.0, all-true test xs both.1)

pub true-all : {X : Type 0} (test : X → Bool) (xs : List X) → AllByRecursion (λ (x : X). test x ≡ true) xs → list_all test xs ≡ true
true-all test [] h = refl
true-all test (x ∷ xs) h = and_from (test x) (list_all test xs) h.0 (true-all test xs h.1)

-- what is so of those that are kept, of each if it is kept
pub kept-so : {X : Type 0} (P : X → Type 0) (keep : X → Bool) (xs : List X) → AllByRecursion P (filter keep xs) → AllByRecursion (λ (x : X). keep x ≡ true → P x) xs
kept-so P keep [] h = tt
kept-so P keep (x ∷ xs) h = by (keep x) h (kept-so P keep xs)
  where
    by : (b : Bool) → AllByRecursion P (cond b (x ∷ filter keep xs) (filter keep xs)) → (AllByRecursion P (filter keep xs) → AllByRecursion (λ y. keep y ≡ true → P y) xs) → (b ≡ true → P x) × AllByRecursion (λ y. keep y ≡ true → P y) xs
    by true h others = (λ e. h.0, others h.1)
    by false h others = (λ e. let never : ⊥ = cc in absurd never, others h)

pub so-kept : {X : Type 0} (P : X → Type 0) (keep : X → Bool) (xs : List X) → AllByRecursion (λ (x : X). keep x ≡ true → P x) xs → AllByRecursion P (filter keep xs)
so-kept P keep [] h = tt
so-kept P keep (x ∷ xs) h = by (keep x) h.0 (so-kept P keep xs h.1)
  where
    by : (b : Bool) → (b ≡ true → P x) → AllByRecursion P (filter keep xs) → AllByRecursion P (cond b (x ∷ filter keep xs) (filter keep xs))
    by true here others = (here refl, others)
    by false here others = others

-- what follows for each from two facts
pub all-both : {X : Type 0} (P Q R : X → Type 0) → ((x : X) → P x → Q x → R x) → (xs : List X) → AllByRecursion P xs → AllByRecursion Q xs → AllByRecursion R xs
all-both P Q R law [] g h = tt
all-both P Q R law (x ∷ xs) g h = (law x g.0 h.0, all-both P Q R law xs g.1 h.1)

-- what follows for each
pub all-so : {X : Type 0} (P Q : X → Type 0) → ((x : X) → P x → Q x) → (xs : List X) → AllByRecursion P xs → AllByRecursion Q xs
all-so P Q law [] h = tt
all-so P Q law (x ∷ xs) h = (law x h.0, all-so P Q law xs h.1)

-- what leaves each element as it is leaves the list
pub map-stays : {X : Type 0} (f : X → X) (xs : List X) → AllByRecursion (λ (x : X). f x ≡ x) xs → map f xs ≡ xs
map-stays f [] all = refl
map-stays f (x ∷ xs) all = ap₂ (λ y ys. y ∷ ys) all.0 (map-stays f xs all.1)

-- those of the images that are kept, where the test of an image is one of the element
pub filter-map : {X Y : Type 0} (keep : Y → Bool) (own : X → Bool) (f : X → Y) → ((x : X) → keep (f x) ≡ own x) → (xs : List X) → filter keep (map f xs) ≡ map f (filter own xs)
filter-map keep own f same [] = refl
filter-map keep own f same (x ∷ xs) =
    ap₂ (λ (b : Bool) (ys : List _). cond b (f x ∷ ys) ys) (same x) (filter-map keep own f same xs)
    ∙ (elim (own x) as (λ b. cond b (f x ∷ map f (filter own xs)) (map f (filter own xs)) ≡ map f (cond b (x ∷ filter own xs) (filter own xs))) [ true ↦ refl | false ↦ refl ])

-- of the images, where those that aren't kept stay as they are: those of the images of the others
pub filter-again : {X : Type 0} (keep : X → Bool) (f : X → X) (xs : List X) → AllByRecursion (λ (x : X). keep x ≡ false → f x ≡ x) xs → filter keep (map f xs) ≡ filter keep (map f (filter keep xs))
filter-again keep f [] stay = refl
filter-again keep f (x ∷ xs) stay =
    elim (keep x) as (λ b. keep x ≡ b → filter keep (map f (x ∷ xs)) ≡ filter keep (map f (cond b (x ∷ filter keep xs) (filter keep xs)))) [
      | true ↦ λ e. ap (λ (ys : List _). cond (keep (f x)) (f x ∷ ys) ys) (filter-again keep f xs stay.1)
      | false ↦ λ e. ap (λ (c : Bool). cond c (f x ∷ filter keep (map f xs)) (filter keep (map f xs))) (ap keep (stay.0 e) ∙ e) ∙ filter-again keep f xs stay.1
    ] refl

-- one filter after another, in either order
pub filter-swap : {X : Type 0} (h k : X → Bool) (xs : List X) → filter h (filter k xs) ≡ filter k (filter h xs)
filter-swap h k [] = refl
filter-swap h k (x ∷ xs) = by (h x) (k x) refl refl (filter-swap h k xs)
  where
    by : (b c : Bool) → h x ≡ b → k x ≡ c → filter h (filter k xs) ≡ filter k (filter h xs) → filter h (cond c (x ∷ filter k xs) (filter k xs)) ≡ filter k (cond b (x ∷ filter h xs) (filter h xs))
    by true true e d rest = ap₂ (λ (b : Bool) (ys : List _). cond b (x ∷ ys) ys) e rest ∙ sym (ap (λ (c : Bool). cond c (x ∷ filter k (filter h xs)) (filter k (filter h xs))) d)
    by true false e d rest = rest ∙ sym (ap (λ (c : Bool). cond c (x ∷ filter k (filter h xs)) (filter k (filter h xs))) d)
    by false true e d rest = ap (λ (b : Bool). cond b (x ∷ filter h (filter k xs)) (filter h (filter k xs))) e ∙ rest
    by false false e d rest = rest

-- what rises, where from, and from how low
pub rise-lower : (j k : ℕ) (ns : List ℕ) → j ≤ k → RiseFrom k ns → RiseFrom j ns
rise-lower j k [] le h = tt
rise-lower j k (n ∷ ns) le h = (let from = h.0 in omega arith, h.1)

pub rise-filter : (keep : TaskState → Bool) (k : ℕ) (ts : List TaskState) → RiseFrom k (partitions_of ts) → RiseFrom k (partitions_of (filter keep ts))
rise-filter keep k [] h = tt
rise-filter keep k (t ∷ ts) h =
    let from = h.0 in
    let rest = rise-filter keep (t.partition + 1) ts h.1 in
    elim (keep t) as (λ b. RiseFrom k (partitions_of (cond b (t ∷ filter keep ts) (filter keep ts)))) [ true ↦ (from, rest) | false ↦ rise-lower k (t.partition + 1) (partitions_of (filter keep ts)) (omega (arith, from)) rest ]
