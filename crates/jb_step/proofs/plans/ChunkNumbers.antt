-- Which chunks of a partition stand behind the first sets of a lawful list: all but as many as these sets have the partition.
use Rattle.std.proofs.Common.{◌≡◌, ℕ, suc, zero, ◌+◌, ◌≤◌, ◌<◌, Bool, true, false, List, [], ◌∷◌, ◌++◌, length, refl, ap, sym, ◌∙◌, subst, arith, inl, inr, eqb-true}
use Rattle.std.specs.Prelude.{nat_eq, slice_index, slice_index_or, Contains}
use Rattle.std.proofs.lemmas.Bool.{cases_lt}
use Rattle.std.proofs.lemmas.List.Folds.{Any-from_list_any, list_any_at}
use Rattle.jb_cert.specs.Lawful.{Pair, IsLawful, StandsIn}
use Rattle.jb_step.specs.rounds.Rounds.{has_partition}
use Rattle.jb_step.proofs.table.Numbers.{itself}

abbrev pub one_if : Bool → ℕ
one_if true = 1
one_if false = 0

-- how many of the rounds have the partition
abbrev pub runs_of : ℕ → List (List Pair) → ℕ
runs_of p [] = 0
runs_of p (set ∷ later) = one_if (has_partition set p) + runs_of p later

-- a set that has a partition has a chunk of it, and the other way round
pub chunk-in : (set : List Pair) (p : ℕ) → has_partition set p ≡ true → (j : ℕ) × Contains set (p, j)
chunk-in set p has =
    let there = Any-from_list_any (λ (pair : Pair). nat_eq pair.0 p) set has in
    let f : ℕ → Pair = λ q. (q, there.1.1) in
    let same : there.1 ≡ (p, there.1.1) = ap f (eqb-true there.1.0 p there.4) in
    (there.1.1, (there.0, there.2, subst (λ (x : Pair). slice_index_or set there.0 x ≡ x) same there.3))

chunk-has : (set : List Pair) (p j : ℕ) → Contains set (p, j) → has_partition set p ≡ true
chunk-has set p j chunk =
    let f : Pair → Bool = λ pair. nat_eq pair.0 p in
    list_any_at f set chunk.0 (p, j) chunk.1 (ap f chunk.2 ∙ itself p)

-- THE CHUNKS THAT STAND IN SOME SETS

-- those of the partition from number k to n - 1, in their order
pub record HasFrom (p k n : ℕ) (sets : List (List Pair)) : Type 0 where
  pub known : (r j : ℕ) → StandsIn sets r (p, j) → (k ≤ j) × (j < n)
  pub somewhere : (j : ℕ) → k ≤ j → j < n → (r : ℕ) × StandsIn sets r (p, j)
  pub once : (r s j : ℕ) → StandsIn sets r (p, j) → StandsIn sets s (p, j) → r ≡ s
  pub in_order : (r s j : ℕ) → StandsIn sets r (p, j) → StandsIn sets s (p, j + 1) → r < s

module _ (p k n : ℕ) (set : List Pair) (sets : List (List Pair)) (from : HasFrom p k n (set ∷ sets)) where
  -- the first set has no other than the first of them
  pub first-is : (j : ℕ) → Contains set (p, j) → j ≡ k
  first-is zero chunk = let low = (from.known 0 0 (omega arith, chunk)).0 in omega (arith, low)
  first-is (suc j) chunk =
      let at : StandsIn (set ∷ sets) 0 (p, suc j) = (omega arith, chunk) in
      let known = from.known 0 (suc j) at in
      let low = known.0 in
      let few = known.1 in
      elim (cases_lt j k) [
        | inl below ↦ omega (arith, low, below)
        | inr above ↦ (
            let there = from.somewhere j above (omega (arith, few)) in
            let e : suc j ≡ j + 1 = omega arith in
            let early = from.in_order there.0 0 j there.1 (subst (λ m. StandsIn (set ∷ sets) 0 (p, m)) e at) in
            absurd (omega (arith, early))
            )
      ]

  later : (r : ℕ) (x : Pair) → StandsIn sets r x → StandsIn (set ∷ sets) (suc r) x
  later r x at = (let lt = at.0 in omega (arith, lt), at.1)

  none-before : (b : Bool) → has_partition set p ≡ b → (r j : ℕ) → StandsIn sets r (p, j) → one_if b + k ≤ j
  none-before false has r j at = let low = (from.known (suc r) j (later r (p, j) at)).0 in omega (arith, low)
  none-before true has r j at =
      let chunk = chunk-in set p has in
      let is = first-is chunk.0 chunk.1 in
      let low = (from.known (suc r) j (later r (p, j) at)).0 in
      elim (cases_lt k j) [
        | inl above ↦ omega (arith, above)
        | inr not_above ↦ (
            let e : chunk.0 ≡ j = omega (arith, low, is, not_above) in
            let same = from.once 0 (suc r) j (subst (λ m. StandsIn (set ∷ sets) 0 (p, m)) e (omega arith, chunk.1)) (later r (p, j) at) in
            absurd (omega (arith, same))
            )
      ]

  not-first : (b : Bool) → has_partition set p ≡ b → (r j : ℕ) → one_if b + k ≤ j → StandsIn (set ∷ sets) r (p, j) → (q : ℕ) × StandsIn sets q (p, j)
  not-first b has (suc r) j low at = (r, (let lt = at.0 in omega (arith, lt), at.1))
  not-first true has zero j low at = let is = first-is j at.1 in absurd (omega (arith, is, low))
  not-first false has zero j low at = let both : true ≡ false = sym (chunk-has set p j at.1) ∙ has in absurd (cc both)

  -- behind it stand those from the next on, if it has one
  behind-one : HasFrom p (one_if (has_partition set p) + k) n sets
  behind-one = record {
    known = λ r j at. (none-before (has_partition set p) refl r j at, (from.known (suc r) j (later r (p, j) at)).1);
    somewhere = λ j low few.
        let there = from.somewhere j (let b = low in omega (arith, b)) few in
        not-first (has_partition set p) refl there.0 j low there.1;
    once = λ r s j a b. let same = from.once (suc r) (suc s) j (later r (p, j) a) (later s (p, j) b) in omega (arith, same);
    in_order = λ r s j a b. let before = from.in_order (suc r) (suc s) j (later r (p, j) a) (later s (p, j + 1) b) in omega (arith, before);
  }

behind : (p k m n : ℕ) (rounds left : List (List Pair)) → runs_of p rounds + k ≡ m → HasFrom p k n (rounds ++ left) → HasFrom p m n left
behind p k m n [] left e from = let same : k ≡ m = omega (arith, e) in subst (λ i. HasFrom p i n left) same from
behind p k m n (set ∷ later) left e from =
    behind p (one_if (has_partition set p) + k) m n later left (omega (arith, e)) (behind-one p k n set (later ++ left) from)

-- behind the first rounds of a lawful list: those from as many on as these rounds have the partition
pub has-left : (counts : List ℕ) (threads : ℕ) (rounds left : List (List Pair)) → IsLawful counts threads (rounds ++ left) → (p : ℕ) → p < length counts → HasFrom p (runs_of p rounds) (slice_index counts p) left
has-left counts threads rounds left lawful p lt =
    behind p 0 (runs_of p rounds) (slice_index counts p) rounds left (omega arith) (record {
      known = λ r j at. (omega arith, (lawful.known r p j at).1);
      somewhere = λ j low few. lawful.somewhere p j lt few;
      once = λ r s j. lawful.once r s p j;
      in_order = λ r s j. lawful.in_order r s p j;
    })
