-- Prefix sums: the counts that lie between them, their order, and the place where each partition begins.
use Rattle.std.proofs.Common.{◌≡◌, ℕ, zero, suc, ◌+◌, ◌-◌, ◌<◌, ◌≤◌, List, [], ◌∷◌, ◌++◌, length, get_or, take, sum, slice_index, sym, ◌∙◌, refl, ap, subst, arith, add-zero, zero-add, take-take, take_all, le_refl, inl, inr, leb, true, false, leb-true, leb-false, cond, ltb, Option, Some, None, lt-ltb, le-ltb, ap₂}
use Rattle.std.specs.List.Sorted.{IsNonDecreasing, IsPartitionPoint}
use Rattle.std.proofs.lemmas.List.{get_or_default}
use Rattle.std.proofs.lemmas.Bool.{cases_lt}
use Rattle.std.proofs.lemmas.List.Sums.{sum_by-cons, sum_by-take-le}
use Rattle.jb_cert.specs.WrapAround.{first_place, partition_at_place, chunk_at_place, pair_at_place}
use Rattle.jb_cert.specs.Lawful.{Pair}
use Rattle.jb_cert.specs.Laws.{PlacesLieRound}
use Rattle.jb_cert.proofs.EndToEnd.{start_of-next}
use Rattle.jb_rounds.specs.inside.Starts.{LiesBetween, starts_from, counts_after, counts_between}

counts_after-starts_from : (first start : ℕ) (ns : List ℕ) → counts_after first (starts_from start ns) ≡ (start - first) ∷ counts_between (starts_from start ns)
counts_after-starts_from first start [] = refl
counts_after-starts_from first start (n ∷ ns) = refl

pub counts_between-starts_from : (start : ℕ) (ns : List ℕ) → counts_between (starts_from start ns) ≡ ns
counts_between-starts_from start [] = refl
counts_between-starts_from start (n ∷ ns) =
    let rest = counts_between-starts_from (start + n) ns in
    let count : (start + n) - start ≡ n = omega arith in
    counts_after-starts_from start (start + n) ns ∙ cc

pub length-starts_from : (start : ℕ) (ns : List ℕ) → length (starts_from start ns) ≡ length ns + 1
length-starts_from start [] = refl
length-starts_from start (n ∷ ns) = omega (arith, length-starts_from (start + n) ns)

pub get_or-starts_from : (start : ℕ) (ns : List ℕ) (p : ℕ) → p ≤ length ns → get_or (starts_from start ns) p 0 ≡ start + first_place ns p
get_or-starts_from start [] zero within = sym (add-zero start)
get_or-starts_from start [] (suc p) within = absurd (omega arith)
get_or-starts_from start (n ∷ ns) zero within = sym (add-zero start)
get_or-starts_from start (n ∷ ns) (suc p) within =
    omega (arith, get_or-starts_from (start + n) ns p (omega arith), sum_by-cons (λ x. x) n (take p ns))

start_of-rises : (ns : List ℕ) (i j : ℕ) → i ≤ j → first_place ns i ≤ first_place ns j
start_of-rises ns i j order =
    omega (arith, sum_by-take-le (λ x. x) (take j ns) i, ap sum (take-take i j ns order))

pub starts_from-rises : (ns : List ℕ) → IsNonDecreasing (starts_from 0 ns)
starts_from-rises ns i j d order within =
    let long = length-starts_from 0 ns in
    let at_i = get_or-starts_from 0 ns i (omega arith) in
    let at_j = get_or-starts_from 0 ns j (omega arith) in
    let default_i = get_or_default (starts_from 0 ns) i d 0 (omega arith) in
    let default_j = get_or_default (starts_from 0 ns) j d 0 within in
    omega (arith, start_of-rises ns i j order, at_i, at_j, default_i, default_j)

-- ---- the partition that a binary search finds

pub between_from_point : (starts : List ℕ) (place i : ℕ) → IsPartitionPoint (λ y. leb y place ≡ true) (λ y. leb y place ≡ false) starts i → i ≤ length starts → 0 < length starts → slice_index starts 0 ≤ place → place < slice_index starts (length starts - 1) → (0 < i) × LiesBetween starts place (i - 1)
between_from_point starts place i point bound some from until =
    let positive : 0 < i = elim (cases_lt 0 i) [
      | inl here ↦ here
      | inr none ↦ absurd (omega (arith, leb-false (slice_index starts 0) place (point.1 0 0 none some)))
    ] in
    let inside : i < length starts = elim (cases_lt i (length starts)) [
      | inl here ↦ here
      | inr past ↦ absurd (omega (arith, leb-true (slice_index starts (length starts - 1)) place (point.0 (length starts - 1) 0 (omega arith) (omega arith))))
    ] in
    let next : (i - 1) + 1 ≡ i = omega arith in (
      positive,
      record {
        known = omega arith;
        from = leb-true (slice_index starts (i - 1)) place (point.0 (i - 1) 0 (omega arith) (omega arith));
        until = subst (λ (k : ℕ). place < slice_index starts k) (sym next) (leb-false (slice_index starts i) place (point.1 i 0 (omega arith) inside));
      },
    )

-- what that says of the counts
pub record IsFound (starts : List ℕ) (place p : ℕ) : Type 0 where
  pub known : p < length (counts_between starts)
  pub from : first_place (counts_between starts) p ≤ place
  pub until : place < first_place (counts_between starts) p + slice_index (counts_between starts) p
  pub end : first_place (counts_between starts) p + slice_index (counts_between starts) p ≤ sum (counts_between starts)
  pub start_is : slice_index starts p ≡ first_place (counts_between starts) p
  pub count_is : slice_index starts (p + 1) ≡ slice_index starts p + slice_index (counts_between starts) p

found_with : (counts starts : List ℕ) (place p : ℕ) → starts ≡ starts_from 0 counts → LiesBetween starts place p → (p < length counts) × (slice_index starts p ≡ first_place counts p) × (slice_index starts (p + 1) ≡ first_place counts p + slice_index counts p)
found_with counts starts place p is between =
    let long : length starts ≡ length counts + 1 = ap length is ∙ length-starts_from 0 counts in
    let known : p < length counts = omega (arith, between.known, long) in
    let at : (q : ℕ) → q ≤ length counts → slice_index starts q ≡ first_place counts q =
    λ q within. ap (λ (xs : List ℕ). slice_index xs q) is ∙ get_or-starts_from 0 counts q within ∙ zero-add (first_place counts q) in
    (known, at p (omega arith), at (p + 1) (omega arith) ∙ start_of-next counts p known)

pub found : (starts : List ℕ) (place p : ℕ) → starts ≡ starts_from 0 (counts_between starts) → LiesBetween starts place p → IsFound starts place p
found starts place p is between =
    let all = found_with (counts_between starts) starts place p is between in
    record {
      known = all.0;
      from = omega (arith, all.1, between.from);
      until = omega (arith, all.2, between.until);
      end = omega (arith, start_of-next (counts_between starts) p all.0, sum_by-take-le (λ x. x) (counts_between starts) (p + 1));
      start_is = all.1;
      count_is = omega (arith, all.1, all.2);
    }

-- the last place is the number of chunks
pub last_start : (starts : List ℕ) → starts ≡ starts_from 0 (counts_between starts) → (0 < length starts) × (slice_index starts (length starts - 1) ≡ sum (counts_between starts)) × (slice_index starts 0 ≡ 0)
last_start starts is =
    let counts : List ℕ = counts_between starts in
    let long : length starts ≡ length counts + 1 = ap length is ∙ length-starts_from 0 counts in
    let last : length starts - 1 ≡ length counts = omega (arith, long) in
    let at : (q : ℕ) → q ≤ length counts → slice_index starts q ≡ first_place counts q =
    λ q within. ap (λ (xs : List ℕ). slice_index xs q) is ∙ get_or-starts_from 0 counts q within ∙ zero-add (first_place counts q) in
    let whole : first_place counts (length counts) ≡ sum counts = ap sum (take_all (length counts) counts (le_refl (length counts))) in
    (omega (arith, long), ap (slice_index starts) last ∙ at (length counts) (omega arith) ∙ whole, at 0 (omega arith))

-- one more count
pub starts_from-push : (start : ℕ) (ns : List ℕ) (x : ℕ) → starts_from start (ns ++ x ∷ []) ≡ starts_from start ns ++ (start + (sum ns + x)) ∷ []
starts_from-push start [] x =
    let end : start + x ≡ start + (0 + x) = omega arith in
    cc
starts_from-push start (n ∷ ns) x =
    let rest = starts_from-push (start + n) ns x in
    let end : (start + n) + (sum ns + x) ≡ start + (sum (n ∷ ns) + x) = omega (arith, sum_by-cons (λ k. k) n ns) in
    cc

-- ---- what stands at a place, by the places where partitions begin

abbrev IsPairAt : Pair → Pair → Type 0
IsPairAt u v = Some u ≡ Some v

abbrev with_partition : ℕ → ℕ → Option Pair
with_partition p chunk = Some (p, chunk)

pub pair_found : PlacesLieRound → (starts : List ℕ) (place p rounds chunk : ℕ) → starts ≡ starts_from 0 (counts_between starts) → LiesBetween starts place p → chunk ≡ chunk_at_place rounds (slice_index starts p) (slice_index starts (p + 1) - slice_index starts p) place → Some (p, chunk) ≡ cond (ltb place (sum (counts_between starts))) (Some (pair_at_place (counts_between starts) rounds place)) None
pair_found law starts place p rounds chunk is between chunk_is =
    let counts : List ℕ = counts_between starts in
    let at = found starts place p is between in
    let within : place < sum counts = omega (arith, at.until, at.end) in
    let partition : partition_at_place counts place ≡ p = law counts p place at.known at.from at.until in
    let count : slice_index starts (p + 1) - slice_index starts p ≡ slice_index counts p = omega (arith, at.count_is) in
    let chunk' : chunk ≡ chunk_at_place rounds (first_place counts p) (slice_index counts p) place =
    chunk_is ∙ ap₂ (λ (s n : ℕ). chunk_at_place rounds s n place) at.start_is count in
    rw (lt-ltb place (sum counts) within)
    (subst (λ (q : ℕ). IsPairAt (p, chunk) (q, chunk_at_place rounds (first_place counts q) (slice_index counts q) place)) (sym partition) (ap (with_partition p) chunk'))

pub none_past : (counts : List ℕ) (rounds place : ℕ) → sum counts ≤ place → None ≡ cond (ltb place (sum counts)) (Some (pair_at_place counts rounds place)) None
none_past counts rounds place past = rw (le-ltb place (sum counts) past) refl
