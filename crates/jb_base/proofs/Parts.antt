-- The strings between two places of a buffer, in a buffer of their own.
use Rattle.std.proofs.Common.{◌≡◌, ℕ, zero, suc, ◌+◌, ◌-◌, ◌≤◌, List, [], ◌∷◌, ◌++◌, length, map, take, drop, refl, ap, sym, subst, ◌∙◌, arith, length-drop}
use Rattle.std.proofs.lemmas.List.{length-take-le, take-append-drop}
use Rattle.std.specs.Prelude.{All, slice_range}
use Rattle.std.proofs.lemmas.List.Elements.{All-nil, All-cons}
use Rattle.jb_base.specs.Packed.{strings_from, EndAt, start_of}
use Rattle.jb_base.proofs.Packed.{behind, count_is, ends_cut, front-alone, in_front, order, starts_order, starts_within}

-- ---- behind an index

ends-behind : (from : ℕ) (ends : List ℕ) (last lo : ℕ) → EndAt from ends last → lo ≤ length ends → EndAt (start_of from ends lo) (drop lo ends) last
ends-behind from [] last zero ok within = ok
ends-behind from [] last (suc lo) ok within = absurd (omega (arith, within))
ends-behind from (end ∷ ends) last zero ok within = ok
ends-behind from (end ∷ ends) last (suc lo) ok within = ends-behind end ends last lo ok.1 (omega (arith, within))

strings-behind : (from : ℕ) (ends bytes : List ℕ) (lo : ℕ) → strings_from (start_of from ends lo) (drop lo ends) bytes ≡ drop lo (strings_from from ends bytes)
strings-behind from [] bytes zero = refl
strings-behind from [] bytes (suc lo) = refl
strings-behind from (end ∷ ends) bytes zero = refl
strings-behind from (end ∷ ends) bytes (suc lo) = strings-behind end ends bytes lo

start-behind : (from : ℕ) (ends : List ℕ) (lo count : ℕ) → start_of (start_of from ends lo) (drop lo ends) count ≡ start_of from ends (lo + count)
start-behind from [] zero count = refl
start-behind from [] (suc lo) count = refl
start-behind from (end ∷ ends) zero count = let none : count ≡ 0 + count = omega arith in ap (start_of from (end ∷ ends)) none
start-behind from (end ∷ ends) (suc lo) count =
    let next : suc (lo + count) ≡ suc lo + count = omega arith in
    start-behind end ends lo count ∙ ap (start_of from (end ∷ ends)) next

-- ---- lower by what stands before

lower-raised : (base from : ℕ) (ends : List ℕ) (last : ℕ) → base ≤ from → EndAt from ends last → map (λ end. base + end) (map (λ end. end - base) ends) ≡ ends
lower-raised base from [] last above ok = refl
lower-raised base from (end ∷ ends) last above ok =
    let past = ok.0 in
    let here : base + (end - base) ≡ end = omega arith in
    let later = lower-raised base end ends last (omega arith) ok.1 in
    cc

lower-ends : (base from : ℕ) (ends : List ℕ) (last : ℕ) → base ≤ from → EndAt from ends last → EndAt (from - base) (map (λ end. end - base) ends) (last - base)
lower-ends base from [] last above ok = ap (λ k. k - base) ok
lower-ends base from (end ∷ ends) last above ok = let past = ok.0 in (omega arith, lower-ends base end ends last (omega arith) ok.1)

ends-above : (base from : ℕ) (ends : List ℕ) (last : ℕ) → base ≤ from → EndAt from ends last → All (λ end. base ≤ end) ends
ends-above base from [] last above ok = All-nil (λ end. base ≤ end)
ends-above base from (end ∷ ends) last above ok =
    let past = ok.0 in
    let here : base ≤ end = omega arith in
    All-cons (λ k. base ≤ k) end ends here (ends-above base end ends last here ok.1)

-- the strings of these ends, in a buffer that begins with the first and ends with the last
module _ (base : ℕ) (ends bytes : List ℕ) (last : ℕ) (ok : EndAt base ends last) (within : last ≤ length bytes) where
  lower-fit : EndAt 0 (map (λ end. end - base) ends) (last - base)
  lower-fit =
      let none : base - base ≡ 0 = omega arith in
      subst (λ k. EndAt k (map (λ end. end - base) ends) (last - base)) none (lower-ends base base ends last (omega arith) ok)

  as-long : length (slice_range bytes base last) ≡ last - base
  as-long =
      let left = length-drop base bytes in
      length-take-le (last - base) (drop base bytes) (omega arith)

  lower-strings : strings_from 0 (map (λ end. end - base) ends) (slice_range bytes base last) ≡ strings_from base ends bytes
  lower-strings =
      let more = map (λ end. end - base) ends in
      let front = take base bytes in
      let tail = drop base bytes in
      let own = take (last - base) tail in
      let past = order base ends last ok in
      let long : length front ≡ base = length-take-le base bytes (omega arith) in
      let first : length front + 0 ≡ base = omega arith in
      let raised : map (λ end. length front + end) more ≡ ends = ap (λ k. map (λ end. k + end) more) long ∙ lower-raised base base ends last (omega arith) ok in
      let all : strings_from 0 more tail ≡ strings_from base ends bytes =
      sym (behind 0 more front tail) ∙ (λ i. strings_from (first i) (raised i) (take-append-drop base bytes i)) in
      let fits = as-long in
      sym (in_front 0 more (last - base) own (drop (last - base) tail) lower-fit (omega arith))
      ∙ ap (strings_from 0 more) (take-append-drop (last - base) tail) ∙ all

-- ---- between two places

module _ (ends bytes : List ℕ) (list : List (List ℕ)) (lo hi : ℕ) (is : strings_from 0 ends bytes ≡ list) (ok : EndAt 0 ends (length bytes)) (ordered : lo ≤ hi) (to : hi ≤ length list) where
  pub within : hi ≤ length ends
  within = let count = count_is ends bytes list is in omega arith

  between : EndAt (start_of 0 ends lo) (slice_range ends lo hi) (start_of 0 ends hi)
  between =
      let there : lo + (hi - lo) ≡ hi = omega arith in
      subst (EndAt (start_of 0 ends lo) (slice_range ends lo hi)) (start-behind 0 ends lo (hi - lo) ∙ ap (start_of 0 ends) there)
      (ends_cut (start_of 0 ends lo) (drop lo ends) (length bytes) (hi - lo) (ends-behind 0 ends (length bytes) lo ok (let last = within in omega arith)))

  within-bytes : start_of 0 ends hi ≤ length bytes
  within-bytes = (starts_within 0 ends (length bytes) hi ok).1

  pub ordered_bytes : (start_of 0 ends lo ≤ start_of 0 ends hi) × (start_of 0 ends hi ≤ length bytes)
  ordered_bytes = (starts_order 0 ends (length bytes) lo hi ok ordered, within-bytes)

  pub above_base : All (λ end. start_of 0 ends lo ≤ end) (slice_range ends lo hi)
  above_base = ends-above (start_of 0 ends lo) (start_of 0 ends lo) (slice_range ends lo hi) (start_of 0 ends hi) (omega arith) between

  module _ (base end : ℕ) (own ends' bytes' : List ℕ) (first : base ≡ start_of 0 ends lo) (last : end ≡ start_of 0 ends hi)
      (o : own ≡ slice_range ends lo hi) (e : ends' ≡ map (λ end. end - base) own) (b : bytes' ≡ slice_range bytes base end) where
    ends-are : ends' ≡ map (λ end. end - start_of 0 ends lo) (slice_range ends lo hi)
    ends-are = e ∙ (λ i. map (λ end. end - first i) (o i))

    bytes-are : bytes' ≡ slice_range bytes (start_of 0 ends lo) (start_of 0 ends hi)
    bytes-are = b ∙ (λ i. slice_range bytes (first i) (last i))

    pub part_is : strings_from 0 ends' bytes' ≡ slice_range list lo hi
    part_is =
        (λ i. strings_from 0 (ends-are i) (bytes-are i))
        ∙ lower-strings (start_of 0 ends lo) (slice_range ends lo hi) bytes (start_of 0 ends hi) between within-bytes
        ∙ front-alone (start_of 0 ends lo) (drop lo ends) bytes (hi - lo)
        ∙ ap (take (hi - lo)) (strings-behind 0 ends bytes lo)
        ∙ ap (λ strings. slice_range strings lo hi) is

    pub part_end : EndAt 0 ends' (length bytes')
    part_end =
        let long = ap length bytes-are ∙ as-long (start_of 0 ends lo) (slice_range ends lo hi) bytes (start_of 0 ends hi) between within-bytes in
        subst (λ es. EndAt 0 es (length bytes')) (sym ends-are)
        (subst (EndAt 0 (map (λ end. end - start_of 0 ends lo) (slice_range ends lo hi))) (sym long)
        (lower-fit (start_of 0 ends lo) (slice_range ends lo hi) bytes (start_of 0 ends hi) between within-bytes))
