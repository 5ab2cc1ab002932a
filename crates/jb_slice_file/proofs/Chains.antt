-- What a chain of digests tells, and the numbers and the links of checkpoints that were found.
use Rattle.std.proofs.Common.{◌≡◌, ◌≢◌, ℕ, suc, pos, ◌+◌, ◌<◌, ◌^◌, append_assoc, List, [], ◌∷◌, ◌++◌, length, length-append, map, take, drop, refl, ap, sym, ◌∙◌, arith}
use Rattle.std.{specs.Int.{w64, from_le_bytes, to_le_bytes}, proofs.lemmas.List.{append_cancel_left, drop_at, length-map, map-append, take_at}, proofs.lemmas.Nat.from_le_bytes-to_le_bytes_8}
use Rattle.sha2.{proofs.Facts256.length-sha256}
use Rattle.jb_slice_file.specs.{declared.list_end.ListEnd.ListEnd, CheckpointBytes.CheckpointBytes, Chain.{Linked, chained, chained_from, last_from, last_link, link_of, linked, no_link}, ChainLaws.{AreShort, FrontsAreChained, LastLinksIdentifyLists, TellsChainsApart}, ListEnd.{IsAfter, IsEndOf}, Numbered.{IsAlteredAt, Numbered, at_number, numbered_from}}

-- ---- checkpoints behind others

pub chained_append : (before : List ℕ) (number : ℕ) (all later : List CheckpointBytes) (n : ℕ) → n ≡ number + length all
    → chained_from before number (all ++ later) ≡ chained_from before number all ++ chained_from (last_from before number all) n later
chained_append before number [] later n is = let same : number ≡ n = omega (arith, is) in ap (λ (m : ℕ). chained_from before m later) same
chained_append before number (x ∷ all) later n is = grind (arith, chained_append (link_of before number x) (suc number) all later n)

last_push : (before : List ℕ) (number : ℕ) (all : List CheckpointBytes) (it : CheckpointBytes) (n : ℕ) → n ≡ number + length all → last_from before number (all ++ it ∷ []) ≡ link_of (last_from before number all) n it
last_push before number [] it n is = let same : number ≡ n = omega (arith, is) in ap (λ (m : ℕ). link_of before m it) same
last_push before number (x ∷ all) it n is = last_push (link_of before number x) (suc number) all it n (omega (arith, is))

pub chained_more : (all : List CheckpointBytes) (one : Linked) → one.link ≡ link_of (last_link all) (length all + 1) one.it → chained (all ++ one.it ∷ []) ≡ chained all ++ one ∷ []
chained_more all one is =
    chained_append no_link 1 all (one.it ∷ []) (length all + 1) (omega arith) ∙ ap (λ (link : List ℕ). chained all ++ (record { it = one.it; link = link }) ∷ []) (sym is)

pub last_more : (all : List CheckpointBytes) (it : CheckpointBytes) → last_link (all ++ it ∷ []) ≡ link_of (last_link all) (length all + 1) it
last_more all it = last_push no_link 1 all it (length all + 1) (omega arith)

-- ---- the checkpoints of a chain

pub unchained : (before : List ℕ) (number : ℕ) (all : List CheckpointBytes) → map (λ (one : Linked). one.it) (chained_from before number all) ≡ all
unchained before number [] = refl
unchained before number (it ∷ all) = ap (λ (more : List CheckpointBytes). it ∷ more) (unchained (link_of before number it) (suc number) all)

pub as_many : (all : List CheckpointBytes) → length (chained all) ≡ length all
as_many all = sym (length-map (chained all) (λ (one : Linked). one.it)) ∙ ap length (unchained no_link 1 all)

pub chained_once : (all others : List CheckpointBytes) → chained all ≡ chained others → all ≡ others
chained_once all others is = sym (unchained no_link 1 all) ∙ ap (map (λ (one : Linked). one.it)) is ∙ unchained no_link 1 others

pub link_length : (before : List ℕ) (number : ℕ) (it : CheckpointBytes) → length (link_of before number it) ≡ 32
unfolding link_of
link_length before number it = length-sha256 (linked before number it)

pub front : FrontsAreChained
front all later = (chained_from (last_link all) (1 + length all) later, chained_append no_link 1 all later (1 + length all) refl)

-- ---- texts of one length

split : {A : Type 0} (a b r s : List A) → length a ≡ length b → a ++ r ≡ b ++ s → (a ≡ b) × (r ≡ s)
split a b r s same e =
    (sym (take_at a r _ same) ∙ ap (take (length b)) e ∙ take_at b s _ refl, sym (drop_at a r _ same) ∙ ap (drop (length b)) e ∙ drop_at b s _ refl)

one_number : (m n : ℕ) → m < 2 ^ 64 → n < 2 ^ 64 → to_le_bytes w64 m ≡ to_le_bytes w64 n → m ≡ n
one_number m n low small e = sym (from_le_bytes-to_le_bytes_8 m low) ∙ ap (from_le_bytes w64) e ∙ from_le_bytes-to_le_bytes_8 n small

one_link : (before other : List ℕ) (number : ℕ) (x y : CheckpointBytes) → length before ≡ length other → length x.saved < 2 ^ 64 → length y.saved < 2 ^ 64
    → linked before number x ≡ linked other number y → (before ≡ other) × (x ≡ y)
one_link before other number x y same short few e =
    let whole = split before other _ _ same e in
    let size = split (to_le_bytes w64 (length x.saved)) (to_le_bytes w64 (length y.saved)) _ _ refl (append_cancel_left (to_le_bytes w64 number) _ _ whole.1) in
    let text = split x.saved y.saved _ _ (one_number (length x.saved) (length y.saved) short few size.0) size.1 in
    (whole.0, λ i. record { saved = text.0 i; results = text.1 i })

one_chain : (before other : List ℕ) (number : ℕ) (xs ys : List CheckpointBytes) → length before ≡ length other → AreShort xs → AreShort ys
    → TellsChainsApart before other number xs ys → length xs ≡ length ys → last_from before number xs ≡ last_from other number ys → (before ≡ other) × (xs ≡ ys)
unfolding link_of
one_chain before other number [] [] same short few tells e last = (last, refl)
one_chain before other number (x ∷ xs) (y ∷ ys) same short few tells e last =
    let size = link_length before number x ∙ sym (link_length other number y) in
    let later = one_chain (link_of before number x) (link_of other number y) (suc number) xs ys size short.1 few.1 tells.1 (omega (arith, e)) last in
    let here = one_link before other number x y same short.0 few.0 (tells.0 later.0) in
    (here.0, λ i. here.1 i ∷ later.1 i)
one_chain before other number _ _ same short few tells e last = absurd (omega (arith, e))

pub told : LastLinksIdentifyLists
told all others short few tells e last = (one_chain no_link no_link 1 all others refl short few tells e last).1

-- ---- checkpoints that were found

abbrev pub linked_of : Numbered → Linked
linked_of one = one.linked

pub unnumbered : (number : ℕ) (all : List Linked) → map linked_of (numbered_from number all) ≡ all
unnumbered number [] = refl
unnumbered number (x ∷ all) = ap (λ (more : List Linked). x ∷ more) (unnumbered (suc number) all)

pub numbered_push : (number : ℕ) (all : List Linked) (one : Linked) (n : ℕ) → n ≡ number + length all → numbered_from number (all ++ one ∷ []) ≡ numbered_from number all ++ at_number n one ∷ []
numbered_push number [] one n is = let same : number ≡ n = omega (arith, is) in ap (λ (m : ℕ). at_number m one ∷ []) same
numbered_push number (x ∷ all) one n is = ap (λ (more : List Numbered). at_number number x ∷ more) (numbered_push (suc number) all one n (omega (arith, is)))

-- a list whose member behind these has another number is none
number_behind : (number : ℕ) (xs more : List Numbered) (all : List Linked) (one : Numbered) → xs ++ one ∷ more ≡ numbered_from number all → one.number ≡ pos (number + length xs)
number_behind number xs more [] one is = absurd (omega (arith, ap length is, length-append xs (one ∷ more)))
number_behind number [] more (it ∷ all) one is = grind arith
number_behind number (x ∷ xs) more (it ∷ all) one is = grind (arith, number_behind (suc number) xs more all one)

-- one that was found with another link is of no chain
pub never_altered : (number : ℕ) (found : List Numbered) (all : List CheckpointBytes) → found ≡ numbered_from 1 (chained all) → IsAlteredAt number found → ⊥
never_altered number found all is at =
    let rest = map linked_of at.later in
    let list : chained at.front ++ at.one ∷ rest ≡ chained all = simp (map-append, unnumbered, append_assoc) at (ap (map linked_of) (sym at.found_are ∙ is)) in
    let bytes = map (λ (one : Linked). one.it) in
    let front : at.front ++ bytes (at.one ∷ rest) ≡ all = simp (map-append, unchained) at (ap bytes list) in
    let both = append_cancel_left (chained at.front) _ _ (list ∙ ap chained (sym front) ∙ chained_append no_link 1 at.front (bytes (at.one ∷ rest)) number (at.number_is ∙ omega arith)) in
    at.other (let link : at.one.link ≡ link_of (last_link at.front) number at.one.it = cc in link)

-- ---- one that was found, between those before it and those to come

module _ (before : List CheckpointBytes) (one : Numbered) (rest whole : List Numbered) (so : whole ≡ numbered_from 1 (chained before) ++ one ∷ rest) where
  -- if these are a list, it has the next number
  pub other_number : (list : List Linked) → whole ≡ numbered_from 1 list → one.number ≡ pos (length before + 1)
  other_number list is = let same : numbered_from 1 (chained before) ++ one ∷ rest ≡ numbered_from 1 list = sym so ∙ is in grind (arith, number_behind, as_many before, length-map (numbered_from 1 (chained before)) linked_of, ap length (unnumbered 1 (chained before)))

  module _ (number : one.number ≡ pos (length before + 1)) where
    -- if it has that, it is behind those before it
    placed : whole ≡ numbered_from 1 (chained before ++ one.linked ∷ []) ++ rest
    placed = grind (arith, numbered_push 1 (chained before) one.linked (length before + 1), as_many before, append_assoc)

    pub push_next : one.linked.link ≡ link_of (last_link before) (length before + 1) one.linked.it → whole ≡ numbered_from 1 (chained (before ++ one.linked.it ∷ [])) ++ rest
    push_next link = grind (arith, placed, chained_more)

    -- if it has another link, it was changed
    pub altered : one.linked.link ≢ link_of (last_link before) (length before + 1) one.linked.it → IsAlteredAt (length before + 1) whole
    altered other = record { front = before; one = one.linked; later = rest; number_is = omega arith; other = other; found_are = placed }

-- ---- the end of a list

module _ (end next : ListEnd) (all : List CheckpointBytes) (it : CheckpointBytes) (at : IsEndOf end all) (after : IsAfter end next it) where
  -- the checkpoint that makes it longer has the next number and the next link
  pub is_next : next.link ≡ link_of (last_link all) (length all + 1) it
  is_next = after.link ∙ (λ i. link_of (at.link i) (at.count i + 1) it)

  pub ends_after : IsEndOf next (all ++ it ∷ [])
  ends_after = record { count = let n = at.count in let m = after.count in omega (arith, n, m, length-append all (it ∷ [])); link = is_next ∙ sym (last_more all it) }

pub is_wide : (end next : ListEnd) (it : CheckpointBytes) → IsAfter end next it → length next.link ≡ 32
is_wide end next it after = grind (arith, link_length)
