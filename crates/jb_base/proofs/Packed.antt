-- Strings in one buffer: read, put behind the others, and cut.
use Rattle.std.proofs.Common.{subst, ◌≡◌, ℕ, zero, suc, ◌+◌, ◌-◌, ◌<◌, ◌≤◌, List, [], ◌∷◌, ◌++◌, length, map, take, drop, get_or, refl, ap, sym, length-append, ◌∙◌, arith, length-drop}
use Rattle.std.proofs.lemmas.List.{take_more, get_or-drop, get_or_default, take_all, take-append-le, drop-append-le, take-append-drop, length-take-le, drop-drop, drop_at}
use Rattle.std.specs.Prelude.{All, slice_range, slice_index_or}
use Rattle.jb_base.specs.Packed.{strings_from, EndAt, start_of}

pub length_strings : (from : ℕ) (ends bytes : List ℕ) → length (strings_from from ends bytes) ≡ length ends
length_strings from [] bytes = refl
length_strings from (end ∷ ends) bytes = ap suc (length_strings end ends bytes)

pub order : (from : ℕ) (ends : List ℕ) (last : ℕ) → EndAt from ends last → from ≤ last
order from [] last ok = omega (arith, ok)
order from (end ∷ ends) last ok = let rest = order end ends last ok.1 in let here = ok.0 in omega arith

pub within : (from : ℕ) (ends : List ℕ) (last index : ℕ) → EndAt from ends last → index < length ends
    → (start_of from ends index ≤ get_or ends index 0) × (get_or ends index 0 ≤ last)
within from [] last index ok below = absurd (omega (arith, below))
within from (end ∷ ends) last zero ok below = (ok.0, order end ends last ok.1)
within from (end ∷ ends) last (suc index) ok below = within end ends last index ok.1 (omega (arith, below))

pub starts_within : (from : ℕ) (ends : List ℕ) (last index : ℕ) → EndAt from ends last → (from ≤ start_of from ends index) × (start_of from ends index ≤ last)
starts_within from [] last index ok = let e : from ≡ last = ok in (omega arith, omega arith)
starts_within from (end ∷ ends) last zero ok = let rest = order end ends last ok.1 in let here = ok.0 in (omega arith, omega arith)
starts_within from (end ∷ ends) last (suc index) ok = let rest = starts_within end ends last index ok.1 in let here = ok.0 in (omega arith, rest.1)

pub start_is : (from : ℕ) (ends : List ℕ) (index : ℕ) → index < length ends → start_of from ends (suc index) ≡ get_or ends index 0
start_is from [] index below = absurd (omega (arith, below))
start_is from (end ∷ []) zero below = refl
start_is from (end ∷ next ∷ ends) zero below = refl
start_is from (end ∷ ends) (suc index) below = start_is end ends index (omega (arith, below))

pub string_at : (from : ℕ) (ends bytes : List ℕ) (index : ℕ) → index < length ends
    → slice_index_or (strings_from from ends bytes) index [] ≡ slice_range bytes (start_of from ends index) (get_or ends index 0)
string_at from [] bytes index below = absurd (omega (arith, below))
string_at from (end ∷ ends) bytes zero below = refl
string_at from (end ∷ ends) bytes (suc index) below = string_at end ends bytes index (omega (arith, below))

range_in_front : (bytes more : List ℕ) (from end : ℕ) → from ≤ end → end ≤ length bytes → slice_range (bytes ++ more) from end ≡ slice_range bytes from end
range_in_front bytes more from end order within =
    let behind : from ≤ length bytes = omega arith in
    let left = length-drop from bytes in
    ap (take (end - from)) (drop-append-le from bytes more behind) ∙ take-append-le (end - from) (drop from bytes) more (omega arith)

-- what comes behind the last string changes none
pub in_front : (from : ℕ) (ends : List ℕ) (last : ℕ) (bytes more : List ℕ) → EndAt from ends last → last ≤ length bytes
    → strings_from from ends (bytes ++ more) ≡ strings_from from ends bytes
in_front from [] last bytes more ok within = refl
in_front from (end ∷ ends) last bytes more ok within =
    let rest = order end ends last ok.1 in
    let here = range_in_front bytes more from end ok.0 (omega arith) in
    let later = in_front end ends last bytes more ok.1 within in
    cc

range-behind : (bytes more : List ℕ) (from end : ℕ) → slice_range (bytes ++ more) (length bytes + from) (length bytes + end) ≡ slice_range more from end
range-behind bytes more from end =
    let long : (length bytes + end) - (length bytes + from) ≡ end - from = omega arith in
    let there : drop (length bytes + from) (bytes ++ more) ≡ drop from more =
    sym (drop-drop from (length bytes) (bytes ++ more)) ∙ ap (drop from) (drop_at bytes more (length bytes) refl) in
    ap (λ k. take k (drop (length bytes + from) (bytes ++ more))) long ∙ ap (take (end - from)) there

-- strings of a buffer that stands behind another
pub behind : (from : ℕ) (ends bytes more : List ℕ)
    → strings_from (length bytes + from) (map (λ end. length bytes + end) ends) (bytes ++ more) ≡ strings_from from ends more
behind from [] bytes more = refl
behind from (end ∷ ends) bytes more =
    let here = range-behind bytes more from end in
    let later = behind end ends bytes more in
    cc

pub both : (from : ℕ) (ends bytes : List ℕ) (last : ℕ) (more tail : List ℕ) → EndAt from ends last → last ≡ length bytes
    → strings_from from (ends ++ map (λ end. length bytes + end) more) (bytes ++ tail) ≡ strings_from from ends bytes ++ strings_from 0 more tail
both from [] bytes last more tail ok is =
    let first : from ≡ length bytes + 0 = omega (arith, ok) in
    ap (λ k. strings_from k (map (λ end. length bytes + end) more) (bytes ++ tail)) first ∙ behind 0 more bytes tail
both from (end ∷ ends) bytes last more tail ok is =
    let rest = order end ends last ok.1 in
    let here = range_in_front bytes tail from end ok.0 (omega arith) in
    let later = both end ends bytes last more tail ok.1 is in
    cc

shifted : (base from : ℕ) (ends : List ℕ) (last : ℕ) → EndAt from ends last → EndAt (base + from) (map (λ end. base + end) ends) (base + last)
shifted base from [] last ok = ap (λ k. base + k) ok
shifted base from (end ∷ ends) last ok = let here = ok.0 in (omega arith, shifted base end ends last ok.1)

pub both_end : (from : ℕ) (ends : List ℕ) (base : ℕ) (more : List ℕ) (last : ℕ) → EndAt from ends base → EndAt 0 more last
    → EndAt from (ends ++ map (λ end. base + end) more) (base + last)
both_end from [] base more last ok later =
    let first : base + 0 ≡ from = omega (arith, ok) in
    subst (λ k. EndAt k (map (λ end. base + end) more) (base + last)) first (shifted base 0 more last later)
both_end from (end ∷ ends) base more last ok later = (ok.0, both_end end ends base more last ok.1 later)

pub ends_cut : (from : ℕ) (ends : List ℕ) (last count : ℕ) → EndAt from ends last → EndAt from (take count ends) (start_of from ends count)
ends_cut from [] last zero ok = refl
ends_cut from [] last (suc count) ok = refl
ends_cut from (end ∷ ends) last zero ok = refl
ends_cut from (end ∷ ends) last (suc count) ok = (ok.0, ends_cut end ends last count ok.1)

pub front-alone : (from : ℕ) (ends bytes : List ℕ) (count : ℕ) → strings_from from (take count ends) bytes ≡ take count (strings_from from ends bytes)
front-alone from [] bytes zero = refl
front-alone from [] bytes (suc count) = refl
front-alone from (end ∷ ends) bytes zero = refl
front-alone from (end ∷ ends) bytes (suc count) = ap (λ xs. slice_range bytes from end ∷ xs) (front-alone end ends bytes count)

pub cut_to : (from : ℕ) (ends bytes : List ℕ) (count : ℕ) → EndAt from ends (length bytes)
    → strings_from from (take count ends) (take (start_of from ends count) bytes) ≡ take count (strings_from from ends bytes)
cut_to from ends bytes count ok =
    let at = start_of from ends count in
    let within = (starts_within from ends (length bytes) count ok).1 in
    let long = length-take-le at bytes within in
    let whole = take-append-drop at bytes in
    sym (in_front from (take count ends) at (take at bytes) (drop at bytes) (ends_cut from ends (length bytes) count ok) (omega (arith, long)))
    ∙ ap (strings_from from (take count ends)) whole ∙ front-alone from ends bytes count

-- as many strings as ends
pub count_is : (ends bytes : List ℕ) (list : List (List ℕ)) → strings_from 0 ends bytes ≡ list → length list ≡ length ends
count_is ends bytes list is = sym (ap length is) ∙ length_strings 0 ends bytes

module _ (ends bytes more tail ends' bytes' : List ℕ) (ok : EndAt 0 ends (length bytes)) where
  pub appended : ends' ≡ ends ++ map (λ end. length bytes + end) more → bytes' ≡ bytes ++ tail
      → strings_from 0 ends' bytes' ≡ strings_from 0 ends bytes ++ strings_from 0 more tail
  appended e b = (λ i. strings_from 0 (e i) (b i)) ∙ both 0 ends bytes (length bytes) more tail ok refl

  pub appended_end : EndAt 0 more (length tail) → ends' ≡ ends ++ map (λ end. length bytes + end) more → bytes' ≡ bytes ++ tail
      → EndAt 0 ends' (length bytes')
  appended_end later e b =
      let long : length bytes + length tail ≡ length bytes' = sym (ap length b ∙ length-append bytes tail) in
      subst (λ es. EndAt 0 es (length bytes')) (sym e)
      (subst (EndAt 0 (ends ++ map (λ end. length bytes + end) more)) long (both_end 0 ends (length bytes) more (length tail) ok later))

alone : (string : List ℕ) → strings_from 0 (length string ∷ []) string ≡ string ∷ []
alone string =
    let long : length string - 0 ≡ length string = omega arith in
    ap (λ k. take k string ∷ []) long ∙ ap (λ s. s ∷ []) (take_all (length string) string (omega arith))

module _ (ends bytes string ends' bytes' : List ℕ) (ok : EndAt 0 ends (length bytes)) (e : ends' ≡ ends ++ length bytes' ∷ []) (b : bytes' ≡ bytes ++ string) where
  last-end : ends' ≡ ends ++ map (λ end. length bytes + end) (length string ∷ [])
  last-end = e ∙ ap (λ k. ends ++ k ∷ []) (ap length b ∙ length-append bytes string)

  pub pushed : strings_from 0 ends' bytes' ≡ strings_from 0 ends bytes ++ string ∷ []
  pushed =
      appended ends bytes (length string ∷ []) string ends' bytes' ok last-end b
      ∙ ap (λ list. strings_from 0 ends bytes ++ list) (alone string)

  pub pushed_end : EndAt 0 ends' (length bytes')
  pushed_end = appended_end ends bytes (length string ∷ []) string ends' bytes' ok (omega arith, refl) last-end b

-- the ends of the strings of `tail` behind `bytes`
pub behind_fit : (bytes more tail joined : List ℕ) (base limit : ℕ) → EndAt 0 more (length tail) → base ≡ length bytes → joined ≡ bytes ++ tail → length joined < limit
    → All (λ end. base + end < limit) more
behind_fit bytes more tail joined base limit ok first is small k d below =
    let here = (within 0 more (length tail) k ok below).1 in
    let same = get_or_default more k d 0 below in
    let long = ap length is ∙ length-append bytes tail in
    omega arith

-- the string of an index, by the buffer and the ends
pub read : (ends bytes : List ℕ) (list : List (List ℕ)) (index : ℕ) → strings_from 0 ends bytes ≡ list → EndAt 0 ends (length bytes) → index < length ends
    → (slice_range bytes (start_of 0 ends index) (get_or ends index 0) ≡ slice_index_or list index [])
    × ((start_of 0 ends index ≤ get_or ends index 0) × (get_or ends index 0 ≤ length bytes))
read ends bytes list index is ok below =
    (sym (string_at 0 ends bytes index below) ∙ ap (λ xs. slice_index_or xs index []) is, within 0 ends (length bytes) index ok below)

module _ (ends bytes ends' bytes' : List ℕ) (count : ℕ) (ok : EndAt 0 ends (length bytes))
    (e : ends' ≡ take count ends) (b : bytes' ≡ take (start_of 0 ends count) bytes) where
  pub cut : strings_from 0 ends' bytes' ≡ take count (strings_from 0 ends bytes)
  cut = (λ i. strings_from 0 (e i) (b i)) ∙ cut_to 0 ends bytes count ok

  pub cut_end : EndAt 0 ends' (length bytes')
  cut_end =
      let within = (starts_within 0 ends (length bytes) count ok).1 in
      let long : start_of 0 ends count ≡ length bytes' = sym (ap length b ∙ length-take-le (start_of 0 ends count) bytes within) in
      subst (λ es. EndAt 0 es (length bytes')) (sym e) (subst (EndAt 0 (take count ends)) long (ends_cut 0 ends (length bytes) count ok))

pub starts_order : (from : ℕ) (ends : List ℕ) (last lo hi : ℕ) → EndAt from ends last → lo ≤ hi → start_of from ends lo ≤ start_of from ends hi
starts_order from [] last lo hi ok order = omega arith
starts_order from (end ∷ ends) last zero hi ok order = (starts_within from (end ∷ ends) last hi ok).0
starts_order from (end ∷ ends) last (suc lo) zero ok order = absurd (omega (arith, order))
starts_order from (end ∷ ends) last (suc lo) (suc hi) ok order = starts_order end ends last lo hi ok.1 (omega (arith, order))

-- one string more of a range
pub range_more : (list : List (List ℕ)) (from index : ℕ) → from ≤ index → index < length list
    → slice_range list from index ++ slice_index_or list index [] ∷ [] ≡ slice_range list from (index + 1)
range_more list from index order below =
    let left = length-drop from list in
    let one_more : (index + 1) - from ≡ (index - from) + 1 = omega arith in
    let there : from + (index - from) ≡ index = omega arith in
    sym (
    ap (λ k. take k (drop from list)) one_more
    ∙ take_more (drop from list) (index - from) [] (omega arith)
    ∙ ap (λ s. take (index - from) (drop from list) ++ s ∷ []) (get_or-drop from list (index - from) [] ∙ ap (λ k. get_or list k []) there)
    )
