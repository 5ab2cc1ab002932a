-- Codings begin apart, and end apart.
use Rattle.std.{proofs.Common.{ℕ, ◌≡◌, ◌<◌, ◌^◌, List, [], ◌∷◌, ◌++◌, length, take, drop, flat_map, refl, sym, ap, ap₂, ◌∙◌, append_assoc, arith}, proofs.Math.Seq.{take-append_seam, drop-append_seam}, proofs.lemmas.List.{append-nil}, proofs.lemmas.Nat.{from_le_bytes-to_le_bytes_4}, specs.Int.{w32, from_le_bytes}}
use Rattle.std.specs.List.{AllByRecursion}
use Rattle.jb_slice_run.specs.Coding.{AreListsRead, coded, coded_number, coded_string, coded_strings, coded_list, IsShort, IsCodable, IsCodingOf}

-- ---- lists of one length

pub parted : {A : Type 0} (a b r s : List A) → length a ≡ length b → a ++ r ≡ b ++ s → (a ≡ b) × (r ≡ s)
parted a b r s same e = (
  sym (take-append_seam a r) ∙ ap (λ n. take n (a ++ r)) same ∙ ap (take (length b)) e ∙ take-append_seam b s,
  sym (drop-append_seam a r) ∙ ap (λ n. drop n (a ++ r)) same ∙ ap (drop (length b)) e ∙ drop-append_seam b s,
)

-- ---- numbers

pub number_length : (n : ℕ) → length (coded_number n) ≡ 4
unfolding coded_number
number_length n = refl

pub number_parted : (m n : ℕ) (r s : List ℕ) → m < 2 ^ 32 → n < 2 ^ 32 → coded_number m ++ r ≡ coded_number n ++ s → (m ≡ n) × (r ≡ s)
unfolding coded_number
number_parted m n r s low small e =
    let parts = parted (coded_number m) (coded_number n) r s refl e in
    (sym (from_le_bytes-to_le_bytes_4 m low) ∙ ap (from_le_bytes w32) parts.0 ∙ from_le_bytes-to_le_bytes_4 n small, parts.1)

-- ---- strings

pub string_bytes : (s r : List ℕ) → coded_string s ++ r ≡ coded_number (length s) ++ (s ++ r)
string_bytes s r = append_assoc (coded_number (length s)) s r

pub string_parted : (s t r u : List ℕ) → IsShort s → IsShort t → coded_string s ++ r ≡ coded_string t ++ u → (s ≡ t) × (r ≡ u)
string_parted s t r u short small e =
    let parts = number_parted (length s) (length t) (s ++ r) (t ++ u) short small (sym (string_bytes s r) ∙ e ∙ string_bytes t u) in
    parted s t r u parts.0 parts.1

-- ---- one after the other

module _ {A : Type 0} (code : A → List ℕ) (Fits : A → Type 0) (once : (x y : A) (r u : List ℕ) → Fits x → Fits y → code x ++ r ≡ code y ++ u → (x ≡ y) × (r ≡ u)) where
  next_parted : (x y : A) (xs ys : List A) (r u : List ℕ) → Fits x → Fits y → flat_map code (x ∷ xs) ++ r ≡ flat_map code (y ∷ ys) ++ u → (x ≡ y) × (flat_map code xs ++ r ≡ flat_map code ys ++ u)
  next_parted x y xs ys r u fx fy e =
      once x y (flat_map code xs ++ r) (flat_map code ys ++ u) fx fy (sym (append_assoc (code x) (flat_map code xs) r) ∙ e ∙ append_assoc (code y) (flat_map code ys) u)

  -- as many are the same as there are of both
  pub all_parted : (xs ys : List A) (r u : List ℕ) → AllByRecursion Fits xs → AllByRecursion Fits ys → length xs ≡ length ys → flat_map code xs ++ r ≡ flat_map code ys ++ u → (xs ≡ ys) × (r ≡ u)
  all_parted [] [] r u fx fy same e = (refl, e)
  all_parted (x ∷ xs) (y ∷ ys) r u fx fy same e =
      let here = next_parted x y xs ys r u fx.0 fy.0 e in
      let more = all_parted xs ys r u fx.1 fy.1 (omega (arith, same)) here.1 in
      (ap₂ ◌∷◌ here.0 more.0, more.1)
  all_parted _ _ r u fx fy same e = absurd (omega (arith, same))

  -- after fewer there is another one
  pub another : (xs ys : List A) (r u : List ℕ) → AllByRecursion Fits xs → AllByRecursion Fits ys → length xs < length ys → flat_map code xs ++ r ≡ flat_map code ys ++ u
      → ((y : A) (more : List ℕ) → Fits y → r ≡ code y ++ more → ⊥) → ⊥
  another xs [] r u fx fy fewer e none = omega (arith, fewer)
  another [] (y ∷ ys) r u fx fy fewer e none = none y (flat_map code ys ++ u) fy.0 (e ∙ append_assoc (code y) (flat_map code ys) u)
  another (x ∷ xs) (y ∷ ys) r u fx fy fewer e none = another xs ys r u fx.1 fy.1 (omega (arith, fewer)) (next_parted x y xs ys r u fx.0 fy.0 e).1 none

-- ---- lists

pub list_bytes : (list : List (List ℕ)) (r : List ℕ) → coded_list list ++ r ≡ coded_number (length list) ++ (coded_strings list ++ r)
list_bytes list r = append_assoc (coded_number (length list)) (coded_strings list) r

pub list_parted : (xs ys : List (List ℕ)) (r u : List ℕ) → IsCodable xs → IsCodable ys → coded_list xs ++ r ≡ coded_list ys ++ u → (xs ≡ ys) × (r ≡ u)
list_parted xs ys r u cx cy e =
    let parts = number_parted (length xs) (length ys) (coded_strings xs ++ r) (coded_strings ys ++ u) cx.few cy.few (sym (list_bytes xs r) ∙ e ∙ list_bytes ys u) in
    all_parted coded_string (λ s. IsShort s) string_parted xs ys r u cx.short cy.short parts.0 parts.1

-- bytes of which these lists were read are the coding of no others
pub all_read : (lists : List (List (List ℕ))) (bytes rest : List ℕ) (n count : ℕ) → AreListsRead lists bytes rest n → n ≡ count → (others : List (List (List ℕ))) → IsCodingOf bytes count others
    → (lists ≡ others) × (rest ≡ [])
all_read lists bytes rest n count so all others of =
    all_parted coded_list (λ l. IsCodable l) list_parted lists others rest [] so.fit of.codable (so.number ∙ all ∙ sym of.number) (sym so.left ∙ of.coding ∙ sym (append-nil (coded others)))

-- bytes are the coding of one list of lists at most
pub one_to_one : (bytes : List ℕ) (count : ℕ) (xs ys : List (List (List ℕ))) → IsCodingOf bytes count xs → IsCodingOf bytes count ys → xs ≡ ys
one_to_one bytes count xs ys a b = (all_parted coded_list (λ l. IsCodable l) list_parted xs ys [] [] a.codable b.codable (a.number ∙ sym b.number) (cc)).0
