-- Lists of strings as bytes: a public format (own choice).
use Rattle.std.specs.Prelude.{ℕ, ◌≡◌, ◌<◌, ◌^◌, List, ◌++◌, length, flat_map}
use Rattle.std.specs.Int.{w32, to_le_bytes}
use Rattle.std.specs.List.{AllByRecursion}

-- a number below 2^32 in four bytes, the lowest first
unfoldable pub coded_number : ℕ → List ℕ
coded_number n = to_le_bytes w32 n

-- a string: its length, and its bytes
abbrev pub coded_string : List ℕ → List ℕ
coded_string s = coded_number (length s) ++ s

abbrev pub coded_strings : List (List ℕ) → List ℕ
coded_strings list = flat_map coded_string list

-- a list: how many strings it has, and each of them
abbrev pub coded_list : List (List ℕ) → List ℕ
coded_list list = coded_number (length list) ++ coded_strings list

-- THE CODING of lists: one after the other
abbrev pub coded : List (List (List ℕ)) → List ℕ
coded lists = flat_map coded_list lists

-- the numbers fit in their bytes
abbrev pub IsShort : {A : Type 0} → List A → Type 0
IsShort s = length s < 2 ^ 32

pub record IsCodable (list : List (List ℕ)) : Type 0 where
  pub few : IsShort list
  pub short : AllByRecursion (λ s. IsShort s) list

abbrev pub AreCodable : List (List (List ℕ)) → Type 0
AreCodable lists = AllByRecursion (λ list. IsCodable list) lists

-- these bytes are the coding of these lists, `count` in number
pub record IsCodingOf (bytes : List ℕ) (count : ℕ) (lists : List (List (List ℕ))) : Type 0 where
  pub codable : AreCodable lists
  pub coding : bytes ≡ coded lists
  pub number : length lists ≡ count

-- ---- while bytes are read

-- `count` values with such codes were read; `rest` is left
pub record AreRead {A : Type 0} (code : A → List ℕ) (Fits : A → Type 0) (all : List A) (bytes rest : List ℕ) (count : ℕ) : Type 0 where
  pub number : length all ≡ count
  pub fit : AllByRecursion Fits all
  pub left : bytes ≡ flat_map code all ++ rest

-- these are strings, or lists
abbrev pub AreStringsRead : (strings : List (List ℕ)) → (bytes rest : List ℕ) → (count : ℕ) → Type 0
AreStringsRead strings bytes rest count = AreRead coded_string (λ s. IsShort s) strings bytes rest count

abbrev pub AreListsRead : (lists : List (List (List ℕ))) → (bytes rest : List ℕ) → (count : ℕ) → Type 0
AreListsRead lists bytes rest count = AreRead coded_list (λ list. IsCodable list) lists bytes rest count

-- a list was read
pub record IsListRead (list : List (List ℕ)) (bytes rest : List ℕ) : Type 0 where
  pub codable : IsCodable list
  pub left : bytes ≡ coded_list list ++ rest
