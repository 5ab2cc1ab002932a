-- The first bytes of a text, and its byte order mark.
use Rattle.std.proofs.Common.{◌≡◌, ◌≤◌, ◌<◌, ◌++◌, ◌∷◌, [], ℕ, Bool, true, false, List, Option, Some, None, refl, ap, sym, length, take, drop, get_or, take-add, ◌+◌, inl, inr, append_assoc, arith, ◌∙◌}
use Rattle.std.specs.Prelude.{option_map}
use Rattle.std.specs.Io.KnownBytes.{Consumes, IsAtEnd, Keeps, prepend_known}
use Rattle.std.proofs.lemmas.Bool.{cases_lt}
use Rattle.std.proofs.lemmas.List.{append-nil, drop_at, length-take-le, take-append-le}
use Rattle.std.proofs.lemmas.Slice.{take-put_mid_below}
use borrow.Rule.Slice.PartMut.{put_mid}
use Rattle.csv.specs.Reading.{is_bom, strip_bom}

pub mark-goes : (xs : List ℕ) → 3 ≤ length xs → is_bom (get_or xs 0 0) (get_or xs 1 0) (get_or xs 2 0) ≡ true → drop 3 xs ≡ strip_bom xs
unfolding strip_bom
mark-goes [] long is = absurd (omega arith)
mark-goes (a ∷ []) long is = absurd (omega arith)
mark-goes (a ∷ b ∷ []) long is = absurd (omega arith)
mark-goes (a ∷ b ∷ c ∷ rest) long is = rw is refl

pub no-mark : (xs : List ℕ) → 3 ≤ length xs → is_bom (get_or xs 0 0) (get_or xs 1 0) (get_or xs 2 0) ≡ false → xs ≡ strip_bom xs
unfolding strip_bom
no-mark [] long is = absurd (omega arith)
no-mark (a ∷ []) long is = absurd (omega arith)
no-mark (a ∷ b ∷ []) long is = absurd (omega arith)
no-mark (a ∷ b ∷ c ∷ rest) long is = rw is refl

pub short-stays : (xs : List ℕ) → length xs < 3 → xs ≡ strip_bom xs
unfolding strip_bom
short-stays [] short = refl
short-stays (a ∷ []) short = refl
short-stays (a ∷ b ∷ []) short = refl
short-stays (a ∷ b ∷ c ∷ rest) short = absurd (omega arith)

-- three bytes at least show the mark
strip-front : (front behind : List ℕ) → 3 ≤ length front → strip_bom (front ++ behind) ≡ strip_bom front ++ behind
unfolding strip_bom
strip-front [] behind long = absurd (omega arith)
strip-front (a ∷ []) behind long = absurd (omega arith)
strip-front (a ∷ b ∷ []) behind long = absurd (omega arith)
strip-front (a ∷ b ∷ c ∷ rest) behind long = by (is_bom a b c) refl
  where
    by : (t : Bool) → is_bom a b c ≡ t → strip_bom (a ∷ b ∷ c ∷ rest ++ behind) ≡ strip_bom (a ∷ b ∷ c ∷ rest) ++ behind
    by true e = rw e refl
    by false e = rw e refl

-- bytes that were read at the start, three at least if there are as many
pub opened : (old new : Option (List ℕ)) (read kept : List ℕ) → Consumes old new read → (length read < 3 → IsAtEnd new) → kept ≡ strip_bom read
    → Keeps (option_map strip_bom old) (prepend_known kept new)
opened None new read kept consumed ends is = tt
opened (Some xs) None read kept consumed ends is = consumed
opened (Some xs) (Some ys) read kept consumed ends is = elim (cases_lt (length read) 3) [
  | inl short ↦
      let none : ys ≡ [] = ends short in
      rw (consumed, none, append-nil kept, append-nil read) is
  | inr long ↦ rw (consumed, strip-front read ys long) (ap (λ front. front ++ ys) is)
]

-- bytes that were read, and then more
pub consumed-more : (a b c : Option (List ℕ)) (x y both : List ℕ) → Consumes a b x → Consumes b c y → both ≡ x ++ y → Consumes a c both
consumed-more None b c x y both f g is = tt
consumed-more (Some xs) None c x y both f g is = absurd f
consumed-more (Some xs) (Some ys) None x y both f g is = g
consumed-more (Some xs) (Some ys) (Some zs) x y both f g is = rw (f, g, is) (sym (append_assoc x y zs))

pub consumed-none : (a : Option (List ℕ)) → Consumes a a []
consumed-none None = tt
consumed-none (Some xs) = refl

-- the bytes that a read put behind the first ones of a buffer
pub behind-read : (filled room count : ℕ) (buffer part : List ℕ) → filled ≤ length buffer → count ≤ length part
    → take (filled + count) (put_mid filled room buffer part) ≡ take filled buffer ++ take count part
behind-read filled room count buffer part within few =
    take-add filled count (put_mid filled room buffer part)
    ∙ ap (λ front. front ++ take count (drop filled (put_mid filled room buffer part))) (take-put_mid_below filled room buffer part filled (omega arith) within)
    ∙ ap (λ later. take filled buffer ++ take count later) (drop_at (take filled buffer) (part ++ drop room (drop filled buffer)) filled (length-take-le filled buffer within))
    ∙ ap (λ later. take filled buffer ++ later) (take-append-le count part (drop room (drop filled buffer)) few)
