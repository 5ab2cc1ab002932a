-- What a reader of a text passes on its way.
use Rattle.std.proofs.Common.{◌≡◌, ◌+◌, ◌++◌, ◌∷◌, ◌∙◌, [], ℕ, true, List, Option, Some, None, refl, ap, sym, take, drop, append_assoc, arith}
use Rattle.std.specs.Prelude.{count_by, if◌then◌else◌}
use Rattle.std.specs.Io.Iter.{u64_saturate}
use Rattle.std.specs.Io.KnownBytes.{IsAtEnd, Keeps, prepend_known}
use Rattle.std.proofs.lemmas.List.{append-nil, take-append-drop}
use Rattle.std.proofs.lemmas.List.Sums.{sum_by-append}
use Rattle.jb_rows.specs.Bytes.{BeginsRecord, is_line_feed, line_after}
use Rattle.jb_rows.specs.Passing.{Counts, Passes}
use Rattle.jb_rows.specs.Source.{unread}
use Rattle.jb_rows.specs.declared.byte_source.ByteSource.{ByteSource}
use Rattle.jb_rows.specs.declared.text_reader.TextReader.{TextReader}

-- ---- LINES

pub feeds-of-both : (x y : List ℕ) → count_by is_line_feed (x ++ y) ≡ count_by is_line_feed x + count_by is_line_feed y
feeds-of-both x y = sum_by-append (λ byte. if is_line_feed byte then 1 else 0) x y

-- the line after some bytes, and then after more
line-after-more : (line line2 : ℕ) (x y : List ℕ) → line ≡ line_after x → line2 ≡ u64_saturate (line + count_by is_line_feed y) → line2 ≡ line_after (x ++ y)
line-after-more line line2 x y e f = let both = feeds-of-both x y in omega (arith, e, f, both)

counts-none : (line : ℕ) → Counts line line []
counts-none line before is = is ∙ ap line_after (sym (append-nil before))

counts-more : (a b c : ℕ) (x y : List ℕ) → Counts a b x → c ≡ u64_saturate (b + count_by is_line_feed y) → Counts a c (x ++ y)
counts-more a b c x y counts e before is = line-after-more b c (before ++ x) y (counts before is) e ∙ ap line_after (append_assoc before x y)

-- ---- THE BYTES THAT ARE LEFT

pub kept : (a b : Option (List ℕ)) (xs : List ℕ) → Keeps a b → a ≡ Some xs → b ≡ Some xs
kept None b xs k is = cc is
kept (Some x) None xs k is = absurd k
kept (Some x) (Some y) xs k is = ap Some k ∙ is

pub keeps-same : (a : Option (List ℕ)) → Keeps a a
keeps-same None = tt
keeps-same (Some xs) = refl

pub none-left : (a : Option (List ℕ)) (xs : List ℕ) → IsAtEnd a → a ≡ Some xs → xs ≡ []
none-left None xs ends is = cc is
none-left (Some x) xs ends is = let same : x ≡ xs = cc in sym same ∙ ends

known-front : (front : List ℕ) (known : Option (List ℕ)) (xs : List ℕ) → prepend_known front known ≡ Some xs → (later : List ℕ) × (known ≡ Some later) × (xs ≡ front ++ later)
known-front front None xs is = cc is
known-front front (Some ys) xs is = (ys, refl, cc)

unread-begun : {R : Type 0} (remaining : R → Option (List ℕ)) (source : ByteSource R) → source.is_begun ≡ true → unread remaining source ≡ prepend_known source.window (remaining source.stream)
unread-begun remaining source begun = rw begun refl

-- the bytes at hand are the first ones of those that are left
pub at-hand : {R : Type 0} (remaining : R → Option (List ℕ)) (source : ByteSource R) (left : List ℕ) → source.is_begun ≡ true → unread remaining source ≡ Some left
    → (later : List ℕ) × (left ≡ source.window ++ later)
at-hand remaining source left begun is =
    let k = known-front source.window (remaining source.stream) left (sym (unread-begun remaining source begun) ∙ is) in
    (k.0, k.2)

part-split : (count : ℕ) (window later left : List ℕ) → left ≡ window ++ later → left ≡ take count window ++ (drop count window ++ later)
part-split count window later left is = is ∙ ap (λ front. front ++ later) (sym (take-append-drop count window)) ∙ append_assoc (take count window) (drop count window) later

-- so many of them are taken away
taken-off : {R : Type 0} (remaining : R → Option (List ℕ)) (source : ByteSource R) (left : List ℕ) (count : ℕ) → source.is_begun ≡ true → unread remaining source ≡ Some left
    → (later : List ℕ) × (left ≡ take count source.window ++ later) × (unread remaining (record source { window = drop count source.window }) ≡ Some later)
taken-off remaining source left count begun is =
    let k = known-front source.window (remaining source.stream) left (sym (unread-begun remaining source begun) ∙ is) in (
      drop count source.window ++ k.0,
      part-split count source.window k.0 left k.2,
      unread-begun remaining (record source { window = drop count source.window }) begun ∙ ap (prepend_known (drop count source.window)) k.1,
    )

pub begins-more : (bytes later : List ℕ) → BeginsRecord bytes → BeginsRecord (bytes ++ later)
begins-more [] later begins = absurd begins
begins-more (byte ∷ bytes) later begins = begins

-- ---- PASSED

pub passed-none : {R : Type 0} (remaining : R → Option (List ℕ)) (reader : TextReader R) (left : List ℕ) → unread remaining reader.source ≡ Some left
    → Passes remaining reader reader left [] left
passed-none remaining reader left is = (refl, is, counts-none reader.line)

-- bytes were passed, and then more
pub passed-more : {R : Type 0} (remaining : R → Option (List ℕ)) (old middle new : TextReader R) (left x y later rest : List ℕ) → Passes remaining old middle left x later
    → later ≡ y ++ rest → unread remaining new.source ≡ Some rest → new.line ≡ u64_saturate (middle.line + count_by is_line_feed y)
    → Passes remaining old new left (x ++ y) rest
passed-more remaining old middle new left x y later rest passed split is line =
    (passed.0 ∙ ap (λ behind. x ++ behind) split ∙ sym (append_assoc x y rest), is, counts-more old.line middle.line new.line x y passed.2 line)

-- the source was filled, and bytes were passed
pub step-on : {R : Type 0} (remaining : R → Option (List ℕ)) (old middle new : TextReader R) (filled : ByteSource R) (left x later : List ℕ) (count : ℕ) → Passes remaining old middle left x later
    → Keeps (unread remaining middle.source) (unread remaining filled) → filled.is_begun ≡ true → new.source ≡ record filled { window = drop count filled.window }
    → new.line ≡ u64_saturate (middle.line + count_by is_line_feed (take count filled.window))
    → (rest : List ℕ) × Passes remaining old new left (x ++ take count filled.window) rest
step-on remaining old middle new filled left x later count passed keeps begun source line =
    let now = kept (unread remaining middle.source) (unread remaining filled) later keeps passed.1 in
    let off = taken-off remaining filled later count begun now in
    (off.0, passed-more remaining old middle new left x (take count filled.window) later off.0 passed off.1 (ap (unread remaining) source ∙ off.2) line)

-- the source was filled, and nothing was passed
pub step-none : {R : Type 0} (remaining : R → Option (List ℕ)) (old middle new : TextReader R) (left x later : List ℕ) → Passes remaining old middle left x later
    → Keeps (unread remaining middle.source) (unread remaining new.source) → new.line ≡ middle.line → Passes remaining old new left x later
step-none remaining old middle new left x later passed keeps line =
    (passed.0, kept (unread remaining middle.source) (unread remaining new.source) later keeps passed.1, λ before is. line ∙ passed.2 before is)
