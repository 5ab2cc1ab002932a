-- Texts of which a writer took the front.
use Rattle.std.proofs.Common.{◌≡◌, ℕ, zero, suc, ◌+◌, ◌-◌, zero-add, List, [], ◌∷◌, ◌++◌, Option, length, take, drop, ap, sym, subst, ◌∙◌, append_assoc, append-nil, length-drop, arith, Result, Ok, Err, OnErr}
use Rattle.std.proofs.KnownBytes.{Appends-kept, Appends-nil, Appends-trans}
use Rattle.std.proofs.lemmas.List.{take_all}
use Rattle.std.specs.Io.KnownBytes.{Appends, Keeps}
use Rattle.jb_texts.specs.Front.{AppendsFront}
use Rattle.jb_texts.specs.inside.Parts.{PassesOn}

-- some of the text was written, and then the front of what follows it
pub front-after : (a b c : Option (List ℕ)) (before xs rest text : List ℕ) → Appends a b before → AppendsFront b c xs → before ++ xs ++ rest ≡ text → AppendsFront a c text
front-after a b c before xs rest text first front is = (
  before ++ front.0,
  front.1 ++ rest,
  Appends-trans a b c before front.0 first front.2,
  sym is ∙ ap (λ zs. before ++ zs ++ rest) front.3 ∙ ap (λ zs. zs ++ rest) (sym (append_assoc before front.0 front.1)) ∙ append_assoc (before ++ front.0) front.1 rest,
)

-- and then nothing more
pub front-kept : (a b c : Option (List ℕ)) (before rest text : List ℕ) → Appends a b before → Keeps b c → before ++ rest ≡ text → AppendsFront a c text
front-kept a b c before rest text first kept is = (before, rest, Appends-kept a b c before first kept, sym is)

-- ---- a text that is passed on in blocks: before and what is so far are passed on or wait, and more is to come

-- the wait grows by a line
pub waits-more : (passed waiting longer line before sofar next : List ℕ) → passed ++ waiting ≡ before ++ sofar → longer ≡ waiting ++ line → next ≡ sofar ++ line → passed ++ longer ≡ before ++ next
waits-more passed waiting longer line before sofar next is grown more =
    ap (λ zs. passed ++ zs) grown ∙ sym (append_assoc passed waiting line) ∙ ap (λ zs. zs ++ line) is ∙ append_assoc before sofar line ∙ ap (λ zs. before ++ zs) (sym more)

with-more : (passed waiting before sofar more all : List ℕ) → passed ++ waiting ≡ before ++ sofar → sofar ++ more ≡ all → passed ++ waiting ++ more ≡ before ++ all
with-more passed waiting before sofar more all is whole = ap (λ zs. zs ++ more) is ∙ append_assoc before sofar more ∙ ap (λ zs. before ++ zs) whole

-- what waits isn't written
pub front-waiting : (a b : Option (List ℕ)) (passed waiting before sofar more all : List ℕ) → Appends a b passed → passed ++ waiting ≡ before ++ sofar → sofar ++ more ≡ all → AppendsFront a b (before ++ all)
front-waiting a b passed waiting before sofar more all first is whole =
    (passed, waiting ++ more, first, sym (with-more passed waiting before sofar more all is whole) ∙ append_assoc passed waiting more)

-- of what waits the front is written
pub front-passing : (a b c : Option (List ℕ)) (passed waiting before sofar more all : List ℕ) → Appends a b passed → AppendsFront b c waiting → passed ++ waiting ≡ before ++ sofar → sofar ++ more ≡ all → AppendsFront a c (before ++ all)
front-passing a b c passed waiting before sofar more all first front is whole =
    front-after a b c passed waiting more (before ++ all) first front (with-more passed waiting before sofar more all is whole)

-- ---- bytes of a list

-- bytes and then some of those behind them
pub take-then : (w n : ℕ) (xs : List ℕ) → take w xs ++ take n (drop w xs) ≡ take (w + n) xs
take-then zero n xs = ap (λ m. take m xs) (sym (zero-add n))
take-then (suc w) n [] = take_all n [] (omega arith) ∙ sym (take_all (suc w + n) [] (omega arith))
take-then (suc w) n (x ∷ xs) = let on : suc w + n ≡ suc (w + n) = omega arith in ap (λ zs. x ∷ zs) (take-then w n xs) ∙ ap (λ k. take k (x ∷ xs)) (sym on)

-- all bytes from a place on
pub all-from : (w : ℕ) (xs : List ℕ) → take (length xs - w) (drop w xs) ≡ drop w xs
all-from w xs = take_all (length xs - w) (drop w xs) (omega (arith, length-drop w xs))

-- what holds where there is an error
pub on-err : {T E P : Type 0} (r : Result T E) → P → OnErr r P
on-err (Ok x) p = tt
on-err (Err e) p = p

-- ---- a block of which the first bytes are passed on

-- so far none
pub passes-none : (a : Option (List ℕ)) (block text : List ℕ) → text ≡ [] → PassesOn a a block text block
passes-none a block text none = ([], Appends-nil a, ap (λ zs. block ++ zs) none ∙ append-nil block)

-- first one text, and then the next
pub passes-then : (a b c : Option (List ℕ)) (block text between next left : List ℕ) → PassesOn a b block text between → PassesOn b c between next left → PassesOn a c block (text ++ next) left
passes-then a b c block text between next left first second = (
  first.0 ++ second.0,
  Appends-trans a b c first.0 second.0 first.1 second.1,
  sym (append_assoc block text next) ∙ ap (λ zs. zs ++ next) first.2 ∙ append_assoc first.0 between next ∙ ap (λ zs. first.0 ++ zs) second.2 ∙ sym (append_assoc first.0 second.0 left),
)

-- a text was put behind the block, of which the first bytes were passed on
pub passes-put : (a b : Option (List ℕ)) (block text longer left : List ℕ) → longer ≡ block ++ text → (passed : List ℕ) × Appends a b passed × (longer ≡ passed ++ left) → PassesOn a b block text left
passes-put a b block text longer left put passed = (passed.0, passed.1, sym put ∙ passed.2)

-- and then the front of what is left and of the next text
pub front-passed : (a b c : Option (List ℕ)) (block text left next rest all : List ℕ) → PassesOn a b block text left → AppendsFront b c (left ++ next) → text ++ (next ++ rest) ≡ all → AppendsFront a c (block ++ all)
front-passed a b c block text left next rest all first front is =
    front-after a b c first.0 (left ++ next) rest (block ++ all) first.1 front
    (append_assoc first.0 (left ++ next) rest ∙ ap (λ zs. first.0 ++ zs) (append_assoc left next rest) ∙ sym (append_assoc first.0 left (next ++ rest))
    ∙ ap (λ zs. zs ++ (next ++ rest)) (sym first.2) ∙ append_assoc block text (next ++ rest) ∙ ap (λ zs. block ++ zs) is)

-- and then nothing more
pub front-stopped : (a b : Option (List ℕ)) (block text left rest all : List ℕ) → PassesOn a b block text left → text ++ rest ≡ all → AppendsFront a b (block ++ all)
front-stopped a b block text left rest all first is =
    (first.0, left ++ rest, first.1, ap (λ zs. block ++ zs) (sym is) ∙ sym (append_assoc block text rest) ∙ ap (λ zs. zs ++ rest) first.2 ∙ append_assoc first.0 left rest)

-- and then all that is left, or the front of it
pub whole-passed : (a b c : Option (List ℕ)) (block text left : List ℕ) → PassesOn a b block text left → Appends b c left → Appends a c (block ++ text)
whole-passed a b c block text left first written = subst (λ zs. Appends a c zs) (sym first.2) (Appends-trans a b c first.0 left first.1 written)

pub front-left : (a b c : Option (List ℕ)) (block text left : List ℕ) → PassesOn a b block text left → AppendsFront b c left → AppendsFront a c (block ++ text)
front-left a b c block text left first front = front-after a b c first.0 left [] (block ++ text) first.1 front (append-nil (first.0 ++ left) ∙ sym first.2)

-- the front of a text is the front of a longer one
pub front-longer : (a b : Option (List ℕ)) (text rest all : List ℕ) → AppendsFront a b text → text ++ rest ≡ all → AppendsFront a b all
front-longer a b text rest all front is = (front.0, front.1 ++ rest, front.2, sym is ∙ ap (λ zs. zs ++ rest) front.3 ∙ append_assoc front.0 front.1 rest)
