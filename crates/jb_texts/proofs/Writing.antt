-- What several writes in turn append.
use Rattle.std.proofs.Common.{◌≡◌, ℕ, ◌+◌, List, [], ◌∷◌, ◌++◌, map, Option, get_or, length, take, ◌<◌, zero, suc, refl, ap, sym, ◌∙◌, append_assoc, append-nil, add-one, arith, subst}
use Rattle.std.specs.Io.KnownBytes.{Appends}
use Rattle.std.specs.List.{concat, enumerate_from, range_with_len}
use Rattle.jb_cert.specs.declared.plans.Slot.{Slot}
use Rattle.jb_cert.specs.Load.{mcnaughton}
use Rattle.jb_cert.specs.WrapAround.{slots_of_round, wrapped_rounds}
use Rattle.jb_texts.specs.PlanText.{lines_of, round_line}
use Rattle.std.proofs.lemmas.List.FromFn.{get_or-map-range_with_len, map-range_with_len_more}

-- one text by another name
pub appends-text : (a b : Option (List ℕ)) (xs ys : List ℕ) → xs ≡ ys → Appends a b xs → Appends a b ys
appends-text a b xs ys is written = subst (λ text. Appends a b text) is written

pub concat-last : (xss : List (List ℕ)) (xs : List ℕ) → concat (xss ++ xs ∷ []) ≡ concat xss ++ xs
concat-last [] xs = append-nil xs
concat-last (ys ∷ xss) xs = ap (λ zs. ys ++ zs) (concat-last xss xs) ∙ sym (append_assoc ys (concat xss) xs)

-- one lane more
pub lane_more : (f : ℕ → List ℕ) (n : ℕ) → concat (map f (range_with_len 0 (n + 1))) ≡ concat (map f (range_with_len 0 n)) ++ f n
lane_more f n = ap concat (map-range_with_len_more f 0 n n (omega arith)) ∙ concat-last (map f (range_with_len 0 n)) (f n)

-- one round more
numbered_more : {X : Type 0} (n : ℕ) (xs : List X) (k j : ℕ) (d : X) → n + k ≡ j → k < length xs → enumerate_from n (take (suc k) xs) ≡ enumerate_from n (take k xs) ++ (j, get_or xs k d) ∷ []
numbered_more n [] k j d e h = absurd (omega (arith, h))
numbered_more n (x ∷ xs) zero j d e h = let is : n ≡ j = omega (arith, e) in ap (λ m. (m, x) ∷ []) is
numbered_more n (x ∷ xs) (suc k) j d e h = ap (λ ps. (n, x) ∷ ps) (numbered_more (n + 1) xs k j d (omega (arith, e)) (omega (arith, h)))

lines_last : (threads : ℕ) (ps : List (ℕ × List Slot)) (k : ℕ) (round : List Slot) → lines_of threads (ps ++ (k, round) ∷ []) ≡ lines_of threads ps ++ round_line threads k round
lines_last threads [] k round = append-nil (round_line threads k round)
lines_last threads (p ∷ ps) k round =
    ap (λ zs. round_line threads p.0 p.1 ++ zs) (lines_last threads ps k round) ∙ sym (append_assoc (round_line threads p.0 p.1) (lines_of threads ps) (round_line threads k round))

line_more : (threads k : ℕ) (rounds : List (List Slot)) (round : List Slot) → k < length rounds → get_or rounds k round ≡ round
    → lines_of threads (enumerate_from 0 (take (k + 1) rounds)) ≡ lines_of threads (enumerate_from 0 (take k rounds)) ++ round_line threads k round
line_more threads k rounds round h is =
    rw (add-one k) (ap (lines_of threads) (numbered_more 0 rounds k k round (omega arith) h)) ∙ lines_last threads (enumerate_from 0 (take k rounds)) k (get_or rounds k round)
    ∙ ap (λ one. lines_of threads (enumerate_from 0 (take k rounds)) ++ round_line threads k one) is

-- one round of the wrap-around more
pub line-on : (counts : List ℕ) (threads k : ℕ) → k < length (wrapped_rounds counts threads) → k < mcnaughton counts threads
    → lines_of threads (enumerate_from 0 (take (k + 1) (wrapped_rounds counts threads))) ≡ lines_of threads (enumerate_from 0 (take k (wrapped_rounds counts threads))) ++ round_line threads k (slots_of_round counts threads k)
line-on counts threads k within bound =
    line_more threads k (wrapped_rounds counts threads) (slots_of_round counts threads k) within
    (get_or-map-range_with_len (slots_of_round counts threads) 0 (mcnaughton counts threads) k k (slots_of_round counts threads k) bound (omega arith))

-- the lines of the first rounds, and then those of the others
pub lines-split : (threads n k : ℕ) (rounds : List (List Slot)) → (more : List ℕ) × (lines_of threads (enumerate_from n (take k rounds)) ++ more ≡ lines_of threads (enumerate_from n rounds))
lines-split threads n zero rounds = (lines_of threads (enumerate_from n rounds), refl)
lines-split threads n (suc k) [] = ([], refl)
lines-split threads n (suc k) (x ∷ rounds) =
    let rest = lines-split threads (n + 1) k rounds in
    (rest.0, append_assoc (round_line threads n x) (lines_of threads (enumerate_from (n + 1) (take k rounds))) rest.0 ∙ ap (λ zs. round_line threads n x ++ zs) rest.1)
