-- What a write leaves of a chunk's results.
use Rattle.std.proofs.Common.{◌≡◌, ℕ, ◌≤◌, ◌+◌, suc, not, cond, List, [], ◌∷◌, ◌++◌, length, length-append, take, take_all, Option, Some, None, is_some, refl, ap, ◌∙◌, arith}
use Rattle.std.specs.List.{take_while, prefix_len}
use Rattle.std.proofs.lemmas.Grind.{common_steps}
use Rattle.jb_base.specs.declared.class.ClassId.{ClassId}
use Rattle.jb_artifacts.specs.Faults.{FaultTable, live, is_live}
use Rattle.jb_artifacts.specs.Writer.{Texts, Numbered, Writer, texts_of, cut, failing, fault_of, write_fault, after_write}
use Rattle.jb_artifacts.proofs.Writing.{length-texts}

sound-first : (plans : FaultTable) (x : ℕ × List ℕ) (xs : Numbered) (n : ℕ) (o : Option ClassId) → fault_of plans (cond (is_some o) (Some x) (failing plans xs)) ≡ None → live (plans x.0) ≡ o → (fault_of plans (failing plans xs) ≡ None → take n xs ≡ xs) → take (cond (not (is_some o)) (1 + n) 0) (x ∷ xs) ≡ x ∷ xs
sound-first plans x xs n None e at more =
    let one : 1 + n ≡ suc n = omega arith in
    ap (λ k. take k (x ∷ xs)) one ∙ ap (λ ys. x ∷ ys) (more e)
sound-first plans x xs n (Some class) e at more = cc

-- where no result's record has a live fault, all are written
sound-write : (plans : FaultTable) (xs : Numbered) → fault_of plans (failing plans xs) ≡ None → take_while (λ r. not (is_live plans r.0)) xs ≡ xs
sound-write plans [] e = refl
sound-write plans (x ∷ xs) e = sound-first plans x xs (prefix_len (λ r. not (is_live plans r.0)) xs) (live (plans x.0)) e refl (sound-write plans xs)

-- so a write with no fault puts them behind what was written,
pub whole-written : (w : Writer) (found : Numbered) → write_fault w found ≡ None → (after_write w found).written ≡ w.written ++ texts_of found
whole-written w found e = ap (λ xs. w.written ++ texts_of xs) (sound-write w.faults found e)

pub whole-long : (w : Writer) (found : Numbered) → write_fault w found ≡ None → length (after_write w found).written ≡ length w.written + length found
whole-long w found e =
    let same = ap length (whole-written w found e) in
    omega (arith, same, length-append w.written (texts_of found), length-texts found)

-- and all are kept where as many are
pub whole-kept : (w : Writer) (found : Numbered) (n : ℕ) → length w.written ≡ n → write_fault w found ≡ None → cut (after_write w found) (n + length found) ≡ after_write w found
whole-kept w found n e none =
    let long = whole-long w found none in
    let all = take_all (n + length found) (after_write w found).written (omega (arith, long, e)) in
    λ i. record (after_write w found) { written = all i }

pub take-front : (xs ys : Texts) (n : ℕ) → length xs ≡ n → take n (xs ++ ys) ≡ xs
take-front xs ys n e = grind (arith, common_steps)

pub front-longer : (xs ys : Texts) → length xs ≤ length (xs ++ ys)
front-longer xs ys = grind (arith, common_steps)

pub front-kept : (xs ys : Texts) (n m : ℕ) → length xs ≡ n → n ≤ m → take n (take m (xs ++ ys)) ≡ xs
front-kept xs ys n m e le = grind (arith, common_steps)
