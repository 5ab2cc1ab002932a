-- Results that are written in turn.
use Rattle.std.proofs.Common.{◌≡◌, ℕ, zero, suc, ◌+◌, ◌<◌, ◌≤◌, List, [], ◌∷◌, ◌++◌, length, length-append, get_or, take, ◌-◌, Result, Err, Ok, Bool, true, false, not, cond, None, Some, refl, ap, sym, subst, ◌∙◌, arith, append_assoc}
use Rattle.std.specs.Prelude.{is_some}
use Rattle.std.specs.List.{find, prefix_len}
use Rattle.std.specs.Option.{option_or}
use Rattle.std.proofs.Math.Seq.{take-suc}
use Rattle.std.proofs.lemmas.List.{get_or_default, length-map, map-append, take_all, length-take-le}
use Rattle.std.proofs.lemmas.List.Folds.{find-append}
use Rattle.jb_base.specs.declared.artifact_error.ArtifactError.{ArtifactError}
use Rattle.jb_base.specs.declared.artifact_error.ArtifactError.TheVariants.{Fault, Memory}
use Rattle.jb_artifacts.specs.declared.faults.FaultPlan.TheVariants.{Sound}
use Rattle.jb_artifacts.specs.Answers.{IfFault, IfNoMemory}
use Rattle.jb_artifacts.specs.Faults.{FaultTable, live, is_live, used_at}
use Rattle.jb_artifacts.specs.Writer.{Texts, Numbered, Writer, texts_of, failing, write_fault, after_write, fault_of, used_for, torn_write, Appends}

-- the first `count` results are appended, none of their records has a live fault, and the plans are unchanged
pub record IsWrittenTo (old : Writer) (results : Numbered) (count : ℕ) (now : Writer) : Type 0 where
  pub sound : failing old.faults (take count results) ≡ None
  pub is : now ≡ record old { written = old.written ++ texts_of (take count results) }

-- the write ended by a fault, or for want of memory
abbrev pub IsStopped : Result (Unit {0}) ArtifactError → Writer → Numbered → Writer → Type 0
IsStopped result old results new =
    IfFault result (λ class. (write_fault old results ≡ Some class) × (new ≡ after_write old results))
    × IfNoMemory result (new ≡ torn_write old results (length new.written))

module _ {X : Type 0} (p : X → Bool) where
  past : (y : X) (ys : List X) (n : ℕ) (x : X) (b : Bool) → p y ≡ b → cond b (Some y) (find p (take n ys)) ≡ None
      → (find p (take n ys) ≡ None → (find p ys ≡ Some x) × (prefix_len (λ y. not (p y)) ys ≡ n))
      → (find p (y ∷ ys) ≡ Some x) × (prefix_len (λ y. not (p y)) (y ∷ ys) ≡ 1 + n)
  past y ys n x true e none more = grind (arith, none)
  past y ys n x false e none more =
      let rest = more none in
      (ap (λ b. cond b (Some y) (find p ys)) e ∙ rest.0, ap (λ b. cond (not b) (1 + prefix_len (λ y. not (p y)) ys) 0) e ∙ ap (λ k. 1 + k) rest.1)

  -- the first `n` don't pass, and the next does
  stops : (xs : List X) (n : ℕ) (x : X) → n < length xs → x ≡ get_or xs n x → find p (take n xs) ≡ None → p x ≡ true
      → (find p xs ≡ Some x) × (prefix_len (λ y. not (p y)) xs ≡ n)
  stops [] n x below is none one = let never : ⊥ = omega (arith, below) in elim never [ ]
  stops (y ∷ ys) zero x below is none one =
      let e = ap p (sym is) ∙ one in
      (ap (λ b. cond b (Some y) (find p ys)) e ∙ ap Some (sym is), ap (λ b. cond (not b) (1 + prefix_len (λ y. not (p y)) ys) 0) e)
  stops (y ∷ ys) (suc n) x below is none one =
      let found = past y ys n x (p y) refl none (λ rest. stops ys n x (omega (arith, below)) is rest one) in
      let one_more : 1 + n ≡ suc n = omega arith in
      (found.0, found.1 ∙ one_more)

  all-at : (y : X) (ys : List X) (b : Bool) → p y ≡ b → cond b (Some y) (find p ys) ≡ None
      → (find p ys ≡ None → prefix_len (λ y. not (p y)) ys ≡ length ys)
      → prefix_len (λ y. not (p y)) (y ∷ ys) ≡ 1 + length ys
  all-at y ys true e none more = grind (arith, none)
  all-at y ys false e none more = ap (λ b. cond (not b) (1 + prefix_len (λ y. not (p y)) ys) 0) e ∙ ap (λ k. 1 + k) (more none)

  -- none passes
  all-fail : (xs : List X) → find p xs ≡ None → prefix_len (λ y. not (p y)) xs ≡ length xs
  all-fail [] none = refl
  all-fail (y ∷ ys) none = let one_more : 1 + length ys ≡ length (y ∷ ys) = omega arith in all-at y ys (p y) refl none (all-fail ys) ∙ one_more

  -- one more doesn't pass
  one-more : (xs : List X) (n : ℕ) (x : X) → n < length xs → x ≡ get_or xs n x → find p (take n xs) ≡ None → p x ≡ false → find p (take (n + 1) xs) ≡ None
  one-more xs n x below is none fails =
      let one_more : n + 1 ≡ suc n = omega arith in
      ap (λ k. find p (take k xs)) one_more ∙ ap (find p) (take-suc xs n x below) ∙ find-append p (take n xs) (get_or xs n x ∷ []) ∙ ap (λ o. option_or o (find p (get_or xs n x ∷ []))) none
      ∙ ap (λ y. find p (y ∷ [])) (sym is) ∙ ap (λ b. cond b (Some x) None) fails

-- as many texts as results
pub length-texts : (xs : Numbered) → length (texts_of xs) ≡ length xs
length-texts xs = length-map xs (λ r. r.1)

module _ (old : Writer) (results : Numbered) (n : ℕ) (now : Writer) (h : IsWrittenTo old results n now) where
  -- the next result is not appended
  stopped-by : (r : ℕ × List ℕ) (error : ArtifactError) (new : Writer) → n < length results → r ≡ get_or results n r → Appends (Err error) r.0 r.1 now new
      → IsStopped (Err error) old results new
  stopped-by r Memory new below is left =
      let count : length new.written ≡ length old.written + length (take n results) =
      ap (λ (w : Writer). length w.written) (left ∙ h.is) ∙ length-append old.written (texts_of (take n results))
      ∙ ap (λ k. length old.written + k) (length-texts (take n results)) in
      let taken : length (take n results) ≡ n = length-take-le n results (omega (arith, below)) in
      let grown : length new.written - length old.written ≡ n = omega (arith, count, taken) in
      (tt, left ∙ h.is ∙ (λ i. record old { written = old.written ++ texts_of (take (sym grown i) results) }))
  stopped-by r (Fault class) new below is left =
      let here : live (old.faults r.0) ≡ Some class = ap (λ (w : Writer). live (w.faults r.0)) (sym h.is) ∙ left.0 in
      let found = stops (λ r. is_live old.faults r.0) results n r below is h.sound (ap is_some here) in (
        (
          ap (fault_of old.faults) found.0 ∙ here,
          left.1 ∙ ap (λ (w : Writer). record w { faults = used_at w.faults r.0 }) h.is
              ∙ (λ i. record { written = old.written ++ texts_of (take (sym found.1 i) results); faults = used_for old.faults (sym found.0 i) }),
        ),
        tt,
      )

  pub stopped : (r : ℕ × List ℕ) (error : ArtifactError) (result : Result (Unit {0}) ArtifactError) (new : Writer) → result ≡ Err error
      → n < length results → r ≡ get_or results n r → Appends (Err error) r.0 r.1 now new → IsStopped result old results new
  stopped r error result new told below is left =
      let Left : Result (Unit {0}) ArtifactError → Type 0 = λ x. IsStopped x old results new in
      subst Left (sym told) (stopped-by r error new below is left)

  -- the next result is appended
  pub written-more : (r : ℕ × List ℕ) (done : Unit {0}) (new : Writer) → n < length results → r ≡ get_or results n r → Appends (Ok done) r.0 r.1 now new
      → IsWrittenTo old results (n + 1) new
  written-more r done new below is left =
      let one_more : n + 1 ≡ suc n = omega arith in
      let here : live (old.faults r.0) ≡ None = ap (λ (w : Writer). live (w.faults r.0)) (sym h.is) ∙ left.0 in
      let texts : old.written ++ texts_of (take n results) ++ r.1 ∷ [] ≡ old.written ++ texts_of (take (n + 1) results) =
      append_assoc old.written (texts_of (take n results)) (r.1 ∷ [])
      ∙ ap (λ (x : ℕ × List ℕ). old.written ++ (texts_of (take n results) ++ x.1 ∷ [])) is
      ∙ ap (λ t. old.written ++ t) (sym (map-append (λ (x : ℕ × List ℕ). x.1) (take n results) (get_or results n r ∷ [])))
      ∙ ap (λ rs. old.written ++ texts_of rs) (sym (take-suc results n r below))
      ∙ ap (λ k. old.written ++ texts_of (take k results)) (sym one_more) in
      record {
        sound = one-more (λ r. is_live old.faults r.0) results n r below is h.sound (ap is_some here);
        is = left.1 ∙ ap (λ (w : Writer). record w { written = w.written ++ r.1 ∷ [] }) h.is ∙ (λ i. record old { written = texts i });
      }

  -- the same two, of the number and the text that a call was given
  pub stopped-at : (number : ℕ) (text : List ℕ) (error : ArtifactError) (result : Result (Unit {0}) ArtifactError) (new : Writer) → result ≡ Err error
      → n < length results → number ≡ (get_or results n (0, [])).0 → text ≡ (get_or results n (0, [])).1 → Appends (Err error) number text now new
      → IsStopped result old results new
  stopped-at number text error result new told below number_is text_is left =
      let r : ℕ × List ℕ = get_or results n (0, []) in
      stopped r error result new told below (get_or_default results n (0, []) r below)
      (subst (λ (x : ℕ × List ℕ). Appends (Err error) x.0 x.1 now new) (λ i. (number_is i, text_is i)) left)

  pub written-at : (number : ℕ) (text : List ℕ) (done : Unit {0}) (new : Writer) → n < length results → number ≡ (get_or results n (0, [])).0
      → text ≡ (get_or results n (0, [])).1 → Appends (Ok done) number text now new → IsWrittenTo old results (n + 1) new
  written-at number text done new below number_is text_is left =
      let r : ℕ × List ℕ = get_or results n (0, []) in
      written-more r done new below (get_or_default results n (0, []) r below) (subst (λ (x : ℕ × List ℕ). Appends (Ok done) x.0 x.1 now new) (λ i. (number_is i, text_is i)) left)

  -- all are appended
  pub all-written : length results ≤ n → n ≤ length results → (write_fault old results ≡ None) × (now ≡ after_write old results)
  all-written ended within =
      let at_end : n ≡ length results = omega (arith, ended, within) in
      let whole : take n results ≡ results = take_all n results ended in
      let none : failing old.faults results ≡ None = ap (failing old.faults) (sym whole) ∙ h.sound in
      let count : n ≡ prefix_len (λ r. not (is_live old.faults r.0)) results = at_end ∙ sym (all-fail (λ r. is_live old.faults r.0) results none) in (
        ap (fault_of old.faults) none,
        h.is ∙ (λ i. record { written = old.written ++ texts_of (take (count i) results); faults = used_for old.faults (sym none i) }),
      )

all-sound : (results : Numbered) → failing (λ _. Sound) results ≡ None
all-sound [] = refl
all-sound (r ∷ results) = all-sound results

-- where no record has a plan, all are appended at once
pub at-once : (written now : Texts) (plans : FaultTable) (results : Numbered) → plans ≡ (λ _. Sound) → now ≡ written ++ texts_of results
    → (write_fault (record { written = written; faults = plans }) results ≡ None)
    × (record { written = now; faults = plans } ≡ after_write (record { written = written; faults = plans }) results)
at-once written now plans results sound is =
    let count : ℕ = length results in
    let whole : take count results ≡ results = take_all count results (omega arith) in
    all-written (record { written = written; faults = plans }) results count (record { written = now; faults = plans })
    (record {
      sound = ap (failing plans) whole ∙ ap (λ plans. failing plans results) sound ∙ all-sound results;
      is = λ i. record { written = (is ∙ ap (λ rs. written ++ texts_of rs) (sym whole)) i; faults = plans };
    })
    (omega arith) (omega arith)
