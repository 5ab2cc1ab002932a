use Rattle.std.{proofs.Common.{◌≡◌, map, rules, sym, subst, take_all, ℕ, ◌<◌, ◌+◌, true, false, List, length, take, get_or, inl, inr, ◌∙◌}, specs.List.{Contains}, proofs.lemmas.List.{map_more, get_or-map, length-map}, proofs.lemmas.List.Elements.{Contains-push_cases}}
use Rattle.jb_slice_run.proofs.lists.is_among.Goals as goal

module _ {A : Type 0} (f : A → List ℕ) (xs : List A) (i : ℕ) (d : A) (s text : List ℕ) (at : s ≡ f (get_or xs i d)) (within : i < length xs) where
  among_here : s ≡ text → Contains (map f xs) text
  among_here same = (i, subst (λ n. i < n) (sym (length-map xs f)) within, get_or-map f xs i d text within ∙ sym at ∙ same)

  among_more : (Contains (map f (take i xs)) text → ⊥) → (s ≡ text → ⊥) → Contains (map f (take (i + 1) xs)) text → ⊥
  among_more none other has =
      elim (Contains-push_cases (map f (take i xs)) (f (get_or xs i d)) text (subst (λ (l : List (List ℕ)). Contains l text) (map_more f xs i d within) has)) [
        | inl before ↦ none before
        | inr here ↦ other (at ∙ here)
      ]

pub returns-then-eq : goal.returns-then-eq
returns-then-eq c =
    let same : c.as_bytes.result.now ≡ c.args.text.now = search rules in
    among_here (λ stamp. stamp.now) c.args.stamps.now c.loop-stamp.stamp-index _ c.as_bytes.result.now c.args.text.now c.as_bytes.ensures.value c.loop-stamp-test.true same

pub loop-stamp-preserved : goal.loop-stamp-preserved
loop-stamp-preserved c =
    let other : c.as_bytes.result.now ≡ c.args.text.now → ⊥ = search rules in
    among_more (λ stamp. stamp.now) c.args.stamps.now c.loop-stamp.stamp-index _ c.as_bytes.result.now c.args.text.now c.as_bytes.ensures.value c.loop-stamp-test.true c.loop-stamp.invariant other

pub returns : goal.returns
returns c has =
    c.loop-stamp.invariant (subst (λ l. Contains (map (λ stamp. stamp.now) l) c.args.text.now) (sym (take_all c.loop-stamp.stamp-index c.args.stamps.now c.loop-stamp-test.false)) has)
