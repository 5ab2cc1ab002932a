use Rattle.std.{proofs.Common.{◌≡◌, ◌∷◌, [], List, ℕ, Option, Some, map, slice_get, ap, subst, sym, ◌∙◌, zero, suc, Bool, true, false, arith}, specs.Bool.{MatchBool}, specs.List.{Contains}, proofs.lemmas.List.Elements.{Contains-append_right}}
use Rattle.jb_slice_run.proofs.lists.has_stamp.Goals as goal

contains_less : (o h : List ℕ) (xs : List (List ℕ)) → (o ≡ h → ⊥) → Contains (o ∷ xs) h → Contains xs h
contains_less o h xs other (zero, within, is) = absurd (other is)
contains_less o h xs other (suc k, within, is) = (k, omega (arith, within), is)

behind_own : (o h : List ℕ) (xs : List (List ℕ)) (b : Bool) → (o ≡ h → ⊥) → MatchBool b (Contains xs h) (Contains xs h → ⊥) → MatchBool b (Contains (o ∷ xs) h) (Contains (o ∷ xs) h → ⊥)
behind_own o h xs true other has = Contains-append_right (o ∷ []) xs h has
behind_own o h xs false other hasnt = λ has. hasnt (contains_less o h xs other has)

pub returns-in-Some : goal.returns-in-Some
returns-in-Some c o h own held =
    let xs = map (λ stamp. stamp.now) c.args.stamps.now in
    let first : ◌≡◌ {A = Option (List ℕ)} (Some c.in-Some.text.now) (slice_get (h ∷ []) 0) = c.in-Some.ensures ∙ ap (λ (l : List (List ℕ)). slice_get l 0) held in
    let text : c.in-Some.text.now ≡ h = cc in
    behind_own o h xs c.is_among.result (λ e. c.if-is_same.ensures (own ∙ ap (λ (x : List ℕ). x ∷ []) e ∙ sym held))
    (subst (λ (t : List ℕ). MatchBool c.is_among.result (Contains xs t) (Contains xs t → ⊥)) text c.is_among.ensures)
