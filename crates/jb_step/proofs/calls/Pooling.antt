-- A list of calls that were all answered well, lent as an object that took them.
use Rattle.std.proofs.Common.{◌≡◌, List, [], ◌∷◌, map, refl, ap, sym, ◌∙◌, subst}
use Rattle.jb_collect.specs.AnsweredCalls.{AnsweredCall, calls_of, well}

well-calls : {C : Type 0} (calls : List C) → calls_of (map well calls) ≡ calls
well-calls [] = refl
well-calls (call ∷ calls) = ap (λ cs. call ∷ cs) (well-calls calls)

pub same-calls : {C : Type 0} (one other : List C) → ◌≡◌ {A = List (AnsweredCall C)} (map well one) (map well other) → one ≡ other
same-calls one other e = sym (well-calls one) ∙ ap calls_of e ∙ well-calls other

-- what holds of the calls that the object took holds of the list that was lent
pub given-back : {C : Type 0} (P : List (AnsweredCall C) → List (AnsweredCall C) → Type 0) (lent : List (AnsweredCall C)) (old new shown : List C) → P lent (map well new) → lent ≡ map well old → shown ≡ new → P (map well old) (map well shown)
given-back {C} P lent old new shown p same is =
    subst (λ (taken : List (AnsweredCall C)). P taken (map well shown)) same (subst (λ (calls : List C). P lent (map well calls)) (sym is) p)

-- the same of two at once
pub both-given-back : {C D : Type 0} (P : List (AnsweredCall C) → List (AnsweredCall C) → List (AnsweredCall D) → List (AnsweredCall D) → Type 0) (lent : List (AnsweredCall C)) (old new shown : List C) (lent' : List (AnsweredCall D)) (old' new' shown' : List D)
    → P lent (map well new) lent' (map well new') → lent ≡ map well old → shown ≡ new → lent' ≡ map well old' → shown' ≡ new' → P (map well old) (map well shown) (map well old') (map well shown')
both-given-back P lent old new shown lent' old' new' shown' p same is same' is' =
    given-back (λ a b. P a b (map well old') (map well shown')) lent old new shown (given-back (λ a b. P lent (map well new) a b) lent' old' new' shown' p same' is') same is
