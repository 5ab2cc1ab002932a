-- The tokens of what is written of saved rows, put together.
use Rattle.std.proofs.Common.{◌≡◌, List, [], ◌∷◌, ◌++◌, map, flat_map, refl, ap, sym, ◌∙◌, append_assoc}
use Rattle.serde_json.specs.Data.{Data}
use Rattle.serde_json.specs.View.{items_of}
use Rattle.serde_json.specs.Written.{items_outline}
use Rattle.json.specs.Token.{Token, begin_array, end_array}
use Rattle.json.specs.Tree.{items_tokens}
use Rattle.jb_saved.specs.SavedTree.{list_tree, tokens_of}

members : {X : Type 0} (tree : X → Data) (xs : List X) → items_tokens (items_outline (items_of (map tree xs))) ≡ flat_map (λ x. tokens_of (tree x)) xs ++ end_array ∷ []
members tree [] = refl
members tree (x ∷ xs) =
    let rest = flat_map (λ y. tokens_of (tree y)) xs in
    ap (λ ts. tokens_of (tree x) ++ ts) (members tree xs) ∙ sym (append_assoc (tokens_of (tree x)) rest (end_array ∷ []))

-- a list's tokens are its members', between brackets
pub list-tokens : {X : Type 0} (tree : X → Data) (xs : List X) → tokens_of (list_tree (map tree xs)) ≡ begin_array ∷ (flat_map (λ x. tokens_of (tree x)) xs ++ end_array ∷ [])
list-tokens tree xs = ap (λ ts. begin_array ∷ ts) (members tree xs)

-- a list whose members were written one after another
pub list-written : {X : Type 0} (tree : X → Data) (xs : List X) (old begun passed new : List Token) → begun ≡ old ++ begin_array ∷ []
    → passed ≡ begun ++ flat_map (λ x. tokens_of (tree x)) xs → new ≡ passed ++ end_array ∷ [] → new ≡ old ++ tokens_of (list_tree (map tree xs))
list-written tree xs old begun passed new begins passes ends =
    let members = flat_map (λ x. tokens_of (tree x)) xs in
    ends ∙ ap (λ ts. ts ++ end_array ∷ []) passes ∙ ap (λ ts. (ts ++ members) ++ end_array ∷ []) begins
    ∙ append_assoc (old ++ begin_array ∷ []) members (end_array ∷ []) ∙ append_assoc old (begin_array ∷ []) (members ++ end_array ∷ [])
    ∙ ap (λ ts. old ++ ts) (sym (list-tokens tree xs))

-- an object of a list and two other members, written one after another
pub object-written : (start first second third fourth fifth last : Token) (rows old a b c d e f g new : List Token)
    → a ≡ old ++ start ∷ [] → b ≡ a ++ first ∷ [] → c ≡ b ++ rows → d ≡ c ++ second ∷ [] → e ≡ d ++ third ∷ [] → f ≡ e ++ fourth ∷ [] → g ≡ f ++ fifth ∷ [] → new ≡ g ++ last ∷ []
    → new ≡ old ++ start ∷ first ∷ (rows ++ second ∷ third ∷ fourth ∷ fifth ∷ last ∷ [])
object-written start first second third fourth fifth last rows old a b c d e f g new s1 s2 s3 s4 s5 s6 s7 s8 = rw (s8, s7, s6, s5, s4, s3, s2, s1) (simp append_assoc)
