-- JSON trees as code sees them, beside the trees of definitions.
use Rattle.std.proofs.Common.{◌≡◌, ℕ, ◌&&◌, List, [], ◌∷◌, length, Bool, None, string_bytes, refl, ap}
use Rattle.std.specs.List.{list_all}
use Rattle.std.specs.Map.{keys_of}
use Rattle.serde_json.specs.View.{items_view, members_view}
use Rattle.serde_json.proofs.Views.{Entry, items_len-items_view}
use Rattle.serde_json.specs.declared.value.Value.{Value}
use Rattle.jb_job.specs.Reading.{member_names, pair_of, triple_of}

pub all_names : (p : List ℕ → Bool) (es : List Entry) → list_all p (member_names (members_view es)) ≡ list_all (λ k. p (string_bytes k)) (keys_of es)
all_names p [] = refl
all_names p (e ∷ es) = ap (λ b. p (string_bytes e.0) && b) (all_names p es)

pub pair_of-not_two : (vs : List Value) → (length vs ≡ 2 → ⊥) → pair_of (items_view vs) ≡ None
pair_of-not_two [] h = refl
pair_of-not_two (a ∷ []) h = refl
pair_of-not_two (a ∷ b ∷ []) h = absurd (h refl)
pair_of-not_two (a ∷ b ∷ v ∷ vs) h = refl

pub triple_of-not_three : (vs : List Value) → (length vs ≡ 3 → ⊥) → triple_of (items_view vs) ≡ None
triple_of-not_three [] h = refl
triple_of-not_three (a ∷ []) h = refl
triple_of-not_three (a ∷ b ∷ []) h = refl
triple_of-not_three (a ∷ b ∷ c ∷ []) h = absurd (h refl)
triple_of-not_three (a ∷ b ∷ c ∷ v ∷ vs) h = refl

pub ruleset tree_steps = (items_len-items_view, all_names, pair_of-not_two, triple_of-not_three)
