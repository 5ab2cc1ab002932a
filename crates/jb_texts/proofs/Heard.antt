-- The calls about each partition, put into their lists.
use Rattle.std.proofs.Common.{◌≡◌, ℕ, zero, suc, ◌+◌, ◌<◌, Bool, true, false, List, [], ◌∷◌, ◌++◌, length, get_or, set, map, flat_map, cond, refl, ap, sym, ◌∙◌, append-nil, arith}
use Rattle.std.specs.Prelude.{nat_eq}
use Rattle.std.specs.List.{range_with_len}
use Rattle.std.proofs.lemmas.Bool.Decides.{nat_tests}
use Rattle.std.proofs.lemmas.List.{map-set, get_or-map}
use Rattle.std.proofs.lemmas.List.Elements.{filter-append}
use Rattle.json.specs.Token.{Token, string}
use Rattle.serde_json.specs.Data.{Data}
use Rattle.jb_collect.specs.declared.calls.AnalyzerCall.{AnalyzerCall}
use Rattle.jb_collect.specs.Heard.{partition_heard}
use Rattle.jb_collect.specs.Heard.{calls_about}
use Rattle.jb_saved.specs.SavedTree.{tokens_of}
use Rattle.jb_texts.specs.Report.{heard_about, heard_text, results_tree}
use Rattle.jb_texts.specs.inside.Heard.{placed}

-- one list grew by the call
pub placed-here : {V : Type 0} (shown : V → List AnalyzerCall) (vs : List V) (p : ℕ) (v w : V) (call : AnalyzerCall) → p ≡ partition_heard call → p < length vs → v ≡ get_or vs p v → shown w ≡ shown v ++ call ∷ []
    → map shown (set vs p w) ≡ placed call (map shown vs)
placed-here shown vs p v w call is within was grew =
    map-set shown vs p w ∙ ap (set (map shown vs) p) (grew ∙ ap (λ calls. calls ++ call ∷ []) (ap shown was ∙ sym (get_or-map shown vs p v [] within))) ∙ ap (λ n. set (map shown vs) n (get_or (map shown vs) n [] ++ call ∷ [])) is

-- the lists of the first partitions, after one more call
module _ (call : AnalyzerCall) (before : List AnalyzerCall) where
  abbrev pub lists : (a n : ℕ) → List (List AnalyzerCall)
  lists a n = map (λ p. calls_about p before) (range_with_len a n)

  abbrev pub more : (a n : ℕ) → List (List AnalyzerCall)
  more a n = map (λ p. calls_about p (before ++ call ∷ [])) (range_with_len a n)

  one-more : (p : ℕ) (b : Bool) → nat_eq (partition_heard call) p ≡ b → calls_about p (before ++ call ∷ []) ≡ calls_about p before ++ cond b (call ∷ []) []
  one-more p b is = filter-append (λ c. nat_eq (partition_heard c) p) before (call ∷ []) ∙ ap (λ t. calls_about p before ++ cond t (call ∷ []) []) is

  same : (p : ℕ) (b : Bool) → nat_eq (partition_heard call) p ≡ b → (partition_heard call ≡ p → ⊥) → calls_about p (before ++ call ∷ []) ≡ calls_about p before
  same p true is other = absurd (other (grind (arith, nat_tests, is)))
  same p false is other = one-more p false is ∙ append-nil (calls_about p before)

  -- the others are as they were
  others : (a n : ℕ) → partition_heard call < a → lists a n ≡ more a n
  others a zero below = refl
  others a (suc n) below =
      ap (λ x. x ∷ lists (a + 1) n) (sym (same a (nat_eq (partition_heard call) a) refl (λ e. omega (arith, e, below)))) ∙ ap (λ xs. calls_about a (before ++ call ∷ []) ∷ xs) (others (a + 1) n (omega (arith, below)))

  put : (a k n : ℕ) → partition_heard call ≡ a + k → set (lists a n) k (get_or (lists a n) k [] ++ call ∷ []) ≡ more a n
  put a k zero is = refl
  put a zero (suc n) is =
      let here : nat_eq (partition_heard call) a ≡ true = grind (arith, nat_tests, is) in
      ap (λ x. x ∷ lists (a + 1) n) (sym (one-more a true here)) ∙ ap (λ xs. calls_about a (before ++ call ∷ []) ∷ xs) (others (a + 1) n (omega (arith, is)))
  put a (suc k) (suc n) is =
      ap (λ x. x ∷ set (lists (a + 1) n) k (get_or (lists (a + 1) n) k [] ++ call ∷ [])) (sym (same a (nat_eq (partition_heard call) a) refl (λ e. omega (arith, e, is))))
      ∙ ap (λ xs. calls_about a (before ++ call ∷ []) ∷ xs) (put (a + 1) k n (omega (arith, is)))

  pub placed-more : (n : ℕ) → placed call (lists 0 n) ≡ more 0 n
  placed-more n = put 0 (partition_heard call) n (omega arith)

-- ---- what is written of them

-- the texts of calls, one after another
pub texts-of : {C : Type 0} (now : C → AnalyzerCall) (cs : List C) → map (λ c. string (heard_text (now c))) cs ≡ flat_map (λ text. tokens_of (Data.string text)) (map heard_text (map now cs))
texts-of now [] = refl
texts-of now (c ∷ cs) = ap (λ ts. string (heard_text (now c)) ∷ ts) (texts-of now cs)

joined : {A B : Type 0} (f : B → List Token) (g : A → B) (xs : List A) → flat_map (λ x. f (g x)) xs ≡ flat_map f (map g xs)
joined f g [] = refl
joined f g (x ∷ xs) = ap (λ ts. f (g x) ++ ts) (joined f g xs)

-- the lists of all partitions, one after another
pub lists-of : {V : Type 0} (shown : V → List AnalyzerCall) (vs : List V) (calls : List AnalyzerCall) (ps : List ℕ) → map shown vs ≡ map (λ p. calls_about p calls) ps
    → flat_map (λ v. tokens_of (results_tree (map heard_text (shown v)))) vs ≡ flat_map (λ p. tokens_of (heard_about calls p)) ps
lists-of shown vs calls ps are =
    let list : List AnalyzerCall → List Token = λ about. tokens_of (results_tree (map heard_text about)) in
    joined list shown vs ∙ ap (flat_map list) are ∙ sym (joined list (λ p. calls_about p calls) ps)
