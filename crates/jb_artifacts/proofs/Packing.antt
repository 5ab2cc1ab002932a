-- Results as a list of numbers beside a list of texts.
use Rattle.std.proofs.Common.{◌≡◌, ℕ, ◌<◌, List, [], ◌∷◌, ◌++◌, length, refl, ap, sym, ◌∙◌, arith, get_or}
use Rattle.std.specs.Prelude.{zip, slice_index_or}
use Rattle.std.proofs.lemmas.Slice.Zip.{length-zip, get_or-zip, seconds-zip}
use Rattle.jb_artifacts.specs.Writer.{Numbered, texts_of}

module _ (numbers : List ℕ) (texts : List (List ℕ)) (results : Numbered) (is : zip numbers texts ≡ results) (fit : length numbers ≡ length texts) where
  pub count_is : length results ≡ length numbers
  count_is = let count = sym (ap length is) ∙ length-zip numbers texts in omega arith

  pub texts_are : texts ≡ texts_of results
  texts_are = sym (seconds-zip numbers texts (sym fit)) ∙ ap texts_of is

  at : (index : ℕ) → index < length results → slice_index_or results index (0, []) ≡ (get_or numbers index 0, get_or texts index [])
  at index below =
      let count = count_is in
      sym (ap (λ rs. slice_index_or rs index (0, [])) is) ∙ get_or-zip numbers texts index (0, []) (omega arith) (omega arith)

  pub number_at : (index : ℕ) → index < length results → get_or numbers index 0 ≡ (slice_index_or results index (0, [])).0
  number_at index below = ap (λ (r : ℕ × List ℕ). r.0) (sym (at index below))

  pub text_at : (index : ℕ) → index < length results → get_or texts index [] ≡ (slice_index_or results index (0, [])).1
  text_at index below = ap (λ (r : ℕ × List ℕ). r.1) (sym (at index below))

-- one result more
pub one_more : (numbers : List ℕ) (texts : List (List ℕ)) (number : ℕ) (text : List ℕ) → length numbers ≡ length texts
    → zip (numbers ++ number ∷ []) (texts ++ text ∷ []) ≡ zip numbers texts ++ (number, text) ∷ []
one_more [] [] number text fit = refl
one_more [] (t ∷ texts) number text fit = absurd (omega (arith, fit))
one_more (n ∷ numbers) [] number text fit = absurd (omega (arith, fit))
one_more (n ∷ numbers) (t ∷ texts) number text fit = ap (λ rs. (n, t) ∷ rs) (one_more numbers texts number text (omega (arith, fit)))
