-- Parts of a report: their tokens, and the text that they are printed as.
use Rattle.std.proofs.Common.{◌≡◌, ℕ, zero, suc, ◌+◌, ◌-◌, ◌<◌, ◌≤◌, slice_range, Option, subst, Bool, true, false, ltb, List, [], ◌∷◌, ◌++◌, length, get_or, take, drop, map, flat_map, refl, ap, sym, ◌∙◌, append_assoc, append-nil, length-drop, arith}
use Rattle.std.specs.Prelude.{fold}
use Rattle.std.specs.Io.KnownBytes.{Appends}
use Rattle.std.specs.Str.Lossy.{utf8_lossy}
use Rattle.std.proofs.lemmas.List.{take-append-drop, take_all, map-append}
use Rattle.std.proofs.lemmas.List.Concat.{flat_map_single}
use Rattle.std.proofs.lemmas.Bool.Decides.{nat_tests}
use Rattle.std.proofs.lemmas.Grind.{flat_map-append}
use Rattle.std.proofs.lemmas.Simd.{map-map}
use Rattle.json.specs.Lex.{tokens}
use Rattle.json.specs.Token.{Token, begin_array, end_array, string}
use Rattle.json.specs.Print.{ends, print, print_from}
use Rattle.json.proofs.Printed.Tokens.{print_from-append}
use Rattle.serde_json.specs.Data.{Data}
use Rattle.serde_json.specs.Written.{comma_if}
use Rattle.jb_saved.specs.SavedTree.{tokens_of}
use Rattle.jb_saved.proofs.Written.{list-written}
use Rattle.jb_texts.specs.Front.{AppendsFront}
use Rattle.jb_texts.specs.Report.{results_tree}
use Rattle.jb_texts.specs.declared.report.parts.Part.{Part}
use Rattle.jb_texts.specs.inside.Parts.{PrintsOn, PassesOn, part_text, part_tokens, results_tokens}
use Rattle.jb_texts.proofs.Fronts.{front-passed, passes-put, passes-then}

-- ---- results

after-results : (results : List (List ℕ)) → fold (λ _ t. ends t) true (results_tokens results) ≡ true
after-results [] = refl
after-results (bytes ∷ results) = after-results results

-- a comma stands before each but the first
later : (results : List (List ℕ)) (k : ℕ) → k < length results → fold (λ _ t. ends t) false (results_tokens (take k results)) ≡ ltb 0 k
later results zero within = refl
later [] (suc k) within = absurd (omega (arith, within))
later (bytes ∷ results) (suc k) within = let some : ltb 0 (suc k) ≡ true = grind (arith, nat_tests) in after-results (take k results) ∙ sym some

begun-by : (b : Bool) (results : List (List ℕ)) (n : ℕ) → 0 < n → 0 < length results → print_from b (results_tokens (take n results)) ≡ comma_if b ++ print (results_tokens (take n results))
unfolding print_from
begun-by b results zero some within = absurd (omega (arith, some))
begun-by b [] (suc n) some within = absurd (omega (arith, within))
begun-by true (bytes ∷ results) (suc n) some within = refl
begun-by false (bytes ∷ results) (suc n) some within = refl

taken-then : {X : Type 0} (w n : ℕ) (xs : List X) → take (w + n) xs ≡ take w xs ++ take n (drop w xs)
taken-then zero n xs = let same : 0 + n ≡ n = omega arith in ap (λ m. take m xs) same
taken-then (suc w) n [] = take_all (suc w + n) [] (omega arith) ∙ sym (take_all n [] (omega arith))
taken-then (suc w) n (x ∷ xs) = let on : suc w + n ≡ suc (w + n) = omega arith in ap (λ k. take k (x ∷ xs)) on ∙ ap (λ ys. x ∷ ys) (taken-then w n xs)

-- some results more
pub range-more : (results : List (List ℕ)) (from to : ℕ) → from < to → to ≤ length results
    → print (results_tokens (take to results)) ≡ print (results_tokens (take from results)) ++ (comma_if (ltb 0 from) ++ print (results_tokens (slice_range results from to)))
range-more results from to more within =
    let n = to - from in
    let whole : from + n ≡ to = omega (arith, more) in
    let first = results_tokens (take from results) in
    let next = slice_range results from to in
    let both : results_tokens (take to results) ≡ first ++ results_tokens next =
    ap (λ k. results_tokens (take k results)) (sym whole) ∙ ap results_tokens (taken-then from n results) ∙ map-append (λ bytes. string (utf8_lossy bytes)) (take from results) next in
    let is = later results from (omega (arith, more, within)) in
    ap print both ∙ print_from-append false first (results_tokens next) ∙ ap (λ b. print first ++ print_from b (results_tokens next)) is
    ∙ ap (λ text. print first ++ text) (begun-by (ltb 0 from) (drop from results) n (omega (arith, more)) (omega (arith, length-drop from results, more, within)))

-- the first results, and then the others
pub results-split : (results : List (List ℕ)) (k : ℕ) → (more : List ℕ) × (print (results_tokens (take k results)) ++ more ≡ print (results_tokens results))
results-split results k =
    let first = results_tokens (take k results) in
    let others = results_tokens (drop k results) in
    let both : first ++ others ≡ results_tokens results =
    sym (map-append (λ bytes. string (utf8_lossy bytes)) (take k results) (drop k results)) ∙ ap results_tokens (take-append-drop k results) in
    (print_from (fold (λ _ t. ends t) false first) others, sym (print_from-append false first others) ∙ ap print both)

pub nothing-printed : (results : List (List ℕ)) → print (results_tokens (take 0 results)) ≡ []
unfolding print_from
nothing-printed results = refl

-- ---- results that are put behind a block, one after another

module _ (old before : Option (List ℕ)) (block waiting longer : List ℕ) (results : List (List ℕ)) (from to : ℕ) (more : from < to) (within : to ≤ length results)
    (so_far : PassesOn old before block (print (results_tokens (take from results))) waiting)
    (put : longer ≡ waiting ++ (comma_if (ltb 0 from) ++ print (results_tokens (slice_range results from to)))) where
  abbrev next : List ℕ
  next = comma_if (ltb 0 from) ++ print (results_tokens (slice_range results from to))

  abbrev first : List ℕ
  first = print (results_tokens (take from results))

  -- of the block the first bytes are handed on
  pub results-passed : (new : Option (List ℕ)) (left : List ℕ) → (passed : List ℕ) × Appends before new passed × (longer ≡ passed ++ left)
      → PassesOn old new block (print (results_tokens (take to results))) left
  results-passed new left passed =
      subst (λ text. PassesOn old new block text left) (sym (range-more results from to more within))
      (passes-then old before new block first waiting next left so_far (passes-put before new waiting next longer left put passed))

  -- or they are written in part
  pub results-cut : (new : Option (List ℕ)) → AppendsFront before new longer → AppendsFront old new (block ++ print (results_tokens results))
  results-cut new front =
      let others = results-split results to in
      front-passed old before new block first waiting next others.0 (print (results_tokens results)) so_far (subst (λ text. AppendsFront before new text) put front)
      (sym (append_assoc first next others.0) ∙ ap (λ text. text ++ others.0) (sym (range-more results from to more within)) ∙ others.1)

-- ---- parts, one after another

module _ {X Y : Type 0} (f : X → List Y) where
  -- those so far, this one and the later ones
  pub parts-at : (xs : List X) (k : ℕ) (d : X) → k < length xs → flat_map f (take k xs) ++ (f (get_or xs k d) ++ flat_map f (drop (suc k) xs)) ≡ flat_map f xs
  parts-at [] k d within = absurd (omega (arith, within))
  parts-at (x ∷ xs) zero d within = refl
  parts-at (x ∷ xs) (suc k) d within =
      append_assoc (f x) (flat_map f (take k xs)) (f (get_or xs k d) ++ flat_map f (drop (suc k) xs)) ∙ ap (λ ys. f x ++ ys) (parts-at xs k d (omega (arith, within)))

  -- one part more
  pub parts-more : (xs : List X) (k : ℕ) (d : X) → k < length xs → flat_map f (take (suc k) xs) ≡ flat_map f (take k xs) ++ f (get_or xs k d)
  parts-more [] k d within = absurd (omega (arith, within))
  parts-more (x ∷ xs) zero d within = append-nil (f x)
  parts-more (x ∷ xs) (suc k) d within = ap (λ ys. f x ++ ys) (parts-more xs k d (omega (arith, within))) ∙ sym (append_assoc (f x) (flat_map f (take k xs)) (f (get_or xs k d)))

-- ---- what is printed behind the parts

opened : (b : Bool) (ts : List Token) → print_from b (begin_array ∷ ts) ≡ print_from b (begin_array ∷ []) ++ print ts
unfolding print_from
opened true ts = refl
opened false ts = refl

closed : (b : Bool) (ts : List Token) → print_from b (end_array ∷ ts) ≡ print (end_array ∷ ts)
unfolding print_from
closed true ts = refl
closed false ts = refl

-- a list's brackets and what stands between them are printed by themselves
list-apart : (now members rest : List Token) → print (now ++ begin_array ∷ (members ++ end_array ∷ rest)) ≡ print (now ++ begin_array ∷ []) ++ (print members ++ print (end_array ∷ rest))
list-apart now members rest =
    let b = fold (λ _ t. ends t) false now in
    let c = fold (λ _ t. ends t) false members in
    let inner : print (members ++ end_array ∷ rest) ≡ print members ++ print (end_array ∷ rest) = print_from-append false members (end_array ∷ rest) ∙ ap (λ text. print members ++ text) (closed c rest) in
    let behind = print members ++ print (end_array ∷ rest) in
    print_from-append false now (begin_array ∷ (members ++ end_array ∷ rest))
    ∙ ap (λ text. print now ++ text) (opened b (members ++ end_array ∷ rest) ∙ ap (λ text. print_from b (begin_array ∷ []) ++ text) inner)
    ∙ sym (append_assoc (print now) (print_from b (begin_array ∷ [])) behind)
    ∙ ap (λ text. text ++ behind) (sym (print_from-append false now (begin_array ∷ [])))

one-more : {X Y : Type 0} (f : X → List Y) (xs : List X) (x : X) → flat_map f (xs ++ x ∷ []) ≡ flat_map f xs ++ f x
one-more f xs x = flat_map-append f xs (x ∷ []) ∙ ap (λ ys. flat_map f xs ++ ys) (append-nil (f x))

regroup : {X : Type 0} (a b c d e : List X) → (a ++ ((b ++ c) ++ d)) ++ e ≡ a ++ (b ++ (c ++ (d ++ e)))
regroup a b c d e = simp append_assoc

-- one part more, which ends in a list that is open
module _ (parts new : List Part) (part : Part) (now : List Token) (is : new ≡ parts ++ part ∷ []) (read : tokens part.text.items ≡ now ++ begin_array ∷ []) where
  tokens-more : flat_map part_tokens new ≡ flat_map part_tokens parts ++ ((now ++ begin_array ∷ []) ++ results_tokens part.results)
  tokens-more = ap (flat_map part_tokens) is ∙ one-more part_tokens parts part ∙ ap (λ ts. flat_map part_tokens parts ++ (ts ++ results_tokens part.results)) read

  -- it goes on with the end of the list
  pub goes-on-behind : part.text.items ≡ print (now ++ begin_array ∷ []) → PrintsOn parts now → PrintsOn new (end_array ∷ [])
  goes-on-behind printed before rest =
      let front = flat_map part_tokens parts in
      let text = flat_map part_text parts in
      let results = results_tokens part.results in
      let begun = print (now ++ begin_array ∷ []) in
      let end = print (end_array ∷ rest) in
      let whole : flat_map part_text new ≡ text ++ (begun ++ print results) = ap (flat_map part_text) is ∙ one-more part_text parts part ∙ ap (λ one. text ++ (one ++ print results)) printed in
      ap (λ ts. print (ts ++ end_array ∷ rest)) tokens-more ∙ ap print (regroup front now (begin_array ∷ []) results (end_array ∷ rest))
      ∙ before (begin_array ∷ (results ++ end_array ∷ rest)) ∙ ap (λ more. text ++ more) (list-apart now results rest ∙ sym (append_assoc begun (print results) end))
      ∙ sym (append_assoc text (begun ++ print results) end) ∙ ap (λ more. more ++ end) (sym whole)

  -- and with that it is the list of the results
  pub outputs-added : flat_map part_tokens new ++ end_array ∷ [] ≡ (flat_map part_tokens parts ++ now) ++ tokens_of (results_tree (map utf8_lossy part.results))
  outputs-added =
      let front = flat_map part_tokens parts in
      let texts = map utf8_lossy part.results in
      let members = flat_map (λ text. string text ∷ []) texts in
      let same : results_tokens part.results ≡ members = sym (map-map string utf8_lossy part.results) ∙ sym (flat_map_single string texts) in
      let grouped : (front ++ ((now ++ begin_array ∷ []) ++ members)) ++ end_array ∷ [] ≡ (((front ++ now) ++ begin_array ∷ []) ++ members) ++ end_array ∷ [] = simp append_assoc in
      ap (λ ts. ts ++ end_array ∷ []) (tokens-more ∙ ap (λ ts. front ++ ((now ++ begin_array ∷ []) ++ ts)) same) ∙ grouped
      ∙ list-written Data.string texts (front ++ now) _ _ _ refl refl refl
