-- A run that stays in memory stands where it was prepared.
use Rattle.std.proofs.Common.{◌≡◌, ◌↔◌, ℕ, zero, suc, ◌+◌, Bool, true, false, not, cond, List, [], ◌∷◌, length, map, Option, Some, Ok, refl, ap, ap₂, sym, subst, ◌∙◌, arith}
use Rattle.std.proofs.lemmas.Bool.Decides.{nat_tests}
use Rattle.std.specs.Prelude.{◌==◌, IsTrue, nat_eq, slice_get}
use Rattle.std.specs.List.{enumerate_from, zip}
use Rattle.jb_base.specs.Pairwise.{Pairwise}
use Rattle.jb_base.specs.Rules.{RulesRecord}
use Rattle.jb_base.specs.declared.range.Range.{Range}
use Rattle.jb_artifacts.specs.Meaning.{ArtifactsMeaning}
use Rattle.jb_job.specs.Reading.{tree_of}
use Rattle.jb_rules.specs.declared.row.Row.{Row}
use Rattle.jb_rules.specs.declared.row.RowState.{RowState}
use Rattle.jb_rules.specs.declared.row.RowState.TheVariants as state
use Rattle.jb_rules.specs.Rows.{dropped_row}
use Rattle.jb_rules.specs.States.{is_failed, is_finished}
use Rattle.jb_saved.specs.GoingOn.{restarted, rows_restarted}
use Rattle.jb_saved.specs.Reading.{answer_of}
use Rattle.jb_saved.specs.SavedRows.{SavedRows}
use Rattle.jb_step.specs.preparing.Setup.{IsSetup, Setup, needs, unfinished}
use Rattle.jb_records.specs.declared.step.RecordsStep.{RecordsStep}
use Rattle.jb_records.specs.Following.{FollowRules, ranges_of}
use Rattle.jb_records.specs.Function.{Function, IsSteady}
use Rattle.jb_records.specs.PartitionResults.{AreNumbered, AreAtTheirEnds, IsSoFar, newer_share, newer_partition_results}
use Rattle.jb_records.specs.Steps.{AreFirstArtifacts, AreArtifacts}
use Rattle.jb_records.specs.Intervals.{GoesBy, RunState, StandsOver, numbers_in, artifacts_in}
use Rattle.jb_records.specs.inside.InMemory.{IsAsPrepared}
use Rattle.jb_records.proofs.Begun.{artifacts-at-first}
use Rattle.jb_records.proofs.Keeping.{finished-again}
use Rattle.jb_records.proofs.Resuming.{same-held, so-far-again}
use Rattle.jb_records.proofs.Steps.{left-of}

-- ---- WORKS WITH THEIR NUMBERS

pub as-many : {A B : Type 0} (R : A → B → Type 0) (xs : List A) (ys : List B) → Pairwise R xs ys → length ys ≡ length xs
as-many R [] [] is = refl
as-many R [] (y ∷ ys) is = absurd is
as-many R (x ∷ xs) [] is = absurd is
as-many R (x ∷ xs) (y ∷ ys) is = ap suc (as-many R xs ys is.1)

pub names-length : (ns : List (ℕ × Row)) → length (map (λ n. n.0) ns) ≡ length ns
names-length [] = refl
names-length (n ∷ ns) = ap suc (names-length ns)

zip-names : (ns : List ℕ) (ws : List ArtifactsMeaning) → length ws ≡ length ns → numbers_in (zip ns ws) ≡ ns
zip-names [] [] long = refl
zip-names [] (w ∷ ws) long = let none : ⊥ = cc in absurd none
zip-names (n ∷ ns) [] long = let none : ⊥ = cc in absurd none
zip-names (n ∷ ns) (w ∷ ws) long = ap (λ (ms : List ℕ). n ∷ ms) (zip-names ns ws (omega (arith, long)))

zip-artifacts : (ns : List ℕ) (ws : List ArtifactsMeaning) → length ws ≡ length ns → artifacts_in (zip ns ws) ≡ ws
zip-artifacts [] [] long = refl
zip-artifacts [] (w ∷ ws) long = let none : ⊥ = cc in absurd none
zip-artifacts (n ∷ ns) [] long = let none : ⊥ = cc in absurd none
zip-artifacts (n ∷ ns) (w ∷ ws) long = ap (λ (us : List ArtifactsMeaning). w ∷ us) (zip-artifacts ns ws (omega (arith, long)))

same-share : (o : Option (List (List ℕ))) (share other : List (List ℕ)) → o ≡ Some share → o ≡ Some other → other ≡ share
same-share o share other a b = cc

module _ (f : Function) (rules : RulesRecord) (records : List (List ℕ)) (partition_results : List (List (List ℕ))) where
  share-by : (b : Bool) (p : ℕ) (n : ℕ × Row) (share written other : List (List ℕ)) → nat_eq n.0 p ≡ b → slice_get partition_results p ≡ Some share → slice_get partition_results n.0 ≡ Some written → other ≡ share
      → cond b written other ≡ share
  share-by false p n share written other is at own rest = rest
  share-by true p n share written other is at own rest =
      let same : n.0 ≡ p = grind (arith, nat_tests) in
      same-share (slice_get partition_results p) share written at (subst (λ m. slice_get partition_results m ≡ Some written) same own)

  -- each writer has the share that it began with
  own-share : (p : ℕ) (share : List (List ℕ)) (ns : List (ℕ × Row)) (ws : List ArtifactsMeaning) → slice_get partition_results p ≡ Some share → AreArtifacts f rules records partition_results ns ws → newer_share (zip (map (λ n. n.0) ns) ws) p share ≡ share
  own-share p share [] [] at are = refl
  own-share p share [] (w ∷ ws) at are = absurd are
  own-share p share (n ∷ ns) [] at are = absurd are
  own-share p share (n ∷ ns) (w ∷ ws) at are = share-by (nat_eq n.0 p) p n share w.writer.written _ refl at are.0.1 (own-share p share ns ws at are.1)

  own-partition_results : (k : ℕ) (some : List (List (List ℕ))) (ns : List (ℕ × Row)) (ws : List ArtifactsMeaning) → ((i : ℕ) (share : List (List ℕ)) → slice_get some i ≡ Some share → slice_get partition_results (k + i) ≡ Some share) → AreArtifacts f rules records partition_results ns ws
      → map (λ n. newer_share (zip (map (λ n. n.0) ns) ws) n.0 n.1) (enumerate_from k some) ≡ some
  own-partition_results k [] ns ws at are = refl
  own-partition_results k (share ∷ some) ns ws at are =
      let first : k + 0 ≡ k = omega arith in
      ap₂ (λ (x : List (List ℕ)) (xs : List (List (List ℕ))). x ∷ xs)
      (own-share k share ns ws (subst (λ m. slice_get partition_results m ≡ Some share) first (at zero share refl)) are)
      (own-partition_results (k + 1) some ns ws (λ i x get. let e : k + suc i ≡ (k + 1) + i = omega arith in subst (λ m. slice_get partition_results m ≡ Some x) e (at (suc i) x get)) are)

pub kept-first : (f : Function) (rules : RulesRecord) (records : List (List ℕ)) (step : List ℕ) (setup : Setup) (partition_results : List (List (List ℕ))) (ns : List ℕ) (ws : List ArtifactsMeaning) (s : RunState)
    → ns ≡ needs setup.rows → s.artifacts ≡ zip ns ws → rules ≡ setup.rules → AreFirstArtifacts f rules records partition_results (unfinished setup.rows) ws
    → s.step ≡ step → s.records ≡ length records → s.setup ≡ setup → s.partition_results ≡ newer_partition_results s.artifacts partition_results → IsAsPrepared f records step setup partition_results s
kept-first f rules records step setup partition_results ns ws s named zipped ruled are step-is number setup-is partition_results-are =
    let own-are = subst (λ (r : RulesRecord). AreFirstArtifacts f r records partition_results (unfinished setup.rows) ws) ruled are in
    let first = artifacts-at-first f setup.rules records partition_results (unfinished setup.rows) ws own-are in
    let long : length ws ≡ length (needs setup.rows) = as-many _ (unfinished setup.rows) ws first ∙ sym (names-length (unfinished setup.rows)) in
    let own : s.artifacts ≡ zip (needs setup.rows) ws = zipped ∙ ap (λ (ms : List ℕ). zip ms ws) named in
    record {
      step_is = step-is;
      number = number;
      setup_is = setup-is;
      partition_results_are = partition_results-are
          ∙ ap (λ (l : List (ℕ × ArtifactsMeaning)). newer_partition_results l partition_results) own
          ∙ own-partition_results f setup.rules records partition_results 0 partition_results (unfinished setup.rows) ws (λ i x get. let e : i ≡ 0 + i = omega arith in subst (λ m. slice_get partition_results m ≡ Some x) e get) first;
      partitions = ap numbers_in own ∙ zip-names (needs setup.rows) ws long;
      artifacts = subst (AreFirstArtifacts f setup.rules records partition_results (unfinished setup.rows)) (sym (ap artifacts_in own ∙ zip-artifacts (needs setup.rows) ws long)) own-are;
    }

-- ---- WHERE IT STANDS

pub kept-stands : (f : Function) (records : List (List ℕ)) (step : List ℕ) (setup : Setup) (partition_results : List (List (List ℕ))) (s : RunState) → IsAsPrepared f records step setup partition_results s → IsSetup setup → IsSoFar f records setup.rows partition_results
    → (IsSteady f → FollowRules f setup.rules records setup.rows) → StandsOver f records s
kept-stands f records step setup partition_results s kept is so follow = record {
  number = kept.number;
  setup = subst IsSetup (sym kept.setup_is) is;
  so_far = subst (IsSoFar f records s.setup.rows) (sym kept.partition_results_are) (subst (λ (x : Setup). IsSoFar f records x.rows partition_results) (sym kept.setup_is) so);
  partitions = kept.partitions ∙ sym (ap (λ (x : Setup). needs x.rows) kept.setup_is);
  artifacts = subst (λ (xs : List (List (List ℕ))). AreArtifacts f s.setup.rules records xs (unfinished s.setup.rows) (artifacts_in s.artifacts)) (sym kept.partition_results_are)
      (subst (λ (x : Setup). AreArtifacts f x.rules records partition_results (unfinished x.rows) (artifacts_in s.artifacts)) (sym kept.setup_is) (artifacts-at-first f setup.rules records partition_results (unfinished setup.rows) (artifacts_in s.artifacts) kept.artifacts));
  follows = λ steady. subst (λ (x : Setup). FollowRules f x.rules records x.rows) (sym kept.setup_is) (follow steady);
}

-- with the ranges that it was prepared for
pub kept-ranges : (f : Function) (records : List (List ℕ)) (step : List ℕ) (setup : Setup) (partition_results : List (List (List ℕ))) (s : RunState) (ranges : List Range) → IsAsPrepared f records step setup partition_results s → ranges_of setup.rows ≡ ranges
    → ranges_of s.setup.rows ≡ ranges
kept-ranges f records step setup partition_results s ranges kept are = ap (λ (x : Setup). ranges_of x.rows) kept.setup_is ∙ are

-- by the rules of the step that it was prepared for
pub goes-by : (f : Function) (records : List (List ℕ)) (id : List ℕ) (step : RecordsStep) (setup : Setup) (partition_results : List (List (List ℕ))) (s : RunState) → IsAsPrepared f records id setup partition_results s
    → setup.rules ≡ step.rules → setup.item_count ≡ step.item_count → GoesBy step s
goes-by f records id step setup partition_results s kept ruled counted = record {
  rules_are = ap (λ (x : Setup). x.rules) kept.setup_is ∙ ruled;
  item_count_is = ap (λ (x : Setup). x.item_count) kept.setup_is ∙ counted;
}

-- behind the rows of a text
pub behind-stands : (f : Function) (records : List (List ℕ)) (step text : List ℕ) (own held : SavedRows) (setup : Setup) (partition_results given : List (List (List ℕ))) (s : RunState) → (rules : RulesRecord) → IsAsPrepared f records step setup partition_results s → IsSetup setup
    → setup.rows ≡ rows_restarted own → setup.rules ≡ rules → partition_results ≡ given → answer_of (tree_of text) ≡ Ok own → answer_of (tree_of text) ≡ Ok held → IsSoFar f records held.rows given
    → (IsSteady f → FollowRules f rules records (rows_restarted held)) → StandsOver f records s
behind-stands f records step text own held setup partition_results given s rules kept is rows ruled same read other so follow =
    let one = same-held (answer_of (tree_of text)) held own other read in
    let mine = subst (λ (h : SavedRows). IsSoFar f records h.rows given) one so in
    let again = subst (λ (rs : List Row). IsSoFar f records rs given) (sym rows) (so-far-again f records own given mine) in
    kept-stands f records step setup partition_results s kept is (subst (IsSoFar f records setup.rows) (sym same) again)
    (λ steady. subst (λ (rs : List Row). FollowRules f setup.rules records rs) (sym rows)
    (subst (λ (r : RulesRecord). FollowRules f r records (rows_restarted own)) (sym ruled) (subst (λ (h : SavedRows). FollowRules f rules records (rows_restarted h)) one (follow steady))))

-- ---- WHETHER IT IS WHOLE

finished-is : (st : RowState) → is_finished st ≡ true → st ≡ state.Finished
finished-is state.Waiting e = let none : ⊥ = cc in absurd none
finished-is (state.Running lane) e = let none : ⊥ = cc in absurd none
finished-is state.Finished e = refl
finished-is state.Failed e = let none : ⊥ = cc in absurd none

-- a row that waits again isn't at the end of its range
pub whole-before : (rows : List Row) → AreAtTheirEnds (map restarted rows) → AreAtTheirEnds rows
whole-before [] whole = tt
whole-before (row ∷ rows) whole = (finished-is row.state (sym (finished-again row) ∙ ap is_finished whole.0), whole-before rows whole.1)

none-left : (b : Bool) (k : ℕ) (row : Row) (ns : List (ℕ × Row)) → is_finished row.state ≡ b → map (λ n. n.0) (cond (not b) ((k, row) ∷ ns) ns) ≡ [] → (row.state ≡ state.Finished) × (map (λ n. n.0) ns ≡ [])
none-left true k row ns is none = (finished-is row.state is, none)
none-left false k row ns is none = let never : ⊥ = cc in absurd never

whole-from : (k : ℕ) (rows : List Row) → map (λ n. n.0) (left-of (enumerate_from k rows)) ≡ [] → AreAtTheirEnds rows
whole-from k [] none = tt
whole-from k (row ∷ rows) none =
    let parts = none-left (is_finished row.state) k row (left-of (enumerate_from (k + 1) rows)) refl none in
    (parts.0, whole-from (k + 1) rows parts.1)

left-none : (b : Bool) (n : ℕ × Row) (ns : List (ℕ × Row)) → b ≡ true → ns ≡ [] → cond (not b) (n ∷ ns) ns ≡ []
left-none true n ns is none = none
left-none false n ns is none = let never : ⊥ = cc in absurd never

none-from : (k : ℕ) (rows : List Row) → AreAtTheirEnds rows → left-of (enumerate_from k rows) ≡ []
none-from k [] whole = refl
none-from k (row ∷ rows) whole = left-none (is_finished row.state) (k, row) (left-of (enumerate_from (k + 1) rows)) (ap is_finished whole.0) (none-from (k + 1) rows whole.1)

pub whole-where-none : (rows : List Row) → (needs rows ≡ []) ↔ AreAtTheirEnds rows
whole-where-none rows = (whole-from 0 rows, λ whole. ap (map (λ n. n.0)) (none-from 0 rows whole))

-- the rows that wait again have as many results
kept-by : (b : Bool) (row : Row) → (cond b (dropped_row row) row).written ≡ row.written
kept-by true row = refl
kept-by false row = refl

pub numbered-again : (rows : List Row) (partition_results : List (List (List ℕ))) → AreNumbered rows partition_results → AreNumbered (map restarted rows) partition_results
numbered-again [] [] are = tt
numbered-again [] (share ∷ partition_results) are = absurd are
numbered-again (row ∷ rows) [] are = absurd are
numbered-again (row ∷ rows) (share ∷ partition_results) are = (are.0 ∙ sym (kept-by (is_failed row.state) row), numbered-again rows partition_results are.1)

none-by : (b : Bool) (ns : List ℕ) → b ≡ (length ns == 0) → (IsTrue b → ns ≡ []) × (ns ≡ [] → IsTrue b)
none-by true [] e = (λ _. refl, λ _. refl)
none-by false [] e = let none : ⊥ = grind (arith, nat_tests) in absurd none
none-by true (n ∷ ns) e = let none : ⊥ = grind (arith, nat_tests) in absurd none
none-by false (n ∷ ns) e = (λ h. absurd cc, λ h. absurd cc)

pub whole-test : (b : Bool) (ns : List ℕ) (rows : List Row) → ns ≡ needs rows → b ≡ (length ns == 0) → IsTrue b ↔ AreAtTheirEnds rows
whole-test b ns rows named e =
    let one = none-by b ns e in
    let all = whole-where-none rows in
    (λ yes. all.0 (sym named ∙ one.0 yes), λ whole. one.1 (named ∙ all.1 whole))
