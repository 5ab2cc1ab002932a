-- What the query of all checkpoints answers, and the rows that are read, one by one.
use Rattle.std.proofs.Common.{◌≡◌, ◌+◌, ◌<◌, ◌++◌, ℕ, pos, inl, inr, List, [], ◌∷◌, length, map, take, get_or, true, IsPermutation, refl, sym, ap, subst, subst₂, ◌∙◌, arith}
use Rattle.std.{proofs.lemmas.List.{map-append, take_more}, proofs.lemmas.List.Concat.flat_map_single, proofs.lemmas.List.Sorted.{IsPermutation-trans, IsPermutation-map, IsPermutation-sym}, specs.List.AllByRecursion}
use Rattle.sqlite.{specs.declared.types.Value.Value, specs.declared.types.Value.TheVariants.{Int, Null, Text as Words, Blob as Bytes}, specs.Order.Row, specs.Query.{IsAnswer, output, page, Output}, specs.Program.overlay, specs.Tree.Trees, specs.Listing.understood, specs.Clock.timed, specs.State.{State, HasCleanDisk, IsUnchanged, Survives, Shown, ShowsRows, CommitsShowing}, proofs.Callers.{IsPlain, reads_as, never_commits}}
use Rattle.sqlite_value.specs.Order.{column}
use Rattle.sqlite_schema.{specs.Rules.passes, specs.declared.schema.Constraint.TheVariants.{Datatype, NotNull}}
use Rattle.sqlite_sql.{specs.Query.output_cmp, proofs.QueryLemmas.output_cmp_total}
use Rattle.sqlite_trees.proofs.ListLemmas.{all-get_or, all-permutation}
use Rattle.sqlite_keyed.{proofs.SortLemmas.sorted_unique, proofs.ListLemmas.{all-map, map-map, map_back}}
use Rattle.sqlite_catalog.specs.Listing.{IsSound}
use Rattle.jb_slice_file.specs.{declared.numbered.Found.Found, CheckpointBytes.CheckpointBytes, TableSchema.{checkpoint, checkpoint_schema}, Chain.{Linked, chained}, Numbered.{Numbered, numbered, numbered_from}, Rows.{shown, shown_from, stored, stored_from}}
use Rattle.jb_slice_file.proofs.{Chains.{chained_once, linked_of, unnumbered}, Texts.{select_text, query, select_is}, Lists.{out, rises}}

-- what the query shows of a row, and the row that it was
abbrev pub shows : Row → Row
shows row = (out row).1

abbrev pub stored_as : Row → Row
stored_as row = column row 0 ∷ Null ∷ column row 1 ∷ column row 2 ∷ column row 3 ∷ []

-- a row that keeps the table's rules has its number, NULL, a text and twice bytes
formed : (db : Trees) (row : Row) → passes Datatype checkpoint_schema db checkpoint row ≡ true → passes NotNull checkpoint_schema db checkpoint row ≡ true → stored_as (shows row) ≡ row
formed db row typed there = grind arith

all_formed : (db : Trees) (rows : List Row) → AllByRecursion (λ row. passes Datatype checkpoint_schema db checkpoint row ≡ true) rows
    → AllByRecursion (λ row. passes NotNull checkpoint_schema db checkpoint row ≡ true) rows → map stored_as (map shows rows) ≡ rows
all_formed db [] typed there = refl
all_formed db (row ∷ rows) typed there = λ i. formed db row typed.0 there.0 i ∷ all_formed db rows typed.1 there.1 i

module _ (old new : State) (ours : old.now.schema ≡ checkpoint_schema) (rows : List Row) (h : Shown select_text [] old new rows) where
  answer : IsAnswer query (overlay old.now.trees []) [] rows
  answer = (reads_as select_text [] old new checkpoint_schema ours _ select_is.0 select_is.2 select_is.1 rows h).answer Null

  -- all rows of the table, and no others
  same_rows : IsPermutation (map out (old.now.trees 0)) answer.ordered
  same_rows =
      let env = λ (r : Row). [] ∷ r ∷ [] in
      let kept = answer.distinct ∙ ap (map (output query)) (answer.grouped ∙ flat_map_single env (old.now.trees 0)) ∙ map-map (output query) env (old.now.trees 0) in
      subst (λ k. IsPermutation k answer.ordered) kept answer.same

  pub lists : (all : List Linked) → IsPermutation (stored_from 1 all) (old.now.trees 0) → rows ≡ shown_from 1 all
  lists all holds =
      let moved = IsPermutation-trans _ _ _ (IsPermutation-map out _ _ holds) same_rows in
      let ordered : answer.ordered ≡ map out (stored_from 1 all) = sorted_unique (output_cmp query) (output_cmp_total query) _ _ (rises 1 all) moved answer.sorted in
      answer.shown ∙ ap (λ xs. page query [] (map (λ (o : Output). o.1) xs)) ordered ∙ map-map (λ (o : Output). o.1) out (stored_from 1 all) ∙ map-map shows stored (numbered_from 1 all)

  shown_rows : IsPermutation (map shows (old.now.trees 0)) rows
  shown_rows =
      let moved = IsPermutation-map (λ (o : Output). o.1) _ _ same_rows in
      subst (λ l. IsPermutation l rows) (map-map (λ (o : Output). o.1) out (old.now.trees 0)) (subst (IsPermutation (map (λ (o : Output). o.1) (map out (old.now.trees 0)))) (sym answer.shown) moved)

  pub wide : AllByRecursion (λ row. length row ≡ 4) rows
  wide = all-permutation (λ row. length row ≡ 4) _ _ shown_rows (all-map (λ row. length row ≡ 4) shows (λ r. refl) (old.now.trees 0))

  -- the rows of the table are those that were read
  pub stored_back : IsSound checkpoint_schema old.now.trees → (found : List Numbered) → rows ≡ map shown found → IsPermutation (map stored found) (old.now.trees 0)
  stored_back sound found is =
      let formed = all_formed old.now.trees (old.now.trees 0) (sound.obeys.rules Datatype).0 (sound.obeys.rules NotNull).0 in
      IsPermutation-sym _ _ (subst₂ IsPermutation formed (ap (map stored_as) is ∙ map-map stored_as shown found)
      (IsPermutation-map stored_as _ _ shown_rows))

  pub unchanged : IsUnchanged old new
  unfolding Shown
  unchanged =
      let plain = subst (λ x. IsPlain (understood x select_text)) (sym ours) select_is.2 in
      let none = (subst IsPlain h.1.is plain).0 in
      (subst (ShowsRows old new select_text h.0 (timed [] h.0.formats h.1.now) rows) none h.2).3

-- a query commits nothing
pub survives : (old new : State) → old.now.schema ≡ checkpoint_schema → HasCleanDisk new → Survives old new (CommitsShowing select_text [] old) → (db : Trees) → new.may_leave db → old.may_leave db
survives old new ours clean s db may = elim (s.crash clean db may) [
  | inl was ↦ was
  | inr is ↦ absurd (never_commits select_text [] old db (subst (λ x. IsPlain (understood x select_text)) (sym ours) select_is.2) is)
]

-- ---- rows and checkpoints

-- a row of four values
pub four_are : (row : Row) (a b c d : Value) → length row ≡ 4 → column row 0 ≡ a → column row 1 ≡ b → column row 2 ≡ c → column row 3 ≡ d → row ≡ a ∷ b ∷ c ∷ d ∷ []
four_are (x ∷ y ∷ z ∷ w ∷ []) a b c d four first second third fourth = λ i. first i ∷ second i ∷ third i ∷ fourth i ∷ []
four_are _ a b c d four first second third fourth = absurd (omega (arith, four))

-- the number, checkpoint and link of a row
back : Row → Numbered
back (Int n ∷ Words saved ∷ Bytes results ∷ Bytes link ∷ []) = record { number = n; linked = record { it = record { saved = saved; results = results }; link = link } }
back _ = record { number = pos 0; linked = record { it = record { saved = []; results = [] }; link = [] } }

pub rows_once : (xs ys : List Numbered) → map shown xs ≡ map shown ys → xs ≡ ys
unfolding back
rows_once xs ys is = sym (map_back shown back (λ x. refl) xs) ∙ ap (map back) is ∙ map_back shown back (λ x. refl) ys

-- two lists that are shown alike are one
pub shown_once : (all others : List CheckpointBytes) → shown_from 1 (chained all) ≡ shown_from 1 (chained others) → all ≡ others
shown_once all others h =
    chained_once all others (sym (unnumbered 1 (chained all)) ∙ ap (map linked_of) (rows_once _ _ h) ∙ unnumbered 1 (chained others))

-- a row more
pub push_row : (rows : List Row) (found : List Found) (at : ℕ) (c : Found) (d : Row) → at < length rows → take at rows ≡ map shown (map numbered found)
    → get_or rows at d ≡ shown (numbered c) → take (at + 1) rows ≡ map shown (map numbered (found ++ c ∷ []))
push_row rows found at c d lt so is = grind (arith, take_more, map-append)

pub wide_at : (rows : List Row) (at : ℕ) (d : Row) → AllByRecursion (λ row. length row ≡ 4) rows → at < length rows → length (get_or rows at d) ≡ 4
wide_at rows at d wide low = all-get_or (λ row. length row ≡ 4) rows at d wide low
