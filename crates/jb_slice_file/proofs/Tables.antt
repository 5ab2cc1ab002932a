-- One file that is read under two lists of tables: where each has the table of checkpoints alone, or none, they are one list.
use Rattle.std.proofs.Common.{◌≡◌, ◌⊎◌, ◌+◌, ◌++◌, ◌∷◌, ◌∙◌, ℕ, true, false, not, List, [], None, pos, inl, inr, refl, sym, ap, subst, subst₂, true≢false, arith}
use Rattle.std.{specs.List.list_any, proofs.lemmas.Bool.and_parts, proofs.lemmas.Map.Text.is_eq-slice_cmp, proofs.lemmas.Slice.Eq.bytes_eq-Decides}
use Rattle.sqlite_btree.proofs.StoredLemmas.{stored_root_live}
use Rattle.sqlite_catalog.{proofs.LayoutLemmas.{row_kind, table_shape, zipped_right}, specs.Listing.{IsIndexRow, IsTableRow, IsViewRow, Lists, is_index_row, is_table_row, is_view_row}}
use Rattle.sqlite.specs.{Schema.Schema, Table.Table as TableOf}
use Rattle.sqlite_pages.specs.PageMap.{PageMap}
use Rattle.sqlite_pool.{proofs.PoolLemmas.none_of, specs.File.{IsSoundFile, in_use, unlocked}, specs.FreeList.live}
use Rattle.sqlite_rules.{proofs.ListLemmas.{has_kept, test_has}, specs.Lists.Has}
use Rattle.sqlite_store.{proofs.ExactLemmas.{absent_describes, entries_present}, proofs.ListingLemmas.{listing_shaped, named_shape}, specs.Build.listing, specs.Catalog.{describes, fits_shape, has_no_pages, is_present, may_stand, root_in, roots_in, same_value}, specs.Db.{IsFile, IsKept, roots_of, rows_at}, specs.Exact.entries_of, specs.Listed.is_listed, specs.Listing.{IsOurs, listed, listed_from}, specs.declared.catalog.Wanted.Wanted}
use Rattle.sqlite_trees.{specs.Objects.listing as object_listing, specs.Sound.{is_virtual}, specs.declared.store.Shape.Shape, specs.declared.store.Shape.TheVariants.Table}
use Rattle.sqlite_value.{proofs.OrderLemmas.value_cmp-Text, specs.Order.{Row, column}, specs.declared.value.Value.TheVariants.{Int, Text}}
use Rattle.jb_slice_file.specs.TableSchema.{checkpoint, checkpoint_schema, no_schema}

same_text : (a b : List ℕ) → same_value (Text a) (Text b) ≡ true → a ≡ b
same_text a b same = grind (arith, bytes_eq-Decides, is_eq-slice_cmp, value_cmp-Text)

-- an object of a database with no index and no view is a table
tabled : (schema : Schema) (objects : List Row) (row : Row) → schema.indexes ≡ [] → schema.views ≡ [] → Lists objects schema → Has objects row
    → (table : TableOf) × Has schema.tables table × (is_table_row row ≡ true) × IsTableRow row table
tabled schema objects row unindexed unviewed lists has = elim (row_kind row) [
  | inl table ↦ let found = zipped_right IsTableRow _ schema.tables row lists.listed.tables (has_kept is_table_row objects row has table) in (found.0, found.1, table, found.2)
  | inr (inl index) ↦ let found = zipped_right (IsIndexRow schema.tables) _ schema.indexes row lists.listed.indexes (has_kept is_index_row objects row has index) in
      absurd (subst (λ l. Has l found.0) unindexed found.1)
  | inr (inr view) ↦ let found = zipped_right IsViewRow _ schema.views row lists.listed.views (has_kept is_view_row objects row has view) in absurd (subst (λ l. Has l found.0) unviewed found.1)
]

-- the objects of a database of checkpoints: one row, that of the table
one_row : (objects : List Row) → Lists objects checkpoint_schema → (row : Row) × (objects ≡ row ∷ []) × IsTableRow row checkpoint
one_row [] lists = absurd lists.listed.tables
one_row (row ∷ []) lists =
    let t = tabled checkpoint_schema (row ∷ []) row refl refl lists (inl refl) in
    (row, refl, elim t.1 [ inl is ↦ subst (IsTableRow row) is t.3 | inr none ↦ absurd none ])
one_row (row ∷ other ∷ more) lists =
    let a = tabled checkpoint_schema _ row refl refl lists (inl refl) in
    let b = tabled checkpoint_schema _ other refl refl lists (inr (inl refl)) in
    let two = lists.listed.tables in
    absurd (let x = rw (a.2, b.2) at two in x.1)

no_row : (objects : List Row) → Lists objects no_schema → objects ≡ []
no_row [] lists = refl
no_row (row ∷ more) lists = absurd (tabled no_schema _ row refl refl lists (inl refl)).1

-- the first tree of such a database is the table, and the others are gaps
first_tree : (w : Wanted) (gaps : List Wanted) → Lists (listed_from 0 (w ∷ gaps)) checkpoint_schema
    → (w.shape ≡ Table) × IsTableRow (object_listing 0 w.row Table w.reals) checkpoint × (listed_from 1 gaps ≡ [])
first_tree w gaps lists =
    let one = one_row _ lists in
    let shape : w.shape ≡ Table = sym (named_shape 0 (omega arith) (w ∷ gaps))
    ∙ (table_shape (is_listed (w ∷ gaps)) (listing_shaped 0 (w ∷ gaps)).0 lists.listed checkpoint (inl refl)).0 in
    let all : object_listing 0 w.row Table w.reals ∷ listed_from 1 gaps ≡ one.0 ∷ [] =
    ap (λ (s : Shape). listed 0 w s ++ listed_from 1 gaps) (sym shape) ∙ one.1 in
    (shape, subst (λ r. IsTableRow r checkpoint) (cc) one.2, cc)

-- where no object is listed, no entry is, and none is described
all_gaps : (from id : ℕ) (schema : List Wanted) (entries : List Row) (entry : Row) → listed_from from schema ≡ []
    → (entries_of id schema (roots_in entries schema) ≡ []) × (list_any (λ w. describes w entry) schema ≡ false)
all_gaps from id [] entries entry none = (refl, refl)
all_gaps from id (w ∷ schema) entries entry none =
    let gap : (is_present w.shape ≡ false) × (listed_from (from + 1) schema ≡ []) = grind arith in
    let later = all_gaps (from + 1) (id + 1) schema entries entry gap.1 in
    (rw gap.0 later.0, rw (absent_describes w entry gap.0) later.1)

-- what describes an entry has its text
text_of : (w : Wanted) (entry : Row) → describes w entry ≡ true → same_value (column entry 5) (column w.row 3) ≡ true
unfolding describes
text_of w entry is = (and_parts _ _ is).1

-- an entry that nothing describes has no pages
aside_is_virtual : (schema : List Wanted) (entry : Row) → may_stand schema entry ≡ true → list_any (λ w. describes w entry) schema ≡ false → is_virtual (column entry 1) (column entry 5) ≡ true
unfolding may_stand has_no_pages
aside_is_virtual schema entry stands none = let known = rw none at stands in (and_parts _ _ (and_parts _ _ (and_parts _ _ (and_parts _ _ known).1).0).0).1

no_page_zero : (size : ℕ) (pages : PageMap) → IsSoundFile size pages → in_use size pages 0 ≡ None
unfolding in_use live unlocked
no_page_zero size pages sound = let none = none_of (pages 0) (λ some. omega (arith, ((sound.counted 0).0 some).0)) in grind arith

-- the objects of a database of checkpoints, or none
abbrev pub IsChecked : List Row → Type 0
IsChecked objects = Lists objects checkpoint_schema ⊎ Lists objects no_schema

module _ (size : ℕ) (pages : PageMap) where
  abbrev entries : List Row
  entries = rows_at size (in_use size pages) Table 1

  -- a table has a root, and so the file has an entry
  no_table : (w : Wanted) (gaps : List Wanted) → IsFile size (w ∷ gaps) pages → w.shape ≡ Table → entries ≡ [] → ⊥
  unfolding roots_of
  no_table w gaps file table none =
      let first : IsKept size (file.db.layouts 1) Table 0 =
      subst₂ (IsKept size (file.db.layouts 1)) table (ap (λ rows. root_in rows w) none) (file.db.trees.kept 1) in
      let x = sym ((file.db.trees.laid 1).nodes 0 (stored_root_live first.1.stored)) ∙ no_page_zero size pages file.sound in cc

  -- the entry of their table is described by one of ours
  described : (wanted : List Wanted) (y : Wanted) (gaps : List Wanted) → IsFile size wanted pages → IsOurs size true (y ∷ gaps) pages
      → y.shape ≡ Table → list_any (λ w. describes w (Int (pos 1) ∷ listing y (root_in entries y))) wanted ≡ true
  unfolding roots_of
  described wanted y gaps file exact table =
      let entry : Row = Int (pos 1) ∷ listing y (root_in entries y) in
      let listed = (exact.numbered refl).listed ∙ entries_present 1 y gaps (root_in entries y) (roots_in entries gaps) (ap is_present table) in
      let at : Has entries entry = subst (λ rows. Has rows entry) (sym listed) (inl refl) in
      let stands = test_has (may_stand wanted) entries entry (and_parts _ _ (and_parts _ _ (and_parts _ _ file.db.known).0).0).0 at in
      let fits = test_has fits_shape (y ∷ gaps) y (and_parts _ _ (and_parts _ _ exact.file.db.known).0).1 (inl refl) in
      let solid : not (is_virtual (column entry 1) (column entry 5)) ≡ true = (and_parts _ _ (rw table at fits)).1 in
      let aside = aside_is_virtual wanted entry stands in grind arith

  -- so where theirs are checkpoints or nothing, and ours too, they are one list
  pub one_list : (wanted other : List Wanted) → IsFile size wanted pages → IsOurs size true other pages → IsChecked (listed_from 0 wanted)
      → IsChecked (listed_from 0 other) → listed_from 0 other ≡ listed_from 0 wanted
  unfolding roots_of
  one_list wanted other file exact (inr ours) (inr theirs) = no_row _ theirs ∙ sym (no_row _ ours)
  one_list [] other file exact (inl ours) theirs = absurd ours.listed.tables
  one_list wanted [] file exact ours (inl theirs) = absurd theirs.listed.tables
  one_list (w ∷ gaps) other file exact (inl ours) (inr theirs) =
      absurd (no_table w gaps file (first_tree w gaps ours).0 ((exact.numbered refl).listed ∙ (all_gaps 0 1 other entries [] (no_row _ theirs)).0))
  one_list wanted (y ∷ rest) file exact (inr ours) (inl theirs) =
      absurd (true≢false (sym (described wanted y rest file exact (first_tree y rest theirs).0) ∙ (all_gaps 0 1 wanted entries _ (no_row _ ours)).1))
  one_list (w ∷ gaps) (y ∷ rest) file exact (inl ours) (inl theirs) =
      let a = first_tree w gaps ours in
      let b = first_tree y rest theirs in
      let entry : Row = Int (pos 1) ∷ listing y (root_in entries y) in
      let is = described (w ∷ gaps) y rest file exact b.0 in
      let text : same_value (column y.row 3) (column w.row 3) ≡ true = grind (arith, text_of w entry, (all_gaps 1 2 gaps entries entry a.2).1) in
      let texts : b.1.sql ≡ a.1.sql = same_text _ _ (rw (sym b.1.sql_is, sym a.1.sql_is) text) in
      let here = a.1.described in
      let there = b.1.described in
      rw (a.0, b.0, a.2, b.2) (cc)
