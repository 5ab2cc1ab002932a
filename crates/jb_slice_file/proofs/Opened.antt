-- A connection that was just opened, and one that only read.
use Rattle.std.proofs.Common.{◌≡◌, ◌⊎◌, false, inl, inr, List, [], length, arith, IsTrue, sym, ap, subst, ◌∙◌}
use Rattle.sqlite.{specs.Effect.Database, specs.State.{State, IsUnchanged}, specs.Tree.Trees, specs.Schema.Schema}
use Rattle.sqlite_trees.specs.Objects.{catalog_tree}
use Rattle.sqlite_catalog.{specs.Listing.IsSound, proofs.ReadLemmas.lists_once}
use Rattle.jb_slice_file.specs.{TableSchema.{checkpoint_schema, no_schema}, CheckpointBytes.CheckpointBytes, Rows.{AreIn, HoldsList, StandsFor, Has, ShowsList}, Connections.{IsJustOpened, Keeps}}

module _ (s : State) (settled : (db : Trees) → IsTrue s.is_open → s.may_leave db → db ≡ s.committed.trees) where
  -- a connection at rest that shows these checkpoints
  pub rests : s.in_transaction ≡ false → IsTrue s.is_open → s.now ≡ s.committed → (all : List CheckpointBytes) → HoldsList s.now all → IsSound s.now.schema s.now.trees → Keeps s all
  rests autocommit is_open same all holds sound = grind (arith, settled)

  module _ (opened : IsJustOpened s) where
    pub is_left : (db : Trees) → s.may_leave db → db ≡ s.now.trees
    is_left db may = settled db opened.0.is_open may ∙ ap (λ (d : Database). d.trees) (sym opened.0.clean)

    pub is_sound : s.now.schema ≡ checkpoint_schema → IsSound checkpoint_schema s.now.trees
    is_sound ours = subst (λ x. IsSound x s.now.trees) ours (opened.1 opened.0.is_open).0

    pub keeps_found : s.now.schema ≡ checkpoint_schema → (all : List CheckpointBytes) → AreIn s.now.trees all → Keeps s all
    keeps_found ours all rows = rests opened.0.autocommit opened.0.is_open opened.0.clean all (record { schema = ours; rows = rows }) (opened.1 opened.0.is_open).0

-- the files held a database that stands for the list, and the open found it
pub shows_found : (s : State) → IsJustOpened s → (db : Trees) → s.committed.trees ≡ db → (all : List CheckpointBytes) → Has db all → ShowsList s.now all
shows_found s opened db is all has =
    let live = (opened.1 opened.0.is_open).0 in
    let trees : s.now.trees ≡ db = ap (λ (d : Database). d.trees) opened.0.clean ∙ is in
    let schema_is = λ (x : Schema) (sound : IsSound x db). lists_once (s.now.trees catalog_tree) s.now.schema x live.lists (subst (λ t. IsSound x t) (sym trees) sound).lists in
    elim has [
      | inl stands ↦ inl (record { schema = schema_is checkpoint_schema stands.sound; rows = subst (λ t. AreIn t all) (sym trees) stands.rows })
      | inr none ↦ inr (schema_is no_schema none.0, none.1)
    ]

-- what the database has it shows, and the other way about
pub shows_now : (s : State) → IsJustOpened s → (all : List CheckpointBytes) → Has s.now.trees all → ShowsList s.now all
shows_now s opened all has = shows_found s opened s.now.trees (sym (ap (λ (d : Database). d.trees) opened.0.clean)) all has

has_shown : (s : State) → IsJustOpened s → (all : List CheckpointBytes) → ShowsList s.now all → Has s.now.trees all
has_shown s opened all (inl holds) = inl (record { sound = subst (λ x. IsSound x s.now.trees) holds.schema (opened.1 opened.0.is_open).0; rows = holds.rows })
has_shown s opened all (inr none) = inr (subst (λ x. IsSound x s.now.trees) none.0 (opened.1 opened.0.is_open).0, none.1)

-- what a crash leaves while the list is taken has the same one
pub has_left : (s : State) → IsJustOpened s → (all : List CheckpointBytes) → ShowsList s.now all → (db : Trees) → (db ≡ s.now.trees) ⊎ ((s.now.schema ≡ no_schema) × StandsFor db []) → Has db all
has_left s opened all shows db (inl same) = subst (λ t. Has t all) (sym same) (has_shown s opened all shows)
has_left s opened all (inl holds) db (inr fresh) =
    absurd (let tables = ap (λ (x : Schema). length x.tables) (sym holds.schema ∙ fresh.0) in omega (arith, tables))
has_left s opened all (inr none) db (inr fresh) = inl (subst (StandsFor db) (sym none.1) fresh.1)

-- what only read keeps the list
pub keeps_read : (old new : State) (all : List CheckpointBytes) → Keeps old all → IsUnchanged old new → ((db : Trees) → new.may_leave db → old.may_leave db) → Keeps new all
keeps_read old new all keeps u left = record {
  autocommit = u.0.mode ∙ keeps.autocommit;
  same = λ _. u.0.now_is ∙ keeps.same u.0.was_open ∙ sym u.0.committed_is;
  shows = subst (λ d. HoldsList d all) (sym u.0.now_is) keeps.shows;
  leaves = λ db may. keeps.leaves db (left db may);
}
