-- What the table's making and a checkpoint's insertion do to the list.
use Rattle.std.proofs.Common.{IsTrue, append-nil, subst₂, ◌≡◌, ◌⊎◌, inl, inr, ℕ, ◌+◌, List, [], ◌∷◌, ◌++◌, length, map, true, false, None, Ok, Err, IsPermutation, refl, sym, ap, subst, ◌∙◌, arith}
use Rattle.std.{proofs.lemmas.Bool.{and_parts, not-true}, proofs.lemmas.List.map-append, proofs.lemmas.List.Sorted.{IsPermutation-refl, IsPermutation-push_more}}
use Rattle.sqlite.{specs.Order.Row, specs.Command.Command, specs.Command.TheVariants.{Commit, CreateTable, Release}, specs.Schema.Schema, specs.Edit.edited, specs.Does.{Tally, Does}, specs.Tree.Trees, specs.declared.error.Error.Error, specs.Listing.understood, specs.Effect.Database, specs.State.{State, HasCleanDisk, mode_of, Writes, Executes, Survives, CommitsBy, MayCommit}, proofs.Callers.{IsPlain, command_of, statement_of, runs_as, one_step}}
use Rattle.sqlite_rules.specs.{Edit.{is_taken, are_fresh}, Action.Writes as RowsWritten}
use Rattle.sqlite_trees.specs.Tree.{put_row}
use Rattle.sqlite_catalog.specs.Listing.{IsSound}
use Rattle.jb_slice_file.specs.{TableSchema.{checkpoint_schema, no_schema}, CheckpointBytes.CheckpointBytes, Chain.{Linked, chained, last_link, link_of}, Numbered.{at_number, numbered_from}, Rows.{HoldsList, StandsFor, stored, stored_from}, Connections.Keeps}
use Rattle.jb_slice_file.proofs.{Chains.{as_many, chained_more, numbered_push}, Failing.by_execution, Opened.rests, Texts.{command, create_is, create_text, insert_is, insert_edit, insert_statement, insert_text, news_are, params}, Lists.put_adds}

-- what the statement that makes the table makes of a database
pub makes : (s : State) → s.now.schema ≡ no_schema → (tally : Tally) (after : Database) → Does s.step_limit (mode_of s) [] s.now create_text None CreateTable (Ok (tally, after)) → HoldsList after []
makes s has tally after changed =
    let both : (after.schema ≡ checkpoint_schema) × (after.trees 0 ≡ []) = grind (arith, create_is) in
    record { schema = both.0; rows = subst (λ rows. IsPermutation [] rows) (sym both.1) (IsPermutation-refl []) }

-- it has the link that it must have behind these
abbrev pub IsNext : List CheckpointBytes → Linked → Type 0
IsNext all one = one.link ≡ link_of (last_link all) (length all + 1) one.it

-- the row that goes in, behind the others
joins : (trees : List Row) (all : List CheckpointBytes) (it : Linked) → IsNext all it → IsPermutation (stored_from 1 (chained all)) trees → is_taken trees (stored (at_number (length all + 1) it)) ≡ false
    → IsPermutation (stored_from 1 (chained (all ++ it.it ∷ []))) (put_row (stored (at_number (length all + 1) it)) trees)
joins trees all it next rows free =
    let many = as_many all in
    let pushed = ap (stored_from 1) (chained_more all it next) ∙ ap (map stored) (numbered_push 1 (chained all) it (length all + 1) (omega (arith, many))) ∙ map-append stored (numbered_from 1 (chained all)) _ in
    subst (λ l. IsPermutation l (put_row (stored (at_number (length all + 1) it)) trees)) (sym pushed) (IsPermutation-push_more _ _ _ _ rows (put_adds _ trees free))

-- what the insert makes of a database
pub inserts : (s : State) (all : List CheckpointBytes) (it : Linked) (number : ℕ) → number ≡ length all + 1 → IsNext all it → HoldsList s.now all → (tally : Tally) (after : Database)
    → Does s.step_limit (mode_of s) (params number it) s.now insert_statement None command (Ok (tally, after))
    → HoldsList after (all ++ it.it ∷ [])
inserts s all it number at next holds tally after changed =
    let db = s.now.trees in
    let edit = insert_edit db number it in
    let ours = subst (λ x. Does s.step_limit (mode_of s) (params number it) (record s.now { schema = x }) insert_statement None command (Ok (tally, after))) holds.schema changed in
    let done : (after.schema ≡ checkpoint_schema) × RowsWritten checkpoint_schema (mode_of s).keys db edit (Ok after.trees) = grind arith in
    let step = one_step checkpoint_schema _ db after.trees edit refl done.1 in
    let news = news_are db number it in
    let free = subst (λ n. are_fresh (db 0) n ≡ true) news step.fresh in
    let put : after.trees 0 ≡ put_row (stored (at_number number it)) (db 0) = step.rows ∙ ap (λ n. edited db (record edit { news = n })) news in
    let apart : is_taken (db 0) (stored (at_number (length all + 1) it)) ≡ false = subst (λ n. is_taken (db 0) (stored (at_number n it)) ≡ false) at (not-true _ (and_parts _ _ free).0) in
    record {
      schema = done.0;
      rows = subst (λ l. IsPermutation (stored_from 1 (chained (all ++ it.it ∷ []))) l) (sym (put ∙ ap (λ n. put_row (stored (at_number n it)) (db 0)) at)) (joins (db 0) all it next holds.rows apart);
    }

-- what a statement commits whose text is known, which neither commits nor releases, and which makes these of the list
module _ (s : State) (sql : List ℕ) (given : Row) (schema : Schema) (has : s.now.schema ≡ schema) (command : Command) (is : command_of (understood schema sql) ≡ command)
    (plain : IsPlain (understood schema sql)) (other : (command ≡ Commit → ⊥) × ((name : List ℕ) → command ≡ Release name → ⊥)) (all : List CheckpointBytes)
    (lists : (tally : Tally) (after : Database) → Does s.step_limit (mode_of s) given s.now (statement_of sql (understood schema sql)) None command (Ok (tally, after)) → HoldsList after all) where
  commits : (db : Trees) → CommitsBy sql given s db → StandsFor db all
  unfolding CommitsBy
  commits db h =
      let known = sym h.1.is ∙ ap (λ x. understood x sql) has in
      let bare = subst IsPlain (sym known) plain in
      let may = subst₂ (λ k t. MayCommit s None k t given db) (ap command_of known ∙ is) (ap (statement_of sql) known) (rw (bare.0, bare.1, append-nil given) at h.2) in
      elim may [
        | inl w ↦ absurd (elim w.0 [ inl is ↦ other.0 is | inr released ↦ other.1 released.0 released.2 ])
        | inr w ↦
            let holds = lists w.1 w.2 w.3 in
            subst (λ x. StandsFor x all) (sym w.5) (record { sound = subst (λ x. IsSound x w.2.trees) holds.schema w.4; rows = holds.rows })
      ]

module _ (old new : State) (settled : (db : Trees) → IsTrue new.is_open → new.may_leave db → db ≡ new.committed.trees) (all : List CheckpointBytes) where
  -- a write that was made and committed
  wrote : {command : Command} {text : List ℕ} {row : Row} {count : ℕ} → old.in_transaction ≡ false → Writes old new None command text row count → HoldsList new.now all → Keeps new all
  wrote autocommit w holds = grind (arith, rests new settled)

  -- a connection that shows the last commit, and nothing new was committed
  undone : Keeps old all → (IsTrue old.is_open → old.may_leave old.committed.trees) → IsTrue new.is_open → IsTrue old.is_open → new.now ≡ old.committed → new.committed ≡ old.committed → new.in_transaction ≡ false → Keeps new all
  undone keeps stays is_open was_open now committed mode =
      let holds : HoldsList old.committed all = subst (λ d. HoldsList d all) (keeps.same was_open) keeps.shows in
      let sound = subst (λ x. IsSound x old.committed.trees) (sym holds.schema) (keeps.leaves _ (stays was_open)).sound in
      rests new settled mode is_open (now ∙ sym committed) all (subst (λ d. HoldsList d all) (sym now) holds) (subst (λ (d : Database). IsSound d.schema d.trees) (sym now) sound)

  pub fails : (it : Linked) (number : ℕ) (e : Error) → Keeps old all → (IsTrue old.is_open → old.may_leave old.committed.trees) → Executes insert_text (params number it) old new (Err e) → IsTrue new.is_open → Keeps new all
  fails it number e keeps stays h is_open = elim (by_execution old new (λ x. Unit {0}) (λ x f. tt) e insert_text (params number it) checkpoint_schema keeps.shows.schema command insert_is.0 insert_is.1 (λ d. tt) (λ d. tt) h).1 [
    | inl u ↦ undone keeps stays is_open u.0.was_open (u.0.now_is ∙ keeps.same u.0.was_open) u.0.committed_is (u.0.mode ∙ keeps.autocommit)
    | inr r ↦ let back = r.undone is_open in undone keeps stays is_open (r.was_open is_open) back.0 back.1 r.autocommit
  ]

module _ (old new : State) (settled : (db : Trees) → IsTrue new.is_open → new.may_leave db → db ≡ new.committed.trees) where
  pub appended : (all : List CheckpointBytes) (it : Linked) (number count : ℕ) → number ≡ length all + 1 → IsNext all it → Keeps old all → Executes insert_text (params number it) old new (Ok count)
      → Keeps new (all ++ it.it ∷ [])
  appended all it number count at next keeps h =
      let w = runs_as insert_text (params number it) old new checkpoint_schema keeps.shows.schema command insert_is.0 insert_is.1 count h in
      wrote old new settled (all ++ it.it ∷ []) keeps.autocommit w (inserts old all it number at next keeps.shows w.tally new.now w.changed)

  pub made : (count : ℕ) → old.now.schema ≡ no_schema → old.in_transaction ≡ false → Executes create_text [] old new (Ok count) → Keeps new []
  made count has autocommit h =
      let w = subst (λ t. Writes old new None CreateTable t [] count) create_is.1 (runs_as create_text [] old new no_schema has CreateTable create_is.0 create_is.3 count h) in
      wrote old new settled [] autocommit w (makes old has w.tally new.now w.changed)

-- What a crash during the calls leaves: what it left before, or the new list.
pub made_survives : (old new : State) → old.now.schema ≡ no_schema → HasCleanDisk new → Survives old new (CommitsBy create_text [] old) → (db : Trees) → new.may_leave db → old.may_leave db ⊎ StandsFor db []
made_survives old new has clean s db may = elim (s.crash clean db may) [ inl was ↦ inl was | inr is ↦ inr (commits old create_text [] no_schema has CreateTable create_is.0 create_is.3 ((λ e. cc), (λ n e. cc)) [] (λ t d does. makes old has t d (subst (λ x. Does old.step_limit (mode_of old) [] old.now x None CreateTable (Ok (t, d))) create_is.1 does)) db is) ]

pub survived : (old new : State) (all : List CheckpointBytes) (it : Linked) (number : ℕ) → number ≡ length all + 1 → IsNext all it → Keeps old all → HasCleanDisk new → Survives old new (CommitsBy insert_text (params number it) old)
    → (db : Trees) → new.may_leave db → StandsFor db all ⊎ StandsFor db (all ++ it.it ∷ [])
survived old new all it number at next keeps clean s db may = elim (s.crash clean db may) [ inl was ↦ inl (keeps.leaves db was) | inr is ↦ inr (commits old insert_text (params number it) checkpoint_schema keeps.shows.schema command insert_is.0 insert_is.1 ((λ e. cc), (λ n e. cc)) (all ++ it.it ∷ []) (inserts old all it number at next keeps.shows) db is) ]
