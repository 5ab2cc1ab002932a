-- Why a statement fails, by the name of its error: one that makes the table, one that reads it, and one that inserts.
use Rattle.std.proofs.Common.{◌≡◌, ◌⊎◌, ◌∙◌, inl, inr, ℕ, zero, suc, List, append-nil, false, Ok, Err, Option, Some, None, option_map, sym, ap, subst, subst₂, ◌≤◌, ◌+◌, ◌^◌, [], ◌∷◌, length, codes, arith}
use Rattle.std.{specs.Prelude.MatchOption, proofs.lemmas.Bool.cases_Bool, proofs.lemmas.List.length-append, proofs.lemmas.List.Elements.All-from_recursion, proofs.lemmas.List.Sums.sum_by-cons, proofs.lemmas.Nat.Bits.bit_at-zero, specs.Float.NotNan, specs.Int.bit_at}
use lib.Ieee.{is_nan}
use Rattle.sqlite.{specs.declared.types.Value.Value, specs.declared.error.Error.Error, specs.declared.error.Error.TheVariants.ExecuteReturnedResults, specs.Command.Command, specs.Order.Row, specs.Source.TheVariants.Values, specs.Schema.Schema, specs.Does.Does, specs.Listing.understood, specs.Clock.timed, specs.State.{State, mode_of, Executes, ExecutesIn, IsNotRun, IsRolledBack, IsUnchanged, IsNoStatement, RunsCommand, Fails, shows_rows, text_of, FailsToQuery, FailsToShow}, proofs.Callers.{IsPlain, command_of, statement_of}, specs.Command.TheVariants.{CreateTable, Select}, specs.Compile.table_defined_by, specs.Effect.{Database, RefusesToRead, edit_error}, specs.Rows.{Task, Sourced, Inserts, stamped}, specs.Table.Table, specs.Edit.{Edit, edit_of}, specs.Rowids.TheVariants.Chosen}
use Rattle.sqlite_value.specs.Order.{number as number_of}
use Rattle.sqlite_trees.{specs.View.IsStorable, specs.Tree.Trees}
use Rattle.sqlite_schema.{specs.declared.schema.Constraint.TheVariants.PrimaryKey, specs.declared.schema.Keys.Keys, specs.Rules.table_reals}
use Rattle.sqlite_rules.{specs.declared.error.Refusal.Refusal, specs.declared.error.Refusal.TheVariants.Violates, specs.Edit.{are_fresh, IsOversized, IsRefused}, specs.Lists.Has, specs.Action.{Writes, Leads}}
use Rattle.sqlite_resolve.specs.declared.compiled.Compiled.{Compiled}
use Rattle.jb_slice_file.specs.{declared.error.StoreError.StoreError, declared.error.StoreError.TheVariants.TooLong, Errors.{refusal_named, IsCaused, IsStoreFault}, TableSchema.{checkpoint, checkpoint_schema, no_schema}, Rows.{HasNumber, HoldsList, IsTooLong, stored}, CheckpointBytes.CheckpointBytes, Chain.Linked, Numbered.at_number}
use Rattle.jb_slice_file.proofs.{Texts.{command, create_is, create_text, insert_is, insert_statement, insert_text, params, query, select_is, select_text, news_are, terms}, Lists.taken_has}

-- What holds of each fault of the store holds of a failure, unless SQLite refuses the command itself.
module _ (old new : State) (Why : StoreError → Type 0) (faulty : (x : StoreError) → IsStoreFault old new x → Why x) (e : Error) where
  pub by_failure : (Big : Type 0) → (Big → Why TooLong) → Fails old new Big e → Why (refusal_named e)
  by_failure Big long f = grind (arith, faulty)

  pub no_statement : (sql : List ℕ) (given : Row) → IsNoStatement old sql given e → Why (refusal_named e)
  no_statement sql given h = grind (arith, faulty)

  -- a text that is understood as this command
  module _ (sql : List ℕ) (given : Row) (schema : Schema) (has : old.now.schema ≡ schema) (command : Command) (is : command_of (understood schema sql) ≡ command)
      (plain : IsPlain (understood schema sql)) where
    abbrev Stops : Option Error → Type 0
    Stops why = Does old.step_limit (mode_of old) given old.now (statement_of sql (understood schema sql)) None command (Err why)

    stops : (c : Compiled) (now : ℕ) → understood old.now.schema sql ≡ Ok c → (why : Option Error)
        → Does old.step_limit (mode_of old) (timed given c.formats now) old.now (text_of sql c) c.returning c.command (Err why) → Stops why
    stops c now read why d =
        let known = sym read ∙ ap (λ s. understood s sql) has in
        let bare = subst IsPlain (sym known) plain in
        subst₂ (λ k t. Does old.step_limit (mode_of old) given old.now t None k (Err why)) (ap command_of known ∙ is) (ap (statement_of sql) known) (rw (bare.0, bare.1, append-nil given) at d)

    run : (Stops (Some e) → Why (refusal_named e)) → (Stops None → Why TooLong) → (c : Compiled) (now : ℕ) → understood old.now.schema sql ≡ Ok c
        → RunsCommand old new sql c (timed given c.formats now) (Err e) → Why (refusal_named e) × (IsUnchanged old new ⊎ IsRolledBack old new)
    run refused long c now read h = grind (arith, faulty, stops, by_failure)

    -- why it failed; and nothing was changed, or all was undone
    pub by_execution : (Stops (Some e) → Why (refusal_named e)) → (Stops None → Why TooLong) → Executes sql given old new (Err e) → Why (refusal_named e) × (IsUnchanged old new ⊎ IsRolledBack old new)
    unfolding ExecutesIn IsNotRun
    by_execution refused long (inl (inl u)) = (no_statement sql given u.0, inl u.1)
    by_execution refused long (inl (inr f)) = (by_failure ⊥ (λ x. absurd x) f, inr f.3)
    by_execution refused long (inr r) = elim (cases_Bool (shows_rows false r.0)) [
      | inl shows ↦ let k = rw shows at r.2 in (let is : e ≡ ExecuteReturnedResults = (let n = k.0 in cc) in faulty _ (rw is tt), inl k.1)
      | inr runs ↦ run refused long r.0 r.1.now r.1.is (rw runs at r.2)
    ]

-- the table that the text defines is ours
same_table : (table : Table) → table_defined_by create_text ≡ Ok table → table ≡ checkpoint
same_table table defined = let both : Ok table ≡ Ok checkpoint = sym defined ∙ create_is.2 in cc

module _ (old new : State) where
  module _ (has : old.now.schema ≡ no_schema) where
    abbrev Unmade : List ℕ → Option Error → Type 0
    Unmade text why = Does old.step_limit (mode_of old) [] old.now text None CreateTable (Err why)

    unmade_by : (why : Option Error) → Unmade create_text why → MatchOption why ⊥ (λ e. IsStoreFault old new (refusal_named e))
    unmade_by why h = grind (arith, same_table)

    pub unmade : (e : Error) → Executes create_text [] old new (Err e) → IsStoreFault old new (refusal_named e)
    unmade e h = (by_execution old new (IsStoreFault old new) (λ x f. f) e create_text [] no_schema has CreateTable create_is.0 create_is.3
        (λ d. unmade_by (Some e) (subst (λ t. Unmade t (Some e)) create_is.1 d))
        (λ d. absurd (unmade_by None (subst (λ t. Unmade t None) create_is.1 d))) h).0

  -- its rows aren't read
  unread : (db : Database) (row : Row) (e : Error) → RefusesToRead old.step_limit (Select (record { lets = []; body = query }) (codes "number" ∷ codes "saved" ∷ codes "results" ∷ codes "link" ∷ [])) db row e
      → IsStoreFault old new (refusal_named e)
  unread db row e h = grind arith

  pub not_read : old.now.schema ≡ checkpoint_schema → (e : Error) → FailsToQuery select_text [] old new e → IsStoreFault old new (refusal_named e)
  unfolding FailsToQuery IsNotRun
  not_read ours e (inl (inl u)) = no_statement old new (IsStoreFault old new) (λ x f. f) e select_text [] u.0
  not_read ours e (inl (inr f)) = by_failure old new (IsStoreFault old new) (λ x f. f) e ⊥ (λ x. x) f
  not_read ours e (inr (c, it, shows)) =
      let known : Ok c ≡ understood checkpoint_schema select_text = sym it.is ∙ ap (λ x. understood x select_text) ours in
      let bare : IsPlain (Ok c) = subst IsPlain (sym known) select_is.2 in
      let row = timed [] c.formats it.now in
      let plain = subst (FailsToShow old new select_text c row e) bare.0 shows in
      unread plain.0 row e (subst (λ k. RefusesToRead old.step_limit k plain.0 row e) (ap command_of known ∙ select_is.0) plain.2)

-- ---- an insertion

-- a row sets nothing off, and so nothing that it sets off fails
goes_on : (schema : Schema) (keys : Keys) (db : Trees) (why : Option Refusal) (n : ℕ) → Leads schema keys n db [] (Err why) → ⊥
goes_on schema keys db why zero h = let e = h.1 in cc
goes_on schema keys db why (suc n) h = omega (arith, ap length h.2, length-append h.0 (h.1 ∷ []))

-- the row of a checkpoint can't be stored where it is too long alone
storable : (number : ℕ) (one : Linked) → length one.link ≡ 32 → 122 + length one.it.saved + length one.it.results ≤ 10 ^ 9 → IsStorable (table_reals checkpoint) (stored (at_number number one))
unfolding is_nan
storable number one wide short = record {
  typed = λ c set. absurd (let none : bit_at (table_reals checkpoint) c ≡ 0 = bit_at-zero c in omega arith);
  columns = (omega arith, omega arith);
  numbers = All-from_recursion (λ (v : Value). NotNan (number_of v)) (stored (at_number number one)) (tt, (tt, (tt, (tt, (tt, tt)))));
  short = simp sum_by-cons (omega (arith, wide, short));
}

too_long : (number : ℕ) (one : Linked) → length one.link ≡ 32 → IsOversized checkpoint_schema checkpoint (stored (at_number number one)) → IsTooLong one.it
too_long number one wide (inr index) = absurd index.1
too_long number one wide (inl never) = grind (arith, storable number one wide)

module _ (old new : State) (all : List CheckpointBytes) (holds : HoldsList old.now all) (it : Linked) (wide : length it.link ≡ 32) (number : ℕ) (full : Type 0) where
  abbrev Why : StoreError → Type 0
  Why = IsCaused old new (HasNumber all number) (IsTooLong it.it) full

  faulty : (x : StoreError) → IsStoreFault old new x → Why x
  faulty x h = grind arith

  by_rules : (r : Refusal) → (r ≡ Violates PrimaryKey → HasNumber all number) → Why (refusal_named (edit_error r))
  by_rules r has = grind arith

  abbrev task : Task
  task = record { limit = old.step_limit; keys = (mode_of old).keys; schema = checkpoint_schema; table = checkpoint; params = params number it }

  -- the row that goes in
  abbrev edit : List Row → Edit
  edit rows = edit_of old.now.trees checkpoint [] Chosen 0 rows

  -- what it tells that the insertion stopped: with no error if the row is too long
  abbrev Reason : Option Error → Type 0
  Reason None = IsTooLong it.it
  Reason (Some e) = Why (refusal_named e)

  unsourced : (stop : Option Error) → Sourced old.step_limit (record { schema = checkpoint_schema; trees = old.now.trees })
      (stamped checkpoint (params number it)) (Values terms 5) (Err stop) → Reason stop
  unsourced stop h = grind arith

  stopped : (rows : List Row) → (edit rows).news ≡ stored (at_number number it) ∷ [] → (why : Option Refusal)
      → Writes checkpoint_schema (mode_of old).keys old.now.trees (edit rows) (Err why) → Reason (option_map edit_error why)
  stopped rows news why (inl r) =
      let is : Some r.0 ≡ why = (let e = r.2 in cc) in
      subst (λ w. Reason (option_map edit_error w)) is (by_rules r.0 (λ taken_is.
      let stale : are_fresh (old.now.trees 0) (edit rows).news ≡ false = subst (IsRefused checkpoint_schema (mode_of old).keys old.now.trees (edit rows)) taken_is r.1 in
      taken_has (old.now.trees 0) all number it holds.rows (let free = subst (λ n. are_fresh (old.now.trees 0) n ≡ false) news stale in grind arith)))
  stopped rows news why (inr (inl big)) =
      let is : None ≡ why = (let e = big.3 in cc) in
      let same : big.0 ≡ stored (at_number number it) = elim (subst (λ n. Has n big.0) news big.1) [ inl one ↦ one | inr none ↦ absurd none ] in
      subst (λ w. Reason (option_map edit_error w)) is (too_long number it wide (subst (IsOversized checkpoint_schema checkpoint) same big.2))
  stopped rows news why (inr (inr went)) = absurd (goes_on checkpoint_schema (mode_of old).keys went.0 _ went.2.0 went.2.1)

  inserted : (stop : Option Error) → Inserts task (Values terms 5) old.now.trees (Err stop) → Reason stop
  inserted stop (inl h) = let same : h.0 ≡ stop = (let k = h.2 in cc) in subst Reason same (unsourced h.0 h.1)
  inserted stop (inr (rows, s, inl h)) = absurd (let k = h.1 in cc)
  inserted stop (inr (rows, s, inr (c, t, inl h))) =
      let same : stop ≡ option_map edit_error h.1.0 = (let k = h.2 in let m = h.1.2 in cc) in
      subst Reason (sym same) (stopped rows (ap (λ r. (edit r).news) s.1 ∙ news_are old.now.trees number it) h.1.0 h.1.1)
  inserted stop (inr (rows, s, inr (c, t, inr h))) = grind arith

  -- the row wasn't written, or it was, and broke a reference
  failed : (stop : Option Error) → Does old.step_limit (mode_of old) (params number it) (record old.now { schema = checkpoint_schema }) insert_statement None
      command (Err stop) → Reason stop
  failed stop (inl h) = let same : h.0 ≡ stop = (let k = h.2 in cc) in subst Reason same (inserted h.0 h.1)
  failed stop (inr h) = grind arith

  pub caused : (e : Error) → Executes insert_text (params number it) old new (Err e) → Why (refusal_named e)
  caused e h =
      let ours = λ (why : Option Error). subst (λ x. Does old.step_limit (mode_of old) (params number it) (record old.now { schema = x }) insert_statement None command (Err why)) holds.schema in
      (by_execution old new Why faulty e insert_text (params number it) checkpoint_schema holds.schema command insert_is.0 insert_is.1 (λ d. failed (Some e) (ours (Some e) d)) (λ d. failed None (ours None d)) h).0
