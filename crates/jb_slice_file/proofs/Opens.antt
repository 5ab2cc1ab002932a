-- What an open finds, and what it leaves where it was cut.
use Rattle.std.proofs.Common.{arith, ◌≡◌, ◌⊎◌, ◌∙◌, ℕ, Bool, true, false, List, [], IsTrue, inl, inr, refl, sym, ap, subst, subst₂, true≢false}
use Rattle.std.proofs.Math.Logic.{∥∥₁_map, ∥∥₁_elim}
use Rattle.sqlite_catalog.specs.Listing.{IsSound, Lists}
use Rattle.sqlite_disk.{specs.declared.Disk.Ghosts, specs.declared.Files.Files}
use Rattle.sqlite_pool.{proofs.StateLemmas.size_is_allowed, specs.File.IsSoundFile, specs.Stored.{Adopts, StandsAs, is_summed, stored_size, trimmed}}
use Rattle.sqlite_store.{proofs.AlikeLemmas.same_file, specs.FileStore.{reading, recovers, schema_in, state}, specs.Listed.catalog_rows, specs.Listing.{IsOurs, file_trees, listed_from}, specs.Unopened.state_of, specs.declared.catalog.Wanted.Wanted, specs.declared.store.FileStore.FileStore}
use Rattle.sqlite_trees.{specs.Objects.catalog_tree, specs.Tree.Trees}
use Rattle.sqlite_wal.{proofs.LogLemmas.SeenMayStay, specs.Recovery.{Image, Pages}}
use Rattle.sqlite.{proofs.ListingLemmas.empty_is_sound, specs.Files.{AreFoundIn, HoldsDatabase, IsNothing, LeavesFiles, NamesSize, SaysSums, image_of}, specs.Schema.Schema, specs.State.State, specs.declared.file.Leftover.Leftover}
use Rattle.jb_slice_file.specs.{Rows.{Has, ShowsList}, Connections.IsJustOpened, CheckpointBytes.CheckpointBytes, TableSchema.{checkpoint_schema, no_schema}, Files.{HoldsWhole, CanGoOn, IsResumable, HoldsPages, HoldsRun, HoldsRunOrNone, HasRunCheckpoints, Leaves, LeavesImage, MayGoOn, has_store}}
use Rattle.jb_slice_file.proofs.{Opened.shows_found, Pages.{database_pages, pages_once, reads_as, something, stands_pages, stands_whole, whole_pages}, Tables.{IsChecked, one_list}}
use Rattle.sqlite.specs.declared.file.Leftover.TheVariants as left

-- the same file, of whose numbers nothing is said
loose_file : (size : ℕ) (is_numbered : Bool) (wanted : List Wanted) (pages : Pages) → IsOurs size is_numbered wanted pages → IsOurs size false wanted pages
loose_file size is_numbered wanted pages ours = record { file = ours.file; numbered = λ no. absurd (true≢false (sym no)) }

with_numbers : (is_numbered : Bool) (image : Image) (db : Trees) → HoldsPages true image db → HoldsPages is_numbered image db
with_numbers is_numbered image db held = grind (arith, loose_file)

holds_something : (is_numbered : Bool) (image : Image) (db : Trees) → HoldsPages is_numbered image db → ¬ IsNothing image
holds_something is_numbered image db held = something held.0 image held.2.stored held.2.found held.2.whole held.2.ours.file.sound

adopts_something : (size : ℕ) (image : Image) (pages : Pages) (wanted : List Wanted) → Adopts size image pages → IsOurs size true wanted pages → ¬ IsNothing image
adopts_something size image pages wanted taken ours = something size image taken.stored taken.found taken.whole (subst (IsSoundFile size) (sym taken.shows) ours.file.sound)

-- in files with no database an open finds no checkpoint
pub shows_none : (s : State) → IsJustOpened s → (image : Image) → IsNothing image → AreFoundIn image s.committed.trees → ShowsList s.now []
shows_none s opened image nothing (inl there) = absurd (∥∥₁_elim there.4 (λ no. absurd no) (λ exact. adopts_something there.0 image there.1 there.2 there.3 exact nothing))
shows_none s opened image nothing (inr none) = shows_found s opened s.committed.trees refl [] (inr (empty_is_sound s.committed.trees none.1.1, refl))

stands_on : (is_numbered : Bool) (old new : Image) (db : Trees) → HoldsPages is_numbered old db → (size : ℕ) → NamesSize old (stored_size size)
    → (IsTrue (is_summed size) → SaysSums (stored_size size) old) → StandsAs size old new → HoldsPages is_numbered new db
stands_on is_numbered old new db held size names says stands =
    let it = held.2 in
    let now = stands_pages held.0 old it.stored it.found it.whole it.ours.file.sound size new names says stands in
    (held.0, held.1, reads_as is_numbered held.0 new db it.wanted (trimmed held.0 it.stored) now.0 now.1 now.2 now.3 it.ours it.reads, held.3)

-- An open has found a sound file in files that hold these pages.
module _ (image : Image) (db : Trees) (is_numbered : Bool) (held : HoldsPages is_numbered image db) (size : ℕ) (pages : Pages) (wanted : List Wanted) (taken : Adopts size image pages)
    (exact : IsOurs size true wanted pages) where
  abbrev stored : Pages
  stored = held.2.stored

  once : (size ≡ held.0) × (trimmed size taken.stored ≡ trimmed held.0 stored)
  once = pages_once held.0 size image stored taken.stored held.2.found held.2.whole held.2.ours.file.sound taken.found taken.whole (subst (IsSoundFile size) (sym taken.shows) exact.file.sound)

  same : pages ≡ trimmed held.0 stored
  same = sym taken.shows ∙ once.1

  -- it reads as theirs
  here : IsOurs held.0 true wanted (trimmed held.0 stored)
  here = subst₂ (λ s p. IsOurs s true wanted p) once.0 same exact

  as_database : IsOurs held.0 true held.2.wanted (trimmed held.0 stored) → HoldsDatabase image db
  as_database ours =
      let found = subst₂ (λ s p. Adopts s image p) once.0 same taken in
      (held.0, held.1, record { pages = trimmed held.0 stored; wanted = held.2.wanted; schema = held.3.0; found = found; ours = ours; reads = held.2.reads; sound = held.3.1 })

  -- where both are checkpoints or nothing, the tables have their numbers
  named : (all : List CheckpointBytes) → Has db all → (schema : Schema) → IsSound schema (file_trees size wanted pages) → (schema ≡ no_schema) ⊎ (schema ≡ checkpoint_schema)
      → IsOurs held.0 true held.2.wanted (trimmed held.0 stored)
  named all has schema sound is =
      let listed : db catalog_tree ≡ listed_from 0 held.2.wanted = ap (λ d. d catalog_tree) held.2.reads ∙ catalog_rows held.0 held.2.wanted _ in
      let theirs : file_trees size wanted pages catalog_tree ≡ listed_from 0 wanted = catalog_rows size wanted _ in
      let ours : IsChecked (listed_from 0 held.2.wanted) = grind arith in
      let lists : Lists (listed_from 0 wanted) schema = subst (λ rows. Lists rows schema) theirs sound.lists in
      let found : IsChecked (listed_from 0 wanted) = grind arith in
      let one = one_list held.0 (trimmed held.0 stored) held.2.wanted wanted held.2.ours.file here ours found in
      (same_file held.0 wanted held.2.wanted (trimmed held.0 stored) (sym one) here).0

abbrev pub Resumes : Bool → (List CheckpointBytes → Type 0) → Image → Type 0
Resumes is_numbered so_far image = ((db : Trees) × HoldsPages is_numbered image db × HasRunCheckpoints so_far db) ⊎ (IsNothing image × so_far [])

-- what an open finds in files from which a run resumes: their database, or none in either
meets : {A : Type 0} (is_numbered : Bool) (so_far : List CheckpointBytes → Type 0) (image : Image) (trees : Trees) → Resumes is_numbered so_far image → AreFoundIn image trees
    → ((db : Trees) → HoldsPages is_numbered image db → HasRunCheckpoints so_far db → (size : ℕ) (pages : Pages) (wanted : List Wanted) → Adopts size image pages → IsOurs size true wanted pages
    → trees ≡ file_trees size wanted pages → A)
    → (so_far [] → IsSound no_schema trees → A) → ∥ A ∥₁
meets is_numbered so_far image trees (inl h) (inl there) both none = ∥∥₁_map there.4 (λ exact. both h.0 h.1 h.2 there.0 there.1 there.2 there.3 exact there.5)
meets is_numbered so_far image trees (inl h) (inr nothing) both none = absurd (holds_something is_numbered image h.0 h.1 nothing.0)
meets is_numbered so_far image trees (inr empty) (inl there) both none = ∥∥₁_map there.4 (λ exact. absurd (adopts_something there.0 image there.1 there.2 there.3 exact empty.0))
meets is_numbered so_far image trees (inr empty) (inr nothing) both none = ∣ none empty.1 (empty_is_sound trees nothing.1.1) ∣₁

-- a database of an open that tells what it found in files from which a run may go on
pub found_run : (so_far : List CheckpointBytes → Type 0) (image : Image) (trees : Trees) → MayGoOn so_far image → AreFoundIn image trees → ((db : Trees) → HoldsDatabase image db → trees ≡ db)
    → (schema : Schema) → IsSound schema trees → (schema ≡ no_schema) ⊎ (schema ≡ checkpoint_schema) → ∥ HasRunCheckpoints so_far trees ∥₁
found_run so_far image trees may reads holds schema sound is = ∥∥₁_elim may squash₁ (λ from. meets false so_far image trees from reads
    (λ db held run size pages wanted taken exact same.
    let ours = named image db false held size pages wanted taken exact run.0 run.1 schema (subst (IsSound schema) same sound) is in
    (run.0, subst (λ t. Has t run.0) (sym (holds db (as_database image db false held size pages wanted taken exact ours))) run.1, run.2))
    (λ fresh empty. ([], inr (empty, refl), fresh)))

pub run_goes_on : (so_far : List CheckpointBytes → Type 0) (image : Image) → HoldsRun so_far image → CanGoOn so_far image
run_goes_on so_far image run = ∥∥₁_map run (λ h. let r : Resumes true so_far image = inl (h.0, whole_pages image h.0 h.1, h.2) in r)

pub none_goes_on : (so_far : List CheckpointBytes → Type 0) (image : Image) → HoldsRunOrNone so_far image → CanGoOn so_far image
none_goes_on so_far image (inl run) = run_goes_on so_far image run
none_goes_on so_far image (inr none) = ∣ inr none ∣₁

pub may_go_on : (so_far : List CheckpointBytes → Type 0) (image : Image) → CanGoOn so_far image → MayGoOn so_far image
may_go_on so_far image can = ∥∥₁_map can (λ from. let r : Resumes false so_far image = elim from [ inl h ↦ inl (h.0, with_numbers false image h.0 h.1, h.2) | inr none ↦ inr none ] in r)

module _ {D : Type 0} {g : Ghosts D} (so_far : List CheckpointBytes → Type 0) (stays : SeenMayStay g) (files : Files D) where
  -- an open that was cut leaves the run that was there
  pub cut_run : (rest : Leftover D g) → has_store rest ≡ false → LeavesFiles files rest → (image : Image) → LeavesImage rest image → Leaves g (HoldsRun so_far) files → HoldsRun so_far image
  cut_run (left.Files now) bare cut image may leaves = leaves image (cut image may)
  cut_run (left.Store it) bare cut image may leaves = absurd (true≢false bare)
  cut_run (left.Unopened now) bare (inl fresh) image may leaves =
      ∥∥₁_elim (leaves (image_of g files) (stays files.log, stays files.db)) squash₁
      (λ h. absurd (holds_something true (image_of g files) h.0 (whole_pages (image_of g files) h.0 h.1) fresh.0))
  cut_run (left.Unopened now) bare (inr there) image may leaves = elim (there.4 image may).same [
    | inl was ↦ leaves image was
    | inr stands ↦ ∥∥₁_map (leaves (image_of g files) (stays files.log, stays files.db)) (λ h.
        let r : (db : Trees) × HoldsWhole image db × HasRunCheckpoints so_far db = (h.0, stands_whole (image_of g files) image h.0 h.1 (state_of now).page_size there.1 there.3 stands, h.2) in r)
  ]

  -- and files from which a run goes on
  pub cut_goes_on : (is_numbered : Bool) (rest : Leftover D g) → has_store rest ≡ false → LeavesFiles files rest → (image : Image) → LeavesImage rest image
      → Leaves g (IsResumable is_numbered so_far) files → IsResumable is_numbered so_far image
  cut_goes_on is_numbered (left.Files now) bare cut image may leaves = leaves image (cut image may)
  cut_goes_on is_numbered (left.Store it) bare cut image may leaves = absurd (true≢false bare)
  cut_goes_on is_numbered (left.Unopened now) bare (inl fresh) image may leaves = elim (fresh.1 image may) [
    | inl was ↦ leaves image was
    | inr begun ↦ ∥∥₁_elim (leaves (image_of g files) (stays files.log, stays files.db)) squash₁ (λ from. elim from [
      | inl h ↦ absurd (holds_something is_numbered (image_of g files) h.0 h.1 fresh.0)
      | inr none ↦ elim begun [
        | inl still ↦ ∣ inr (still, none.1) ∣₁
        | inr empty ↦ ∥∥₁_map empty (λ e. let r : Resumes is_numbered so_far image =
            inl (e.0, with_numbers is_numbered image e.0 (database_pages image e.0 e.1), ([], inr (empty_is_sound e.0 e.2.1, refl), none.1)) in r)
      ]
    ])
  ]
  cut_goes_on is_numbered (left.Unopened now) bare (inr there) image may leaves = elim (there.4 image may).same [
    | inl was ↦ leaves image was
    | inr stands ↦ ∥∥₁_map (leaves (image_of g files) (stays files.log, stays files.db)) (λ had. let r : Resumes is_numbered so_far image = elim had [
      | inl h ↦ inl (h.0, stands_on is_numbered (image_of g files) image h.0 h.1 (state_of now).page_size there.1 there.3 stands, h.2)
      | inr none ↦ absurd (there.0 none.0)
    ] in r)
  ]

  -- an open that was cut behind its recovery leaves them, but for the numbers
  pub cut_loose : (now : FileStore D g) → LeavesFiles files (left.Store now) → (image : Image) → (state now).may_leave image → Leaves g (CanGoOn so_far) files → MayGoOn so_far image
  cut_loose now cut image may leaves = ∥∥₁_elim now.safe squash₁ (λ all.
      let found = all image may in
      let read = reading now found.0 in
      let allowed : recovers now read = (image, found.0, may, ∣ found.1 ∣₁, refl) in
      let told = cut read allowed in
      let size = (state now).page_size in
      let wanted = schema_in now found.0 in
      ∥∥₁_elim (size_is_allowed now.pool) squash₁ (λ valid. ∥∥₁_elim found.2 squash₁ (λ ours.
      let loose = loose_file size now.is_numbered wanted found.0 ours in
      let holds = λ (db : Trees) (is : db ≡ read) (schema : Schema) (sound : IsSound schema db).
      let h : HoldsPages false image db =
      (size, valid, reads_as false size image db wanted found.0 found.1.stored found.1.found found.1.whole found.1.shows loose is, (schema, sound)) in h in
      ∥∥₁_elim (leaves (image_of g files) (stays files.log, stays files.db)) squash₁ (λ from. meets true so_far (image_of g files) read from told.0
      (λ db held run size pages wanted taken exact same.
      let is = told.1 db (as_database (image_of g files) db true held size pages wanted taken exact held.2.ours) in
      let r : Resumes false so_far image = inl (db, holds db (sym is) held.3.0 held.3.1, run) in r)
      (λ fresh empty. let r : Resumes false so_far image = inl (read, holds read refl no_schema empty, ([], inr (empty, refl), fresh)) in r)))))

  -- at least that, wherever it was cut
  pub cut_may_go_on : (rest : Leftover D g) → LeavesFiles files rest → (image : Image) → LeavesImage rest image → Leaves g (CanGoOn so_far) files → MayGoOn so_far image
  cut_may_go_on (left.Files now) cut image may leaves = may_go_on so_far image (cut_goes_on true (left.Files now) refl cut image may leaves)
  cut_may_go_on (left.Unopened now) cut image may leaves = may_go_on so_far image (cut_goes_on true (left.Unopened now) refl cut image may leaves)
  cut_may_go_on (left.Store it) cut image may leaves = cut_loose it cut image may leaves
