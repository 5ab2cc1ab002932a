-- The pages to which files recover, whatever sums they have, and files that hold a database in which each page has its sum.
use Rattle.std.proofs.Common.{◌≡◌, ◌⊎◌, ◌≤◌, ◌<◌, ◌+◌, ◌*◌, ◌-◌, inl, inr, ℕ, List, [], length, take, slice_index, get_or-take, Option, Some, unwrap_or, true, false, IsTrue, refl, sym, ap, ap₂, subst, ◌∙◌, arith, take_all, eqb, eqb-true, zero-add, le-ltb, cond, Bool}
use Rattle.std.{proofs.Math.Path.fun_ext, proofs.Math.Logic.{∥∥₁_map, ∥∥₁_elim}, proofs.lemmas.Bool.cases_Bool, proofs.lemmas.List.{get_or_past, length-take}}
use Rattle.sqlite_disk.specs.declared.Disk.{Ghosts}
use Rattle.sqlite_wal.{specs.Format.{part, be32}, specs.Recovery.{AreWhole, Image, Pages, Recovers as Recovery, pages_after}, proofs.AppendLemmas.{page_from_pages, some_value}, proofs.CreateLemmas.begun_is_not_blank, proofs.FormatLemmas.be32-part, proofs.PartLemmas.{part_within, slice_index-part}, proofs.RecoveryLemmas.{recovers_once, replays_once}}
use Rattle.sqlite_pool.{specs.File.{IsSoundFile, header_in}, specs.Header.first_page, specs.Stored.{Recovers, StandsAs, is_summed, reserved, resealed, sealed, stored_size, trimmed, used_size}, specs.StoredLaws.trimmed_some, proofs.ProbeLemmas.first_byte, proofs.ResealLemmas.{same_trimmed, still_whole}, proofs.StateLemmas.size_is_allowed}
use Rattle.sqlite_trees.specs.Tree.{Trees}
use Rattle.sqlite_store.{specs.declared.catalog.Wanted.Wanted, specs.declared.store.FileStore.FileStore, specs.FileStore.{reading, recovers, schema_in, state, view}, specs.Listing.{IsOurs, file_trees}}
use Rattle.sqlite.specs.{Files.{HoldsDatabase, IsNothing, NamesSize, SaysSums}, Held.AreDatabases, Opening.HoldsAt}
use Rattle.jb_slice_file.specs.Files.{HoldsPages, HoldsWhole, ReadsAs}

-- where each page has its sum, none gets another
pub unchanged : (size : ℕ) (numbers : List ℕ) (stored : Pages) → ((n : ℕ) (bytes : List ℕ) → stored n ≡ Some bytes → bytes ≡ sealed (take size bytes)) → resealed size numbers stored ≡ stored
unfolding resealed
unchanged size numbers stored is = fun_ext λ n. (let here = is n in grind arith)

-- pages with no sum in them are as they are under any size of theirs that has none
plain_sealed : (size : ℕ) (bytes : List ℕ) → is_summed size ≡ false → length bytes ≡ stored_size size → bytes ≡ sealed (take size bytes)
unfolding sealed
plain_sealed size bytes plain len = grind (arith, take_all)

-- files name one size
one_name : (image : Image) (m n : ℕ) → NamesSize image m → NamesSize image n → m ≡ n
one_name image m n a b = grind arith

-- Files that recover to a sound file.
module _ (size : ℕ) (image : Image) (stored : Pages) (found : Recovery (stored_size size) image stored) (whole : AreWhole (stored_size size) stored)
    (sound : IsSoundFile size (trimmed size stored)) where
  abbrev first : (page : List ℕ) × (stored 1 ≡ Some page)
  first = some_value (stored 1) whole.first

  len : length first.0 ≡ stored_size size
  len = whole.sized 1 first.0 first.1

  head : header_in (trimmed size stored) ≡ take 100 (take size first.0)
  head = ap (λ (o : Option (List ℕ)). take 100 (unwrap_or o [])) (trimmed_some size stored 1 first.0 first.1)

  -- a header that says what is reserved is not shorter than where it says so
  wide : 24 ≤ size
  wide =
      let past = get_or_past (header_in (trimmed size stored)) 23 0 in
      grind (arith, past, ap length head, length-take 100 (take size first.0), length-take size first.0, sound.header.1.fractions)

  -- the first bytes of the first page are the header
  head_byte : (k : ℕ) → k < 24 → slice_index (header_in (trimmed size stored)) k ≡ slice_index first.0 k
  head_byte k low = ap (λ (b : List ℕ). slice_index b k) head ∙ get_or-take 100 (take size first.0) k 0 (omega arith) ∙ get_or-take size first.0 k 0 (omega (arith, wide))

  -- which says how much of a page is reserved
  pub word : be32 first.0 20 ≡ reserved size * 0x100_0000 + 0x0040_2020
  unfolding be32
  word = omega (arith, sound.header.1.fractions, head_byte 20 (omega arith), head_byte 21 (omega arith), head_byte 22 (omega arith), head_byte 23 (omega arith))

  -- they name the size of the pages
  pub names : NamesSize image (stored_size size)
  names = (
    λ counts. grind (arith, be32-part),
    λ ignored.
        let n = stored_size size in
        let none = replays_once n image.log found.frames 0 found.replays (inl (ignored, refl)) in
        let alone : pages_after n image.log image.db 0 1 ≡ Some first.0 = ap (λ (p : Pages). p 1) (rw none at found.gives) ∙ first.1 in
        let start : (1 - 1) * n ≡ 0 = omega arith in
        let front : part image.db 0 n ≡ first.0 = rw start at (page_from_pages n image.log image.db 0 1 first.0 alone).0 in
        let long = part_within image.db 0 n (omega (arith, wide)) (ap length front ∙ len) in
        let byte = λ (k : ℕ) (low : k < 24). head_byte k low ∙ ap (λ (b : List ℕ). slice_index b k) (sym front) ∙ slice_index-part image.db 0 n k (omega (arith, wide)) ∙ ap (slice_index image.db) (zero-add k) in
        let named = ap₂ (λ (a b : ℕ). a * 256 + b) (byte 16 (omega arith)) (byte 17 (omega arith)) in
        rw (le-ltb (length image.db) 18 (omega (arith, long, wide))) (sym sound.header.0.size ∙ ap (λ (n : ℕ). cond (eqb n 1) 65536 n) named),
  )

  -- they are no files in which nothing was made yet
  pub something : ¬ IsNothing image
  something nothing =
      let magic = sym (head_byte 0 (omega arith)) ∙ sym (get_or-take 16 (header_in (trimmed size stored)) 0 0 (omega arith)) ∙ ap (λ (b : List ℕ). slice_index b 0) sound.header.0.magic in
      let never = λ (other : ℕ) (some : 0 < other). let gate = first_byte other some in
      begun_is_not_blank (sealed (first_page other)) first.0 (stored_size size) image stored found first.1 len (omega (arith, wide)) (magic ∙ sym gate) (λ none. let zero = sym gate ∙ none in omega (arith, zero)) in
      elim nothing [ inl plain ↦ never (used_size 4096 false) (omega arith) plain | inr summed ↦ never (used_size 4096 true) (omega arith) summed ]

  -- Files that stand as these recover to the same pages, but for sums.
  module _ (other : ℕ) (new : Image) (named : NamesSize image (stored_size other)) (says : IsTrue (is_summed other) → SaysSums (stored_size other) image) (stands : StandsAs other image new) where
    alike : stored_size size ≡ stored_size other
    alike = one_name image (stored_size size) (stored_size other) names named

    here : Recovery (stored_size other) image stored
    here = subst (λ n. Recovery n image stored) alike found

    -- if they are to get sums, the header says so
    summed_is : is_summed other ≡ true → size ≡ other
    summed_is summed =
        let said = says summed stored first.0 here first.1 (len ∙ alike) in omega (arith, word, said, alike, eqb-true (reserved other) 8 summed)

    -- to them, or to the same with sums
    pub recovers_after : Recovery (stored_size size) new stored ⊎ ((numbers : List ℕ) × Recovery (stored_size size) new (resealed size numbers stored))
    recovers_after =
        let back = λ (now : Recovery (stored_size other) new stored). subst (λ n. Recovery n new stored) (sym alike) now in
        elim stands.0 [
          | inl same ↦ inl (back (same stored here))
          | inr resealing ↦ elim (resealing.2 stored here) [
            | inl now ↦ inl (back now)
            | inr now ↦ elim (cases_Bool (is_summed other)) [
              | inl summed ↦ inr (resealing.0, subst (λ n. Recovery (stored_size n) new (resealed n resealing.0 stored)) (sym (summed_is summed)) now)
              | inr plain ↦
                  let same = unchanged other resealing.0 stored (λ n bytes is. plain_sealed other bytes plain (whole.sized n bytes is ∙ alike)) in
                  inl (back (subst (Recovery (stored_size other) new) same now))
            ]
          ]
        ]

    pub stands_pages : (after : Pages) × Recovery (stored_size size) new after × AreWhole (stored_size size) after × (trimmed size after ≡ trimmed size stored)
    stands_pages = elim recovers_after [
      | inl now ↦ (stored, now, whole, refl)
      | inr now ↦ (resealed size now.0 stored, now.1, still_whole size now.0 stored whole, same_trimmed size now.0 stored whole)
    ]

-- Two recoveries of the same files to sound ones are to the same pages.
module _ (size other : ℕ) (image : Image) (stored taken : Pages) (found : Recovery (stored_size size) image stored) (whole : AreWhole (stored_size size) stored)
    (sound : IsSoundFile size (trimmed size stored)) (found' : Recovery (stored_size other) image taken) (whole' : AreWhole (stored_size other) taken)
    (sound' : IsSoundFile other (trimmed other taken)) where
  one_size : stored_size size ≡ stored_size other
  one_size = one_name image _ _ (names size image stored found whole sound) (names other image taken found' whole' sound')

  one_pages : taken ≡ stored
  one_pages = recovers_once (stored_size size) image taken stored (subst (λ n. Recovery n image taken) (sym one_size) found') found

  pub pages_once : (other ≡ size) × (trimmed other taken ≡ trimmed size stored)
  pages_once =
      let page : (some_value (taken 1) whole'.first).0 ≡ (some_value (stored 1) whole.first).0 =
      (let both = sym (some_value (taken 1) whole'.first).1 ∙ ap (λ (p : Pages). p 1) one_pages ∙ (some_value (stored 1) whole.first).1 in cc) in
      let word' = ap (λ (b : List ℕ). be32 b 20) page in
      let is : other ≡ size = omega (arith, one_size, word', word other image taken found' whole' sound', word size image stored found whole sound) in
      (is, ap₂ trimmed is one_pages)

-- ---- databases

-- each image that a crash may leave of an open store holds a whole database that the store allows
pub leaves_whole : {D : Type 0} {g : Ghosts D} (it : FileStore D g) → IsTrue (view it).is_numbered → AreDatabases (recovers it)
    → (left : Image) → (state it).may_leave left → ∥ ((db : Trees) × recovers it db × HoldsWhole left db) ∥₁
leaves_whole it numbered sound left may = ∥∥₁_elim it.safe squash₁ (λ all.
    let found = all left may in
    let db = reading it found.0 in
    let allowed : recovers it db = (left, found.0, may, ∣ found.1 ∣₁, refl) in
    let schema = sound db allowed in
    ∥∥₁_elim (size_is_allowed it.pool) squash₁ (λ size. ∥∥₁_map found.2 (λ ours.
    let numbers = subst (λ b. IsOurs (state it).page_size b (schema_in it found.0) found.0) numbered ours in
    let whole : HoldsAt (state it).page_size left db =
    record { pages = found.0; wanted = schema_in it found.0; schema = schema.0; found = found.1; reads = refl; sound = schema.1; ours = numbers } in
    let r : (x : Trees) × recovers it x × HoldsWhole left x = (db, allowed, ((state it).page_size, size, whole)) in r)))

-- pages to which the files recover, and which are shown as a file that reads as these trees
pub reads_as : (is_numbered : Bool) (size : ℕ) (image : Image) (db : Trees) (wanted : List Wanted) (pages stored : Pages) → Recovery (stored_size size) image stored → AreWhole (stored_size size) stored
    → trimmed size stored ≡ pages → IsOurs size is_numbered wanted pages → db ≡ file_trees size wanted pages → ReadsAs is_numbered size image db
reads_as is_numbered size image db wanted pages stored found whole shows ours reads =
    let shown = sym shows in
    record { stored = stored; found = found; whole = whole; wanted = wanted; ours = subst (IsOurs size is_numbered wanted) shown ours; reads = reads ∙ ap (file_trees size wanted) shown }

-- a database that the files hold, with the pages to which they recover
pub database_pages : (image : Image) (db : Trees) → HoldsDatabase image db → HoldsPages true image db
database_pages image db held =
    let it = held.2 in
    (held.0, held.1, reads_as true held.0 image db it.wanted it.pages it.found.stored it.found.found it.found.whole it.found.shows it.ours it.reads, (it.schema, it.sound))

pub whole_pages : (image : Image) (db : Trees) → HoldsWhole image db → HoldsPages true image db
whole_pages image db held =
    let it = held.2 in
    (held.0, held.1, reads_as true held.0 image db it.wanted it.pages it.found.stored it.found.found it.found.whole it.found.shows it.ours it.reads, (it.schema, it.sound))

-- files that stand as these hold the same database
pub stands_whole : (old new : Image) (db : Trees) → HoldsWhole old db → (size : ℕ) → NamesSize old (stored_size size) → (IsTrue (is_summed size) → SaysSums (stored_size size) old) → StandsAs size old new
    → HoldsWhole new db
stands_whole old new db held size names says stands =
    let it = held.2 in
    let stored = it.found.stored in
    let sound = subst (IsSoundFile held.0) (sym it.found.shows) it.ours.file.sound in
    let found : Recovery (stored_size held.0) new stored = elim (recovers_after held.0 old stored it.found.found it.found.whole sound size new names says stands) [
      | inl now ↦ now
      | inr now ↦ subst (Recovery (stored_size held.0) new) (unchanged held.0 now.0 stored it.found.sealed) now.1
    ] in
    let now : Recovers held.0 new it.pages = record { stored = stored; found = found; whole = it.found.whole; sealed = it.found.sealed; shows = it.found.shows; present = found.present } in
    (held.0, held.1, record { pages = it.pages; wanted = it.wanted; schema = it.schema; found = now; ours = it.ours; reads = it.reads; sound = it.sound })
