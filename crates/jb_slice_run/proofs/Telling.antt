-- Bytes keep one list of checkpoints at most.
use Rattle.jb_slice_run.specs.{Rows.{rows_in}, SliceBytes.{AreStoredAs, IsHeaderStored, IsIntervalStored, IsStoredAs, lists_of}, Coding.{coded_number}, Laws.{EachIsStoredAsOne, FrontsAreStored, StoredAsOne, OneMoreIsStored}, Strings.{all_new_output, header_lists, interval_lists, new_output_of}}
use Rattle.jb_slice_run.proofs.{Once.{head_of, header_once, limits_once, new_output_once, tail_of}, Codings.{one_to_one}}
use Rattle.std.proofs.{Common.{◌≡◌, List, [], ◌∷◌, ◌++◌, length, Result, Ok, refl, sym, ap, ap₂, subst, ◌∙◌}, lemmas.List.{length-map}}
use Rattle.jb_base.proofs.Pairwise.{pairwise-push}
use Rattle.jb_slice_file.specs.CheckpointBytes.{CheckpointBytes}
use Rattle.jb_saved.specs.{SavedRows.{SavedRows}, declared.place.SavedPlace.{SavedPlace}}
use Rattle.jb_slices.specs.{Checkpoint.{Begins, Checkpoint, GoesOn, Header, Interval, Progress}, Slice.{IsSliceSoFar}, SliceLaws.{FrontsAreSoFar, OneMoreFollows}}

pub ok_once : {x y : SavedRows} → ◌≡◌ {A = Result SavedRows SavedPlace} (Ok x) (Ok y) → x ≡ y
ok_once e = cc

-- partitions are their rows and their news
progress_once : (ps qs : List Progress) → rows_in ps ≡ rows_in qs → all_new_output ps ≡ all_new_output qs → ps ≡ qs
progress_once [] [] rows new_output = refl
progress_once (p ∷ ps) (q ∷ qs) rows new_output =
    let row : p.row ≡ q.row = head_of _ _ _ _ rows in
    let new : new_output_of p ≡ new_output_of q = head_of _ _ _ _ new_output in
    let one : p ≡ q = λ i. record { row = row i; results = (new i).results; skips = (new i).skips; stop = (new i).stop } in
    ap₂ ◌∷◌ one (progress_once ps qs (tail_of _ _ _ _ rows) (tail_of _ _ _ _ new_output))
progress_once _ _ rows new_output = let none : ⊥ = cc in absurd none

intervals : (i j : Interval) (kept : CheckpointBytes) → IsIntervalStored i kept → IsIntervalStored j kept → i ≡ j
intervals i j kept a b =
    let rows : rows_in i.partitions ≡ rows_in j.partitions = sym a.rows ∙ ap (λ (s : SavedRows). s.rows) (ok_once (sym a.read ∙ b.read)) ∙ b.rows in
    let lengths : length i.partitions ≡ length j.partitions = sym (length-map i.partitions (λ (p : Progress). p.row)) ∙ ap length rows ∙ length-map j.partitions (λ (p : Progress). p.row) in
    let lists = one_to_one kept.results (lists_of (length j.partitions)) (interval_lists i.limits (all_new_output i.partitions)) (interval_lists j.limits (all_new_output j.partitions)) (rw lengths at a.lists) b.lists in
    let limits = limits_once i.limits j.limits a.small b.small (head_of _ _ _ _ lists) in
    let partitions = progress_once i.partitions j.partitions rows (new_output_once (all_new_output i.partitions) (all_new_output j.partitions) a.new_output_small b.new_output_small (tail_of _ _ _ _ lists)) in
    λ t. record { limits = limits t; partitions = partitions t }

-- the first list of a header has one string, and that of an interval three
apart : (h : Header) (i : Interval) (kept : CheckpointBytes) → IsHeaderStored h kept → IsIntervalStored i kept → ⊥
unfolding coded_number
apart h i kept a b = let same = sym a.lists.coding ∙ b.lists.coding in cc

pub each_once : EachIsStoredAsOne
each_once (Begins h) (Begins k) kept a b = ap Begins (header_once h k a.small b.small (one_to_one kept.results 10 (header_lists h) (header_lists k) a.lists b.lists))
each_once (Begins h) (GoesOn j) kept a b = absurd (apart h j kept a b)
each_once (GoesOn i) (Begins k) kept a b = absurd (apart k i kept b a)
each_once (GoesOn i) (GoesOn j) kept a b = ap GoesOn (intervals i j kept a b)

pub all_once : StoredAsOne
all_once [] [] [] a b = refl
all_once (c ∷ cs) (d ∷ ds) (k ∷ ks) a b = ap₂ ◌∷◌ (each_once c d k a.0 b.0) (all_once cs ds ks a.1 b.1)
all_once (c ∷ cs) [] (k ∷ ks) a b = absurd b
all_once [] (d ∷ ds) [] a b = absurd b
all_once _ _ _ a b = absurd a

-- ---- a front

pub split_kept : (cs : List Checkpoint) (all more : List CheckpointBytes) → AreStoredAs cs (all ++ more)
    → (ds : List Checkpoint) × (es : List Checkpoint) × (cs ≡ ds ++ es) × AreStoredAs ds all
split_kept cs [] more kept = ([], cs, refl, tt)
split_kept [] (k ∷ all) more kept = absurd kept
split_kept (c ∷ cs) (k ∷ all) more kept =
    let rest = split_kept cs all more kept.1 in
    (c ∷ rest.0, rest.1, ap (λ ds. c ∷ ds) rest.2, (kept.0, rest.3))

pub fronts : FrontsAreSoFar → FrontsAreStored
fronts so job functions number items all more keeps =
    let parts = split_kept keeps.checkpoints all more keeps.stored_as in
    record {
      checkpoints = parts.0;
      stored_as = parts.3;
      so_far = so job functions number items parts.0 parts.1 (subst (λ (cs : List Checkpoint). IsSliceSoFar job functions number items cs) parts.2 keeps.so_far);
    }

-- ---- one more

pub one_more : OneMoreFollows → OneMoreIsStored
one_more so job functions number items all c next keeps follows kept = record {
  checkpoints = keeps.checkpoints ++ c ∷ [];
  stored_as = pairwise-push IsStoredAs keeps.checkpoints all c next keeps.stored_as kept;
  so_far = so job functions number items keeps.checkpoints c keeps.so_far follows;
}
