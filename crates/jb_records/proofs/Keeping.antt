-- What is kept of a interval: the results of the partitions that are finished, and what the others work with.
use Rattle.std.proofs.Common.{◌≡◌, ℕ, zero, suc, ◌+◌, Bool, true, false, not, cond, List, [], ◌∷◌, map, Some, refl, ap, sym, subst, ◌∙◌, arith, eqb-true}
use Rattle.std.specs.Prelude.{filter, nat_eq, slice_get}
use Rattle.std.specs.List.{AllByRecursion, enumerate_from}
use Rattle.std.proofs.lemmas.Option.{get_or_from_slice_get}
use Rattle.jb_base.specs.Pairwise.{Pairwise}
use Rattle.jb_base.specs.Rules.{RulesRecord}
use Rattle.jb_rules.specs.declared.row.Row.{Row}
use Rattle.jb_rules.specs.declared.row.RowState.{RowState}
use Rattle.jb_rules.specs.declared.row.RowState.TheVariants as state
use Rattle.jb_rules.specs.Rows.{dropped_row}
use Rattle.jb_rules.specs.States.{is_failed, is_finished}
use Rattle.jb_artifacts.specs.Meaning.{ArtifactsMeaning}
use Rattle.jb_chunk.specs.TaskState.{TaskState}
use Rattle.jb_saved.specs.GoingOn.{restarted}
use Rattle.jb_step.specs.Answers.{artifacts_of, tasks_left}
use Rattle.jb_step.specs.preparing.Setup.{Setup}
use Rattle.jb_records.specs.Function.{Function}
use Rattle.jb_records.specs.Runs.{HasResults}
use Rattle.jb_records.specs.PartitionResults.{ArePartitionResults, IsPartitionResult, newer_share, newer_partition_results, results_so_far}
use Rattle.jb_records.specs.Steps.{AreArtifacts, IsArtifactsFor}
use Rattle.jb_records.specs.Intervals.{numbers_in, artifacts_in}
use Rattle.jb_records.specs.Artifacts.{IsArtifactsOver, own_records}
use Rattle.jb_records.specs.inside.InMemory.{is_done, is_left, is_over}
use Rattle.jb_records.proofs.Steps.{HaveResults, left-of}
use Rattle.jb_records.proofs.Staying.{Stays, head-is, left-numbers, tail-is}

-- ---- NEWER SHARES

-- what comes back is newer than what was there before of the same partitions
newer-over : (left ws : List (ℕ × ArtifactsMeaning)) (p : ℕ) (share : List (List ℕ)) → numbers_in left ≡ numbers_in ws → newer_share left p (newer_share ws p share) ≡ newer_share left p share
newer-over [] [] p share same = refl
newer-over [] (w ∷ ws) p share same = let none : ⊥ = cc in absurd none
newer-over (a ∷ left) [] p share same = let none : ⊥ = cc in absurd none
newer-over (a ∷ left) (w ∷ ws) p share same =
    let here = head-is a.0 w.0 (numbers_in left) (numbers_in ws) same in
    let others = newer-over left ws p share (tail-is a.0 w.0 (numbers_in left) (numbers_in ws) same) in
    over-by (nat_eq a.0 p) (nat_eq w.0 p) (ap (λ n. nat_eq n p) here) others
  where
    over-by : (b c : Bool) → b ≡ c → newer_share left p (newer_share ws p share) ≡ newer_share left p share
        → cond b a.1.writer.written (newer_share left p (cond c w.1.writer.written (newer_share ws p share))) ≡ cond b a.1.writer.written (newer_share left p share)
    over-by true c same others = refl
    over-by false true same others = let none : ⊥ = cc in absurd none
    over-by false false same others = others

abbrev newer-from : List (ℕ × ArtifactsMeaning) → ℕ → List (List (List ℕ)) → List (List (List ℕ))
newer-from left k partition_results = map (λ n. newer_share left n.0 n.1) (enumerate_from k partition_results)

all-over : (left ws : List (ℕ × ArtifactsMeaning)) (k : ℕ) (partition_results : List (List (List ℕ))) → numbers_in left ≡ numbers_in ws → newer-from left k (newer-from ws k partition_results) ≡ newer-from left k partition_results
all-over left ws k [] same = refl
all-over left ws k (share ∷ partition_results) same = λ i. newer-over left ws k share same i ∷ all-over left ws (k + 1) partition_results same i

pub newer-again : (left ws : List (ℕ × ArtifactsMeaning)) (partition_results : List (List (List ℕ))) → numbers_in left ≡ numbers_in ws → newer_partition_results left (newer_partition_results ws partition_results) ≡ newer_partition_results left partition_results
newer-again left ws partition_results same = all-over left ws 0 partition_results same

-- ---- THE FINISHED ONES APART

-- what came back of the partitions with some numbers is newer of these
newer-of : (keep : ℕ → Bool) (left : List (ℕ × ArtifactsMeaning)) (p : ℕ) (share : List (List ℕ)) → newer_share (filter (λ a. keep a.0) left) p share ≡ cond (keep p) (newer_share left p share) share
newer-of keep [] p share = elim (keep p) as (λ b. share ≡ cond b share share) [ true ↦ refl | false ↦ refl ]
newer-of keep (a ∷ left) p share = by (keep a.0) (nat_eq a.0 p) refl refl (newer-of keep left p share)
  where
    own : List (List ℕ)
    own = a.1.writer.written

    kept : List (ℕ × ArtifactsMeaning)
    kept = filter (λ x. keep x.0) left

    same : (b : Bool) → keep a.0 ≡ b → nat_eq a.0 p ≡ true → keep p ≡ b
    same b is at = ap keep (sym (eqb-true a.0 p at)) ∙ is

    by : (b c : Bool) → keep a.0 ≡ b → nat_eq a.0 p ≡ c → newer_share kept p share ≡ cond (keep p) (newer_share left p share) share
        → newer_share (cond b (a ∷ kept) kept) p share ≡ cond (keep p) (cond c own (newer_share left p share)) share
    by true true is at more = rw (at, same true is at) refl
    by true false is at more = rw at more
    by false true is at more = more ∙ rw (same false is at) refl
    by false false is at more = more

module _ (rows : List Row) where
  abbrev over : ℕ → Bool
  over p = is_over (slice_get rows p)

  part-newer : (left : List (ℕ × ArtifactsMeaning)) (p : ℕ) (share : List (List ℕ)) → newer_share (filter (is_left rows) left) p (newer_share (filter (is_done rows) left) p share) ≡ newer_share left p share
  part-newer left p share =
      newer-of (λ n. not (over n)) left p (newer_share (filter (is_done rows) left) p share)
      ∙ ap (λ x. cond (not (over p)) (newer_share left p x) x) (newer-of over left p share)
      ∙ (elim (over p) as (λ b. cond (not b) (newer_share left p (cond b (newer_share left p share) share)) (cond b (newer_share left p share) share) ≡ newer_share left p share) [ true ↦ refl | false ↦ refl ])

  all-parts : (left : List (ℕ × ArtifactsMeaning)) (k : ℕ) (partition_results : List (List (List ℕ))) → newer-from (filter (is_left rows) left) k (newer-from (filter (is_done rows) left) k partition_results) ≡ newer-from left k partition_results
  all-parts left k [] = refl
  all-parts left k (share ∷ partition_results) = λ i. part-newer left k share i ∷ all-parts left (k + 1) partition_results i

  pub newer-parts : (left : List (ℕ × ArtifactsMeaning)) (partition_results : List (List (List ℕ))) → newer_partition_results (filter (is_left rows) left) (newer_partition_results (filter (is_done rows) left) partition_results) ≡ newer_partition_results left partition_results
  newer-parts left partition_results = all-parts left 0 partition_results

-- ---- WHAT THE OTHERS WORK WITH

-- a row that waits again is as unfinished as it was
abbrev again-by : Bool → Row → Row
again-by b row = cond b (dropped_row row) row

finished-by : (b : Bool) (row : Row) → is_failed row.state ≡ b → is_finished (again-by b row).state ≡ is_finished row.state
finished-by false row is = refl
finished-by true row is = sym (unfinished row.state is)
  where
    unfinished : (st : RowState) → is_failed st ≡ true → is_finished st ≡ false
    unfinished state.Waiting e = refl
    unfinished (state.Running lane) e = refl
    unfinished state.Finished e = let none : ⊥ = cc in absurd none
    unfinished state.Failed e = refl

pub finished-again : (row : Row) → is_finished (restarted row).state ≡ is_finished row.state
finished-again row = finished-by (is_failed row.state) row refl

artifacts-by : (f : Function) (s : Setup) (records : List (List ℕ)) (w : ArtifactsMeaning) (b : Bool) (row : Row) → IsArtifactsOver f s.rules row.lo (own_records records row) w → IsArtifactsOver f s.rules (again-by b row).lo (own_records records (again-by b row)) w
artifacts-by f s records w true row is = is
artifacts-by f s records w false row is = is

-- the task has the results of the records before its checkpoint, the step's rules, and its partition's row
pub record IsDone (f : Function) (records : List (List ℕ)) (s : Setup) (rows : List Row) (t : TaskState) : Type 0 where
  pub has : HasResults f records t
  pub rules : t.rules ≡ s.rules
  pub row : (now : Row) → slice_get rows t.partition ≡ Some now → t.row ≡ now

abbrev pub AreDone : Function → (records : List (List ℕ)) → Setup → List Row → List TaskState → Type 0
AreDone f records s rows ts = AllByRecursion (IsDone f records s rows) ts

-- as what came back of tasks with the step's rules
pub all-done : (f : Function) (records : List (List ℕ)) (s : Setup) (rows : List Row) (left : List (ℕ × ArtifactsMeaning)) (ts : List TaskState) → AllByRecursion (λ (t : TaskState). t.rules ≡ s.rules) ts
    → HaveResults f records (tasks_left ts rows left) → AreDone f records s rows (tasks_left ts rows left)
all-done f records s rows left [] ruled have = tt
all-done f records s rows left (t ∷ ts) ruled have =
    (record { has = have.0; rules = ruled.0; row = λ now at. get_or_from_slice_get rows t.partition now t.row at }, all-done f records s rows left ts ruled.1 have.1)

-- the row of the task of the partition with this number
pub done-row : (f : Function) (records : List (List ℕ)) (s : Setup) (rows : List Row) (t : TaskState) (k : ℕ) (now : Row) → IsDone f records s rows t → t.partition ≡ k → slice_get rows k ≡ Some now → t.row ≡ now
done-row f records s rows t k now is here at = is.row now (subst (λ p. slice_get rows p ≡ Some now) (sym here) at)

module _ (f : Function) (records : List (List ℕ)) (s : Setup) (rows : List Row) (all : List (List (List ℕ))) where
  -- these artifacts are those of these unfinished partitions
  abbrev AreKept : List (ℕ × ArtifactsMeaning) → List (ℕ × Row) → Type 0
  AreKept ls ns = (numbers_in ls ≡ map (λ n. n.0) ns) × AreArtifacts f s.rules records all ns (artifacts_in ls)

  kept-one : (b c : Bool) (a : ℕ × ArtifactsMeaning) (n : ℕ × Row) (ls : List (ℕ × ArtifactsMeaning)) (ns : List (ℕ × Row)) → b ≡ c → a.0 ≡ n.0 → IsArtifactsFor f s.rules records all n a.1 → AreKept ls ns
      → AreKept (cond b (a ∷ ls) ls) (cond c (n ∷ ns) ns)
  kept-one true true a n ls ns same here is are = (λ i. here i ∷ are.0 i, (is, are.1))
  kept-one true false a n ls ns same here is are = let none : ⊥ = cc in absurd none
  kept-one false true a n ls ns same here is are = let none : ⊥ = cc in absurd none
  kept-one false false a n ls ns same here is are = are

  skip-one : (b : Bool) (n : ℕ × Row) (ls : List (ℕ × ArtifactsMeaning)) (ns : List (ℕ × Row)) → b ≡ true → AreKept ls ns → AreKept ls (cond (not b) (n ∷ ns) ns)
  skip-one true n ls ns is are = are
  skip-one false n ls ns is are = let none : ⊥ = cc in absurd none

  all-artifacts-by : (b : Bool) (k : ℕ) (old new : Row) (olds new_results : List Row) (share : List (List ℕ)) (ts : List TaskState) → is_finished old.state ≡ b
      → numbers_in (artifacts_of ts) ≡ map (λ n. n.0) (cond (not b) ((k, old) ∷ left-of (enumerate_from (k + 1) olds)) (left-of (enumerate_from (k + 1) olds)))
      → Stays old new → IsPartitionResult f records new share → slice_get rows k ≡ Some new → slice_get all k ≡ Some share → AreDone f records s rows ts
      → ((us : List TaskState) → numbers_in (artifacts_of us) ≡ left-numbers (k + 1) olds → AreDone f records s rows us → AreKept (filter (is_left rows) (artifacts_of us)) (left-of (enumerate_from (k + 1) (map restarted new_results))))
      → AreKept (filter (is_left rows) (artifacts_of ts)) (left-of (enumerate_from k (map restarted (new ∷ new_results))))
  all-artifacts-by true k old new olds new_results share ts is named stays own at there have more =
      let finished = finished-again new ∙ ap (λ (r : Row). is_finished r.state) (stays is) ∙ is in
      skip-one (is_finished (restarted new).state) (k, restarted new) (filter (is_left rows) (artifacts_of ts)) (left-of (enumerate_from (k + 1) (map restarted new_results))) finished (more ts named have)
  all-artifacts-by false k old new olds new_results share [] is named stays own at there have more = let none : ⊥ = cc in absurd none
  all-artifacts-by false k old new olds new_results share (t ∷ ts) is named stays own at there have more =
      let ls = artifacts_of ts in
      let here = head-is t.partition k (numbers_in ls) (left-numbers (k + 1) olds) named in
      let others = more ts (tail-is t.partition k (numbers_in ls) (left-numbers (k + 1) olds) named) have.1 in
      let has = have.0.has in
      let row : t.row ≡ new = done-row f records s rows t k new have.0 here at in
      let kept = subst (λ (r : Row). IsArtifactsOver f t.rules r.lo (own_records records r) t.artifacts) row has.artifacts in
      let artifacts = artifacts-by f s records t.artifacts (is_failed new.state) new (subst (λ (rules : RulesRecord). IsArtifactsOver f rules new.lo (own_records records new) t.artifacts) have.0.rules kept) in
      let written : share ≡ t.artifacts.writer.written = own.results ∙ ap (λ (r : Row). results_so_far f records r) (sym row) ∙ sym has.results in
      let same = ap (λ p. not (is_over (slice_get rows p))) here ∙ ap (λ o. not (is_over o)) at ∙ ap not (sym (finished-again new)) in
      kept-one (is_left rows (t.partition, t.artifacts)) (not (is_finished (restarted new).state)) (t.partition, t.artifacts) (k, restarted new) (filter (is_left rows) ls) (left-of (enumerate_from (k + 1) (map restarted new_results))) same here
      (artifacts, there ∙ ap Some written) others

  pub artifacts-kept : (k : ℕ) (olds new_results : List Row) (partition_results : List (List (List ℕ))) (ts : List TaskState) → numbers_in (artifacts_of ts) ≡ left-numbers k olds → Pairwise Stays olds new_results → ArePartitionResults f records new_results partition_results
      → ((i : ℕ) (row : Row) → slice_get new_results i ≡ Some row → slice_get rows (k + i) ≡ Some row) → ((i : ℕ) (share : List (List ℕ)) → slice_get partition_results i ≡ Some share → slice_get all (k + i) ≡ Some share)
      → AreDone f records s rows ts
      → (numbers_in (filter (is_left rows) (artifacts_of ts)) ≡ left-numbers k (map restarted new_results)) × AreArtifacts f s.rules records all (left-of (enumerate_from k (map restarted new_results))) (artifacts_in (filter (is_left rows) (artifacts_of ts)))
  artifacts-kept k [] [] partition_results [] named stay own at there have = (refl, tt)
  artifacts-kept k [] [] partition_results (t ∷ ts) named stay own at there have = let none : ⊥ = cc in absurd none
  artifacts-kept k [] (new ∷ new_results) partition_results ts named stay own at there have = absurd stay
  artifacts-kept k (old ∷ olds) [] partition_results ts named stay own at there have = absurd stay
  artifacts-kept k (old ∷ olds) (new ∷ new_results) [] ts named stay own at there have = absurd own
  artifacts-kept k (old ∷ olds) (new ∷ new_results) (share ∷ partition_results) ts named stay own at there have =
      let first : k + 0 ≡ k = omega arith in
      all-artifacts-by (is_finished old.state) k old new olds new_results share ts refl named stay.0 own.0
      (subst (λ m. slice_get rows m ≡ Some new) first (at zero new refl)) (subst (λ m. slice_get all m ≡ Some share) first (there zero share refl)) have
      (λ us is has. artifacts-kept (k + 1) olds new_results partition_results us is stay.1 own.1
      (λ i r get. let e : k + suc i ≡ (k + 1) + i = omega arith in subst (λ m. slice_get rows m ≡ Some r) e (at (suc i) r get))
      (λ i x get. let e : k + suc i ≡ (k + 1) + i = omega arith in subst (λ m. slice_get all m ≡ Some x) e (there (suc i) x get)) has)
