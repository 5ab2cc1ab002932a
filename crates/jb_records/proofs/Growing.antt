-- What is new of each partition comes behind its share.
use Rattle.std.proofs.Common.{◌≡◌, ℕ, zero, suc, ◌+◌, ◌≤◌, ◌++◌, Bool, true, false, not, cond, List, [], ◌∷◌, map, length, drop, Some, refl, ap, ap₂, sym, subst, ◌∙◌, arith}
use Rattle.std.proofs.Math.Seq.{drop-append_seam}
use Rattle.std.proofs.lemmas.Bool.Decides.{nat_tests}
use Rattle.std.proofs.lemmas.List.{append-nil}
use Rattle.std.specs.Prelude.{nat_eq, slice_get}
use Rattle.std.specs.List.{enumerate_from}
use Rattle.jb_base.specs.Pairwise.{Pairwise}
use Rattle.jb_rules.specs.declared.row.Row.{Row}
use Rattle.jb_rules.specs.States.{is_finished}
use Rattle.jb_artifacts.specs.Meaning.{ArtifactsMeaning}
use Rattle.jb_chunk.specs.TaskState.{TaskState}
use Rattle.jb_step.specs.Answers.{artifacts_of}
use Rattle.jb_step.specs.preparing.Setup.{Setup}
use Rattle.jb_records.specs.Function.{Function}
use Rattle.jb_records.specs.PartitionResults.{ArePartitionResults, IsPartitionResult, results_so_far}
use Rattle.jb_records.specs.Intervals.{grown, numbers_in}
use Rattle.jb_records.specs.Artifacts.{own_records, results_between}
use Rattle.jb_records.specs.inside.InMemory.{new_results_from}
use Rattle.jb_records.proofs.Ahead.{IsAhead}
use Rattle.jb_records.proofs.Going.{results-join}
use Rattle.jb_records.proofs.Keeping.{AreDone, done-row}
use Rattle.jb_records.proofs.Staying.{AreFrom, Stays, head-is, left-numbers, numbers-from, tail-is}
use Rattle.jb_records.proofs.Steps.{left-of}

-- nothing came back of a partition before all that did
none-new : (k count : ℕ) (written_before : List ℕ) (ls : List (ℕ × ArtifactsMeaning)) → AreFrom (k + 1) (numbers_in ls) → new_results_from k (count ∷ written_before) ls ≡ [] ∷ new_results_from (k + 1) written_before ls
none-new k count written_before [] above = refl
none-new k count written_before (a ∷ ls) above =
    let le = above.0 in
    let other : nat_eq a.0 k ≡ false = grind (arith, nat_tests) in
    ap (λ (b : Bool). cond b (drop count a.1.writer.written ∷ new_results_from (k + 1) written_before ls) ([] ∷ new_results_from (k + 1) written_before (a ∷ ls))) other

one-new : (k count : ℕ) (written_before : List ℕ) (a : ℕ × ArtifactsMeaning) (ls : List (ℕ × ArtifactsMeaning)) → a.0 ≡ k → new_results_from k (count ∷ written_before) (a ∷ ls) ≡ drop count a.1.writer.written ∷ new_results_from (k + 1) written_before ls
one-new k count written_before a ls here =
    let same : nat_eq a.0 k ≡ true = grind (arith, nat_tests) in
    ap (λ (b : Bool). cond b (drop count a.1.writer.written ∷ new_results_from (k + 1) written_before ls) ([] ∷ new_results_from (k + 1) written_before (a ∷ ls))) same

-- the results up to a later checkpoint, and those that are new in them
so-far-on : (f : Function) (records : List (List ℕ)) (old new : Row) → IsAhead old new → old.lo ≤ old.at
    → results_so_far f records old ++ results_between f old.lo (own_records records old) old.at new.at ≡ results_so_far f records new
so-far-on f records old new ahead from =
    results-join f old.lo (own_records records old) old.lo old.at new.at from ahead.at
    ∙ sym (ap₂ (λ (lo hi : ℕ). results_between f lo (own_records records (record new { lo = lo; hi = hi })) lo new.at) ahead.lo ahead.hi)

grown-one : (f : Function) (records : List (List ℕ)) (old new : Row) (share now written : List (List ℕ)) → IsAhead old new → old.lo ≤ old.at → IsPartitionResult f records old share → IsPartitionResult f records new now
    → written ≡ now → now ≡ share ++ drop old.written written
grown-one f records old new share now written ahead from own own-now same =
    let more = results_between f old.lo (own_records records old) old.at new.at in
    let whole : now ≡ share ++ more = own-now.results ∙ sym (so-far-on f records old new ahead from) ∙ ap (λ (x : List (List ℕ)). x ++ more) (sym own.results) in
    let behind : drop old.written written ≡ more = ap₂ (λ (n : ℕ) (x : List (List ℕ)). drop n x) (sym own.number) (same ∙ whole) ∙ drop-append_seam share more in
    whole ∙ ap (λ (x : List (List ℕ)). share ++ x) (sym behind)

same-share : (f : Function) (records : List (List ℕ)) (old new : Row) (share now : List (List ℕ)) → new ≡ old → IsPartitionResult f records old share → IsPartitionResult f records new now → now ≡ share ++ []
same-share f records old new share now same own own-now = own-now.results ∙ ap (results_so_far f records) same ∙ sym own.results ∙ sym (append-nil share)

abbrev written_before-of : List Row → List ℕ
written_before-of rows = map (λ row. row.written) rows

module _ (f : Function) (records : List (List ℕ)) (s : Setup) (rows : List Row) where
  grown-by : (b : Bool) (k : ℕ) (old new : Row) (olds : List Row) (share now : List (List ℕ)) (partition_results nows : List (List (List ℕ))) (ts : List TaskState) → is_finished old.state ≡ b
      → numbers_in (artifacts_of ts) ≡ map (λ n. n.0) (cond (not b) ((k, old) ∷ left-of (enumerate_from (k + 1) olds)) (left-of (enumerate_from (k + 1) olds)))
      → IsAhead old new → Stays old new → old.lo ≤ old.at → IsPartitionResult f records old share → IsPartitionResult f records new now → slice_get rows k ≡ Some new → AreDone f records s rows ts
      → ((us : List TaskState) → numbers_in (artifacts_of us) ≡ left-numbers (k + 1) olds → AreDone f records s rows us → nows ≡ grown partition_results (new_results_from (k + 1) (written_before-of olds) (artifacts_of us)))
      → now ∷ nows ≡ grown (share ∷ partition_results) (new_results_from k (written_before-of (old ∷ olds)) (artifacts_of ts))
  grown-by true k old new olds share now partition_results nows ts is named ahead stays from own own-now at have more =
      let above = subst (AreFrom (k + 1)) (sym named) (numbers-from (k + 1) (k + 1) olds (omega arith)) in
      ap₂ (λ (x : List (List ℕ)) (xs : List (List (List ℕ))). x ∷ xs) (same-share f records old new share now (stays is) own own-now) (more ts named have)
      ∙ ap (grown (share ∷ partition_results)) (sym (none-new k old.written (written_before-of olds) (artifacts_of ts) above))
  grown-by false k old new olds share now partition_results nows [] is named ahead stays from own own-now at have more = let none : ⊥ = cc in absurd none
  grown-by false k old new olds share now partition_results nows (t ∷ ts) is named ahead stays from own own-now at have more =
      let ls = artifacts_of ts in
      let here = head-is t.partition k (numbers_in ls) (left-numbers (k + 1) olds) named in
      let row = done-row f records s rows t k new have.0 here at in
      let written : t.artifacts.writer.written ≡ now = have.0.has.results ∙ ap (results_so_far f records) row ∙ sym own-now.results in
      ap₂ (λ (x : List (List ℕ)) (xs : List (List (List ℕ))). x ∷ xs) (grown-one f records old new share now t.artifacts.writer.written ahead from own own-now written)
      (more ts (tail-is t.partition k (numbers_in ls) (left-numbers (k + 1) olds) named) have.1)
      ∙ ap (grown (share ∷ partition_results)) (sym (one-new k old.written (written_before-of olds) (t.partition, t.artifacts) ls here))

  pub grown-all : (k : ℕ) (olds new_results : List Row) (partition_results nows : List (List (List ℕ))) (ts : List TaskState) → numbers_in (artifacts_of ts) ≡ left-numbers k olds → Pairwise IsAhead olds new_results → Pairwise Stays olds new_results
      → ((i : ℕ) (row : Row) → slice_get olds i ≡ Some row → row.lo ≤ row.at) → ArePartitionResults f records olds partition_results → ArePartitionResults f records new_results nows
      → ((i : ℕ) (row : Row) → slice_get new_results i ≡ Some row → slice_get rows (k + i) ≡ Some row) → AreDone f records s rows ts
      → nows ≡ grown partition_results (new_results_from k (written_before-of olds) (artifacts_of ts))
  grown-all k [] [] [] [] ts named ahead stay from own own-now at have = refl
  grown-all k [] [] [] (now ∷ nows) ts named ahead stay from own own-now at have = absurd own-now
  grown-all k [] [] (share ∷ partition_results) nows ts named ahead stay from own own-now at have = absurd own
  grown-all k [] (new ∷ new_results) partition_results nows ts named ahead stay from own own-now at have = absurd ahead
  grown-all k (old ∷ olds) [] partition_results nows ts named ahead stay from own own-now at have = absurd ahead
  grown-all k (old ∷ olds) (new ∷ new_results) [] nows ts named ahead stay from own own-now at have = absurd own
  grown-all k (old ∷ olds) (new ∷ new_results) (share ∷ partition_results) [] ts named ahead stay from own own-now at have = absurd own-now
  grown-all k (old ∷ olds) (new ∷ new_results) (share ∷ partition_results) (now ∷ nows) ts named ahead stay from own own-now at have =
      let first : k + 0 ≡ k = omega arith in
      grown-by (is_finished old.state) k old new olds share now partition_results nows ts refl named ahead.0 stay.0 (from zero old refl) own.0 own-now.0
      (subst (λ m. slice_get rows m ≡ Some new) first (at zero new refl)) have
      (λ us is has. grown-all (k + 1) olds new_results partition_results nows us is ahead.1 stay.1 (λ i r get. from (suc i) r get) own.1 own-now.1
      (λ i r get. let e : k + suc i ≡ (k + 1) + i = omega arith in subst (λ m. slice_get rows m ≡ Some r) e (at (suc i) r get)) has)

-- as many lists as partitions
length-by : (b : Bool) (one : List (List ℕ)) (new_results others : List (List (List ℕ))) (n : ℕ) → length new_results ≡ n → length others ≡ n → length (cond b (one ∷ new_results) ([] ∷ others)) ≡ suc n
length-by true one new_results others n is are = ap suc is
length-by false one new_results others n is are = ap suc are

pub new_results-length : (k : ℕ) (written_before : List ℕ) (ls : List (ℕ × ArtifactsMeaning)) → length (new_results_from k written_before ls) ≡ length written_before
new_results-length k [] ls = refl
new_results-length k (count ∷ written_before) [] = ap suc (new_results-length (k + 1) written_before [])
new_results-length k (count ∷ written_before) (a ∷ ls) =
    length-by (nat_eq a.0 k) (drop count a.1.writer.written) (new_results_from (k + 1) written_before ls) (new_results_from (k + 1) written_before (a ∷ ls)) (length written_before) (new_results-length (k + 1) written_before ls) (new_results-length (k + 1) written_before (a ∷ ls))
