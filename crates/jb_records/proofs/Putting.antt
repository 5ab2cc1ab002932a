-- The results that came back, put in their places.
use Rattle.std.proofs.Common.{◌≡◌, ℕ, zero, suc, ◌+◌, ◌++◌, ◌≤◌, ◌<◌, true, false, cond, List, [], ◌∷◌, length, map, set, refl, ap, sym, ◌∙◌, arith}
use Rattle.std.specs.Prelude.{nat_eq}
use Rattle.std.specs.List.{enumerate_from}
use Rattle.std.proofs.lemmas.List.{set_past}
use Rattle.std.proofs.lemmas.Bool.Decides.{nat_tests}
use Rattle.jb_artifacts.specs.Meaning.{ArtifactsMeaning}
use Rattle.jb_records.specs.PartitionResults.{newer_share, newer_partition_results}

-- one partition's
newer-last : (front : List (ℕ × ArtifactsMeaning)) (a : ℕ × ArtifactsMeaning) (p : ℕ) (share : List (List ℕ)) → newer_share (front ++ a ∷ []) p share ≡ newer_share front p (newer_share (a ∷ []) p share)
newer-last [] a p share = refl
newer-last (b ∷ front) a p share = ap (cond (nat_eq b.0 p) b.1.writer.written) (newer-last front a p share)

abbrev from-on : List (ℕ × ArtifactsMeaning) → ℕ → List (List (List ℕ)) → List (List (List ℕ))
from-on left k partition_results = map (λ n. newer_share left n.0 n.1) (enumerate_from k partition_results)

all-last : (front : List (ℕ × ArtifactsMeaning)) (a : ℕ × ArtifactsMeaning) (k : ℕ) (partition_results : List (List (List ℕ))) → from-on (front ++ a ∷ []) k partition_results ≡ from-on front k (from-on (a ∷ []) k partition_results)
all-last front a k [] = refl
all-last front a k (x ∷ xs) = λ i. newer-last front a k x i ∷ all-last front a (k + 1) xs i

-- a place before all of them
before : (a : ℕ × ArtifactsMeaning) (k : ℕ) (partition_results : List (List (List ℕ))) → a.0 < k → from-on (a ∷ []) k partition_results ≡ partition_results
before a k [] lt = refl
before a k (x ∷ xs) lt =
    let other : nat_eq a.0 k ≡ false = grind (arith, nat_tests) in
    λ i. cond (other i) a.1.writer.written x ∷ before a (k + 1) xs (omega (arith, lt)) i

placed : (a : ℕ × ArtifactsMeaning) (k j : ℕ) (partition_results : List (List (List ℕ))) → a.0 ≡ k + j → from-on (a ∷ []) k partition_results ≡ set partition_results j a.1.writer.written
placed a k j [] is = refl
placed a k zero (x ∷ xs) is =
    let here : nat_eq a.0 k ≡ true = grind (arith, nat_tests) in
    λ i. cond (here i) a.1.writer.written x ∷ before a (k + 1) xs (omega (arith, is)) i
placed a k (suc j) (x ∷ xs) is =
    let other : nat_eq a.0 k ≡ false = grind (arith, nat_tests) in
    λ i. cond (other i) a.1.writer.written x ∷ placed a (k + 1) j xs (omega (arith, is)) i

-- the last one is put in its place first
pub put-last : (front : List (ℕ × ArtifactsMeaning)) (a : ℕ × ArtifactsMeaning) (partition_results : List (List (List ℕ))) → newer_partition_results front (set partition_results a.0 a.1.writer.written) ≡ newer_partition_results (front ++ a ∷ []) partition_results
put-last front a partition_results = ap (newer_partition_results front) (sym (placed a 0 a.0 partition_results (omega arith))) ∙ sym (all-last front a 0 partition_results)

-- the last one goes to its place, the others to theirs
pub putting : (front left : List (ℕ × ArtifactsMeaning)) (a : ℕ × ArtifactsMeaning) (before-it now after : List (List (List ℕ))) → left ≡ front ++ a ∷ [] → now ≡ set before-it a.0 a.1.writer.written
    → after ≡ newer_partition_results front now → after ≡ newer_partition_results left before-it
putting front left a before-it now after all put others =
    others ∙ ap (newer_partition_results front) put ∙ put-last front a before-it ∙ ap (λ l. newer_partition_results l before-it) (sym all)

-- what has no place is left out
pub not-put : (partition_results : List (List (List ℕ))) (i : ℕ) (share : List (List ℕ)) → length partition_results ≤ i → partition_results ≡ set partition_results i share
not-put partition_results i share past = sym (set_past partition_results i share past)

no-new_results : (k : ℕ) (partition_results : List (List (List ℕ))) → from-on [] k partition_results ≡ partition_results
no-new_results k [] = refl
no-new_results k (x ∷ xs) = ap (λ ys. x ∷ ys) (no-new_results (k + 1) xs)

pub put-none : (left : List (ℕ × ArtifactsMeaning)) (partition_results : List (List (List ℕ))) → left ≡ [] → partition_results ≡ newer_partition_results left partition_results
put-none left partition_results none = sym (ap (λ l. newer_partition_results l partition_results) none ∙ no-new_results 0 partition_results)
