-- What the partitions work with, by their numbers and by their rows.
use Rattle.std.proofs.Common.{◌≡◌, ℕ, zero, suc, ◌+◌, Bool, true, false, not, cond, List, [], ◌∷◌, map, Option, Some, refl, sym, subst, arith}
use Rattle.std.specs.Prelude.{filter, slice_get}
use Rattle.std.specs.List.{enumerate_from}
use Rattle.jb_rules.specs.declared.row.Row.{Row}
use Rattle.jb_rules.specs.States.{is_finished}
use Rattle.jb_artifacts.specs.Meaning.{ArtifactsMeaning}
use Rattle.jb_step.specs.preparing.Setup.{unfinished, needs}
use Rattle.jb_base.specs.Rules.{RulesRecord}
use Rattle.jb_records.specs.Function.{Function}
use Rattle.jb_records.specs.Steps.{AreFirstArtifacts, AreArtifacts, AreArtifactsOf}
use Rattle.jb_records.specs.Artifacts.{IsFirstArtifactsOver, own_records}

same-row : (o : Option Row) (row other : Row) → Some row ≡ o → o ≡ Some other → row ≡ other
same-row o row other a b = cc

-- one partition more
pub artifacts-more : (f : Function) (rules : RulesRecord) (records : List (List ℕ)) (partition_results : List (List (List ℕ))) (rows : List Row) (p : ℕ) (row : Row) (w : ArtifactsMeaning) (others ps : List ℕ) (ws all : List ArtifactsMeaning)
    → ps ≡ p ∷ others → all ≡ w ∷ ws → Some row ≡ slice_get rows p → IsFirstArtifactsOver f rules row.lo (own_records records row) w → slice_get partition_results p ≡ Some w.writer.written
    → AreArtifactsOf f rules records partition_results rows others ws → AreArtifactsOf f rules records partition_results rows ps all
artifacts-more f rules records partition_results rows p row w others ps ws all named made at is share are =
    let own : (other : Row) → slice_get rows p ≡ Some other → IsFirstArtifactsOver f rules other.lo (own_records records other) w =
    λ other get. subst (λ (r : Row). IsFirstArtifactsOver f rules r.lo (own_records records r) w) (same-row (slice_get rows p) row other at get) is in
    let more : AreArtifactsOf f rules records partition_results rows (p ∷ others) (w ∷ ws) = ((own, share), are) in
    subst (λ (qs : List ℕ). AreArtifactsOf f rules records partition_results rows qs all) (sym named) (subst (AreArtifactsOf f rules records partition_results rows (p ∷ others)) (sym made) more)

abbrev names : List (ℕ × Row) → List ℕ
names ns = map (λ n. n.0) ns

abbrev left-of : List (ℕ × Row) → List (ℕ × Row)
left-of ns = filter (λ n. not (is_finished n.1.state)) ns

first-artifacts : (f : Function) (rules : RulesRecord) (records : List (List ℕ)) (partition_results : List (List (List ℕ))) (all : List Row) (n : ℕ × Row) (ns : List (ℕ × Row)) (b : Bool) (artifacts : List ArtifactsMeaning) → slice_get all n.0 ≡ Some n.1
    → ((ws : List ArtifactsMeaning) → AreArtifactsOf f rules records partition_results all (names ns) ws → AreFirstArtifacts f rules records partition_results ns ws)
    → AreArtifactsOf f rules records partition_results all (names (cond b (n ∷ ns) ns)) artifacts → AreFirstArtifacts f rules records partition_results (cond b (n ∷ ns) ns) artifacts
first-artifacts f rules records partition_results all n ns false artifacts at others are = others artifacts are
first-artifacts f rules records partition_results all n ns true [] at others are = absurd are
first-artifacts f rules records partition_results all n ns true (w ∷ ws) at others are = ((are.0.0 n.1 at, are.0.1), others ws are.1)

no-artifacts : (f : Function) (rules : RulesRecord) (records : List (List ℕ)) (partition_results : List (List (List ℕ))) (all : List Row) (artifacts : List ArtifactsMeaning) → AreArtifactsOf f rules records partition_results all [] artifacts → AreFirstArtifacts f rules records partition_results [] artifacts
no-artifacts f rules records partition_results all [] are = tt
no-artifacts f rules records partition_results all (w ∷ ws) are = absurd are

all-artifacts : (f : Function) (rules : RulesRecord) (records : List (List ℕ)) (partition_results : List (List (List ℕ))) (all : List Row) (k : ℕ) (rows : List Row) (artifacts : List ArtifactsMeaning)
    → ((i : ℕ) (row : Row) → slice_get rows i ≡ Some row → slice_get all (k + i) ≡ Some row)
    → AreArtifactsOf f rules records partition_results all (names (left-of (enumerate_from k rows))) artifacts → AreFirstArtifacts f rules records partition_results (left-of (enumerate_from k rows)) artifacts
all-artifacts f rules records partition_results all k [] artifacts at are = no-artifacts f rules records partition_results all artifacts are
all-artifacts f rules records partition_results all k (row ∷ rows) artifacts at are =
    first-artifacts f rules records partition_results all (k, row) (left-of (enumerate_from (k + 1) rows)) (not (is_finished row.state)) artifacts
    (let e : k + 0 ≡ k = omega arith in subst (λ m. slice_get all m ≡ Some row) e (at zero row refl))
    (λ ws more. all-artifacts f rules records partition_results all (k + 1) rows ws (λ i r get. let e : k + suc i ≡ (k + 1) + i = omega arith in subst (λ m. slice_get all m ≡ Some r) e (at (suc i) r get)) more) are

-- so the unfinished ones have theirs
pub artifacts-begun : (f : Function) (rules : RulesRecord) (records : List (List ℕ)) (partition_results : List (List (List ℕ))) (rows : List Row) (ps : List ℕ) (artifacts : List ArtifactsMeaning) → ps ≡ needs rows → AreArtifactsOf f rules records partition_results rows ps artifacts
    → AreFirstArtifacts f rules records partition_results (unfinished rows) artifacts
artifacts-begun f rules records partition_results rows ps artifacts is are =
    all-artifacts f rules records partition_results rows 0 rows artifacts (λ i row get. let e : i ≡ 0 + i = omega arith in subst (λ m. slice_get rows m ≡ Some row) e get)
    (subst (λ (qs : List ℕ). AreArtifactsOf f rules records partition_results rows qs artifacts) is are)

-- the same works, whatever they are named by
pub same-artifacts : (f g : Function) (rules others : RulesRecord) (records : List (List ℕ)) (partition_results now : List (List (List ℕ))) (ns : List (ℕ × Row)) (ws : List ArtifactsMeaning)
    → f ≡ g → rules ≡ others → partition_results ≡ now → AreFirstArtifacts f rules records partition_results ns ws → AreFirstArtifacts g others records now ns ws
same-artifacts f g rules others records partition_results now ns ws same rule share are =
    subst (λ (x : List (List (List ℕ))). AreFirstArtifacts g others records x ns ws) share
    (subst (λ (x : RulesRecord). AreFirstArtifacts g x records partition_results ns ws) rule (subst (λ (x : Function). AreFirstArtifacts x rules records partition_results ns ws) same are))

-- and they work with what they begin with
pub artifacts-at-first : (f : Function) (rules : RulesRecord) (records : List (List ℕ)) (partition_results : List (List (List ℕ))) (ns : List (ℕ × Row)) (ws : List ArtifactsMeaning) → AreFirstArtifacts f rules records partition_results ns ws → AreArtifacts f rules records partition_results ns ws
artifacts-at-first f rules records partition_results [] [] are = tt
artifacts-at-first f rules records partition_results [] (w ∷ ws) are = absurd are
artifacts-at-first f rules records partition_results (n ∷ ns) [] are = absurd are
artifacts-at-first f rules records partition_results (n ∷ ns) (w ∷ ws) are = ((are.0.0.artifacts, are.0.1), artifacts-at-first f rules records partition_results ns ws are.1)
