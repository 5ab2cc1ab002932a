-- The results of all partitions: each one's share, and the shares joined.
use Rattle.std.specs.Prelude.{ℕ, ◌≡◌, ◌≤◌, nat_eq, if◌then◌else◌, List, [], ◌∷◌, length, map}
use Rattle.std.specs.List.{AllByRecursion, enumerate_from, flat_map}
use Rattle.jb_base.specs.Pairwise.{Pairwise}
use Rattle.jb_artifacts.specs.Meaning.{ArtifactsMeaning}
use Rattle.jb_base.specs.declared.range.Range.{Range}
use Rattle.jb_rules.specs.declared.row.Row.{Row}
use Rattle.jb_rules.specs.declared.row.RowState.TheVariants.{Finished}
use Rattle.jb_step.specs.preparing.Setup.{fresh_rows}
use Rattle.jb_records.specs.Function.{Function, all_results}
use Rattle.jb_records.specs.Artifacts.{own_records, results_between}

-- the results of a partition's records before its checkpoint
abbrev pub results_so_far : Function → (records : List (List ℕ)) → Row → List (List ℕ)
results_so_far f records row = results_between f row.lo (own_records records row) row.lo row.at

-- a partition's share is these, as many as its row says; a finished partition is at the end of its range
pub record IsPartitionResult (f : Function) (records : List (List ℕ)) (row : Row) (share : List (List ℕ)) : Type 0 where
  pub results : share ≡ results_so_far f records row
  pub number : length share ≡ row.written
  pub whole : row.state ≡ Finished → row.at ≡ row.hi

abbrev pub ArePartitionResults : Function → (records : List (List ℕ)) → List Row → (partition_results : List (List (List ℕ))) → Type 0
ArePartitionResults f records rows partition_results = Pairwise (IsPartitionResult f records) rows partition_results

-- the ranges follow one another
abbrev pub AreRowsInOrder : (from to : ℕ) → List Row → Type 0
AreRowsInOrder from to [] = from ≡ to
AreRowsInOrder from to (row ∷ rows) = (row.lo ≡ from) × (from ≤ row.hi) × AreRowsInOrder row.hi to rows

abbrev pub AreRangesOf : (from to : ℕ) → List Range → Type 0
AreRangesOf from to [] = from ≡ to
AreRangesOf from to (range ∷ ranges) = (range.lo ≡ from) × (from ≤ range.hi) × AreRangesOf range.hi to ranges

-- so many results are written of each partition
abbrev pub AreNumbered : List Row → (partition_results : List (List (List ℕ))) → Type 0
AreNumbered rows partition_results = Pairwise (λ (row : Row) share. length share ≡ row.written) rows partition_results

-- HOW FAR A STEP OVER RECORDS IS: the ranges are those of all records in their order, and each partition has its share
pub record IsSoFar (f : Function) (records : List (List ℕ)) (rows : List Row) (partition_results : List (List (List ℕ))) : Type 0 where
  pub order : AreRowsInOrder 0 (length records) rows
  pub each : ArePartitionResults f records rows partition_results

-- each partition is at the end of its range
abbrev pub AreAtTheirEnds : List Row → Type 0
AreAtTheirEnds rows = AllByRecursion (λ row. row.state ≡ Finished) rows

-- the shares, joined in their order
abbrev pub joined : (partition_results : List (List (List ℕ))) → List (List ℕ)
joined partition_results = flat_map (λ share. share) partition_results

-- a partition's results as its writer was handed back, or the share that it had
abbrev pub newer_share : List (ℕ × ArtifactsMeaning) → ℕ → List (List ℕ) → List (List ℕ)
newer_share [] p share = share
newer_share (a ∷ left) p share = if nat_eq a.0 p then a.1.writer.written else newer_share left p share

abbrev pub newer_partition_results : List (ℕ × ArtifactsMeaning) → (partition_results : List (List (List ℕ))) → List (List (List ℕ))
newer_partition_results left partition_results = map (λ n. newer_share left n.0 n.1) (enumerate_from 0 partition_results)

-- THE LAW: once all partitions are finished, the shares joined are the results of all records
abbrev pub PartitionResultsJoin : Type 0
PartitionResultsJoin = (f : Function) (records : List (List ℕ)) (rows : List Row) (partition_results : List (List (List ℕ))) → IsSoFar f records rows partition_results → AreAtTheirEnds rows → joined partition_results ≡ all_results f records

-- THE LAW: a step that begins from the start is so far, with no result
abbrev pub NewStepsBegin : Type 0
NewStepsBegin =
    (f : Function) (records : List (List ℕ)) (ranges : List Range) (partition_results : List (List (List ℕ)))
    → AreRangesOf 0 (length records) ranges → AreNumbered (fresh_rows ranges) partition_results → IsSoFar f records (fresh_rows ranges) partition_results
