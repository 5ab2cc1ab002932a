-- The rows of a step over a slice's records, as the progresses of its partitions.
use Rattle.std.specs.Prelude.{ℕ, ◌≡◌, ◌≤◌, ◌+◌, List, [], ◌∷◌, map, Option, Some, option_map}
use Rattle.std.specs.List.{AllByRecursion}
use Rattle.jb_base.specs.Pairwise.{Pairwise}
use Rattle.jb_base.specs.Rules.{RulesRecord}
use Rattle.jb_ready.specs.declared.notes.Note.{Note}
use Rattle.jb_rules.specs.Sound.{IsPlaced}
use Rattle.jb_rules.specs.declared.row.Row.{Row}
use Rattle.jb_rules.specs.declared.row.RowState.TheVariants.{Failed}
use Rattle.jb_records.specs.Following.{IsStop}
use Rattle.jb_records.specs.Function.{steady}
use Rattle.jb_records.specs.Skips.{skips_between}
use Rattle.jb_slices.specs.Checkpoint.{Progress}
use Rattle.jb_slices.specs.Function.{Fault, Function}

-- ---- ONE PARTITION. The slice's first item has the number `first` in the job.

-- a record's fault, by the number of its item
abbrev pub fault_at : (first : ℕ) → Note → Fault
fault_at first note = record { number = first + note.number; class = note.class }

abbrev pub faults_at : (first : ℕ) → List Note → List Fault
faults_at first notes = map (fault_at first) notes

-- WHAT IS NEW OF A PARTITION since it was at `from`: these results, the faults of the records skipped from there to its checkpoint, and its stop
abbrev pub progress_since : Function → (first : ℕ) → (records : List (List ℕ)) → (from : ℕ) → Row → (new : List (List ℕ)) → (stop : Option Note) → Progress
progress_since f first records from row new stop = record {
  row = row;
  results = new;
  skips = faults_at first (skips_between (steady f) records from row.at);
  stop = option_map (fault_at first) stop;
}

-- A PARTITION'S PROGRESS by its row: what is new since its start
abbrev pub progress_of : Function → (first : ℕ) → (records : List (List ℕ)) → Row → (share : List (List ℕ)) → (stop : Option Note) → Progress
progress_of f first records row share stop = progress_since f first records row.lo row share stop

-- ---- ALL OF THEM

abbrev pub progresses_since : Function → (first : ℕ) → (records : List (List ℕ)) → (from : List ℕ) → List Row → (new_output : List (List (List ℕ))) → (stops : List (Option Note)) → List Progress
progresses_since f first records (from ∷ others) (row ∷ rows) (new ∷ new_output) (stop ∷ stops) =
    progress_since f first records from row new stop ∷ progresses_since f first records others rows new_output stops
progresses_since f first records _ _ _ _ = []

-- where they began, and where they are
abbrev pub begins_of : List Row → List ℕ
begins_of rows = map (λ (row : Row). row.lo) rows

abbrev pub places_of : List Row → List ℕ
places_of rows = map (λ (row : Row). row.at) rows

abbrev pub progresses_of : Function → (first : ℕ) → (records : List (List ℕ)) → List Row → (partition_results : List (List (List ℕ))) → (stops : List (Option Note)) → List Progress
progresses_of f first records rows partition_results stops = progresses_since f first records (begins_of rows) rows partition_results stops

-- the rows and the results of progresses
abbrev pub rows_in : List Progress → List Row
rows_in ps = map (λ (p : Progress). p.row) ps

abbrev pub results_in : List Progress → List (List (List ℕ))
results_in ps = map (λ (p : Progress). p.results) ps

-- ---- WHAT IS ASKED OF ROWS

-- if the row has failed, its stop is the record by whose fault its partition fails
abbrev pub IsStopNamed : Function → RulesRecord → (records : List (List ℕ)) → Row → (stop : Option Note) → Type 0
IsStopNamed f rules records row stop = row.state ≡ Failed → (note : Note) × (stop ≡ Some note) × IsStop (steady f) rules records row note

abbrev pub AreStopsNamed : Function → RulesRecord → (records : List (List ℕ)) → List Row → (stops : List (Option Note)) → Type 0
AreStopsNamed f rules records rows stops = Pairwise (IsStopNamed f rules records) rows stops

-- each checkpoint is in its row's range
abbrev pub ArePlaced : List Row → Type 0
ArePlaced rows = AllByRecursion IsPlaced rows

-- each checkpoint is where it was before, or later
abbrev pub HaveRisen : (before now : List Row) → Type 0
HaveRisen before now = Pairwise (λ (b : Row) (n : Row). b.at ≤ n.at) before now
