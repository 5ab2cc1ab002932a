-- The row of a partition after a history, by sums over its own events (this project's own choice). The counts are the
-- metrics of Jakarta Batch 2.1, "Metric".
use Rattle.std.specs.Prelude.{ℕ, ◌+◌, max, Bool, true, false, if◌then◌else◌, List, [], ◌∷◌}
use Rattle.jb_rules.specs.declared.counts.Counts.{Counts}
use Rattle.jb_rules.specs.declared.row.Row.{Row}
use Rattle.jb_rules.specs.declared.row.RowState.{RowState}
use Rattle.jb_rules.specs.declared.row.RowState.TheVariants.{Waiting, Running, Failed}
use Rattle.jb_repo.specs.declared.events.Event.{Event}
use Rattle.jb_repo.specs.Deltas.{counts_in}
use Rattle.jb_repo.specs.declared.events.Event.TheVariants.{Begin, Commit, Roll, Fail, Drop}
use Rattle.jb_rules.specs.Counts.{plus_counts, no_counts}
use Rattle.jb_plan.specs.Blocks.{next_block}
use Rattle.jb_rules.specs.Rows.{state_at, remaining_of}
use Rattle.jb_repo.specs.History.{own, number}

abbrev pub one_rollback : Counts
one_rollback = record no_counts { rollback = 1 }

-- what an own event adds to the counts: a Commit its delta, a Roll or a Fail one rollback
abbrev pub gain : Event → Counts
gain (Commit lane delta written again) = counts_in delta
gain (Roll lane class again) = one_rollback
gain (Fail lane class again) = one_rollback
gain _ = no_counts

abbrev pub gains : List Event → Counts
gains [] = no_counts
gains (e ∷ events) = plus_counts (gains events) (gain e)

-- how many records a Commit passes
abbrev pub advance : Event → ℕ
advance (Commit lane delta written again) = delta.read + delta.read_skip
advance _ = 0

abbrev pub advances : List Event → ℕ
advances [] = 0
advances (e ∷ events) = advances events + advance e

-- how many calls an outcome's chunk repeated in place
abbrev pub repeats_in : Event → ℕ
repeats_in (Commit lane delta written again) = again
repeats_in (Roll lane class again) = again
repeats_in (Fail lane class again) = again
repeats_in _ = 0

abbrev pub all_repeats : List Event → ℕ
all_repeats [] = 0
all_repeats (e ∷ events) = all_repeats events + repeats_in e

abbrev pub is_roll : Event → Bool
is_roll (Roll lane class again) = true
is_roll _ = false

-- the opening `at` and what the Commits passed
abbrev pub at_after : Row → List Event → ℕ
at_after opening events = opening.at + advances events

-- the last Commit's number, else the opening one
abbrev pub written_after : ℕ → List Event → ℕ
written_after opening [] = opening
written_after opening (Commit lane delta written again ∷ events) = written
written_after opening (_ ∷ events) = written_after opening events

-- the greatest of the opening `redo` and the ends of the blocks that were rolled back
abbrev pub redo_after : ℕ → Row → List Event → ℕ
redo_after item_count opening [] = opening.redo
redo_after item_count opening (e ∷ events) =
    let before = redo_after item_count opening events in
    if is_roll e then max before (next_block (at_after opening events) before opening.hi item_count).hi else before

-- by the last own event
abbrev pub state_after : Row → List Event → RowState
state_after opening [] = opening.state
state_after opening (Begin lane partition ∷ events) = Running lane
state_after opening (Commit lane delta written again ∷ events) = state_at (at_after opening (Commit lane delta written again ∷ events)) opening.hi
state_after opening (Roll lane class again ∷ events) = Waiting
state_after opening (Fail lane class again ∷ events) = Failed
state_after opening (Drop lane ∷ events) = Waiting
state_after opening (_ ∷ events) = state_after opening events

-- the row after a partition's own events
abbrev pub replayed_row : ℕ → Row → List Event → Row
replayed_row item_count opening events = record {
  lo = opening.lo;
  hi = opening.hi;
  at = at_after opening events;
  redo = redo_after item_count opening events;
  retries = opening.retries + number is_roll events + all_repeats events;
  written = written_after opening.written events;
  counts = plus_counts opening.counts (gains events);
  in_place = opening.in_place + all_repeats events;
  state = state_after opening events;
}

-- the rows of the partitions from the first one on
abbrev pub rows_from : ℕ → List Event → ℕ → List Row → List Row
rows_from item_count past first [] = []
rows_from item_count past first (opening ∷ others) =
    replayed_row item_count opening (own first past) ∷ rows_from item_count past (first + 1) others

-- how many chunks each row has left
abbrev pub remaining : ℕ → List Row → List ℕ
remaining item_count [] = []
remaining item_count (row ∷ rows) = remaining_of item_count row row.state ∷ remaining item_count rows

-- the sums of the rows' counts
abbrev pub total_counts : List Row → Counts
total_counts [] = no_counts
total_counts (row ∷ rows) = plus_counts row.counts (total_counts rows)
