-- What rows and progresses tell of where they are, and how they ended.
use Rattle.std.{proofs.Common.{◌≡◌, ℕ, suc, ◌≤◌, Bool, true, false, cond, ◌||◌, ◌⊎◌, List, [], ◌∷◌, map, Option, None, Some, refl, ap, sym, subst, ◌∙◌, arith, rules}, specs.Prelude.{◌↔◌}, specs.List.{AllByRecursion, list_any}}
use Rattle.sqlite_trees.proofs.ListLemmas.{all-get_or, all-map, all_from_map, all_weaker}
use Rattle.jb_base.specs.Rules.{RulesRecord}
use Rattle.jb_mapper.specs.EvenCover.{even_ranges}
use Rattle.jb_ready.specs.declared.notes.Note.{Note}
use Rattle.jb_rules.specs.{Rows.{dropped_row}, Sound.{IsPlaced}, States.{has_ended, is_failed}, declared.row.Row.{Row}, declared.row.RowState.{RowState}, declared.row.RowState.TheVariants.{Failed, Finished}}
use Rattle.jb_saved.specs.GoingOn.{restarted}
use Rattle.jb_records.{specs.Following.{FollowsRules, HasFailed, IsStopOf, ranges_of}, specs.FollowingLaws.{StoppedRowsDont}, specs.Function.{steady}, specs.PartitionResults.{AreAtTheirEnds, AreRangesOf, AreRowsInOrder}, proofs.Evenly.{evenly}}
use Rattle.jb_slices.specs.{Checkpoint.{Progress}, Function.{Function}, Partitions.{HasFailed as HaveFailed}}
use Rattle.jb_slice_run.specs.{RowLaws.{EndsAreOfRows, EvenRowsAreInOrder, IdleRowsArePlaced, RestartedRowsArePlaced, StampsAreOf, StopsAreNamed}, Rows.{IsStopNamed, rows_in}, Step.{StepsDivideSlices}}

-- ---- STOPS

pub stop-named : StoppedRowsDont → (f : Function) (rules : RulesRecord) (records : List (List ℕ)) (row : Row) (stop : Option Note) → FollowsRules (steady f) rules records row
    → IsStopOf (steady f) rules records row stop → IsStopNamed f rules records row stop
stop-named law f rules records row None follows of = λ failed. (let by = follows.failed failed in absurd (law (steady f) rules records row by.0 by.1 of))
stop-named law f rules records row (Some note) follows of = λ failed. (note, refl, of)

pub stops-named : StoppedRowsDont → StopsAreNamed
stops-named law f rules records [] [] follow are = tt
stops-named law f rules records (row ∷ rows) (stop ∷ stops) follow are = (stop-named law f rules records row stop follow.0 are.0, stops-named law f rules records rows stops follow.1 are.1)
stops-named law f rules records _ _ follow are = absurd are

-- ---- EVEN RANGES

in-order : (from to : ℕ) (rows : List Row) → AreRangesOf from to (ranges_of rows) → AreRowsInOrder from to rows
in-order from to [] are = are
in-order from to (row ∷ rows) are = (are.0, are.1, in-order row.hi to rows are.2)

pub even-order : EvenRowsAreInOrder
even-order records parts rows some is = in-order 0 records rows (subst (AreRangesOf 0 records) (sym is) (evenly records parts some))

pub steps-divide : StepsDivideSlices
steps-divide job limits threads step items is = (ap (even_ranges items) is.partitions_are, subst (λ n. 1 ≤ n) is.partitions_are step.some)

-- ---- PLACES

pub idle-placed : IdleRowsArePlaced
idle-placed [] idle = tt
idle-placed (row ∷ rows) idle = ((idle 0 row refl).0.placed, idle-placed rows (λ i r get. idle (suc i) r get))

-- what a restart leaves each row is left to all
all-again : (P : Row → Type 0) → ((row : Row) → P row ↔ P (restarted row)) → (rows : List Row) → AllByRecursion P rows ↔ AllByRecursion P (map restarted rows)
all-again P each rows = (λ all. all-map P restarted rows (all_weaker P _ (λ row. (each row).0) rows all), λ all. all_weaker _ P (λ row. (each row).1) rows (all_from_map P restarted rows all))

place-again : (b : Bool) (row : Row) → IsPlaced row ↔ IsPlaced (cond b (dropped_row row) row)
place-again true row = ((λ placed. search rules), (λ placed. search rules))
place-again false row = ((λ placed. placed), (λ placed. placed))

pub restarted-placed : RestartedRowsArePlaced
restarted-placed held = let all = all-again IsPlaced (λ row. place-again (is_failed row.state) row) held.rows in (all.1, all.0)

end-again : (row : Row) → (row.state ≡ Finished) ↔ ((restarted row).state ≡ Finished)
end-again row = grind arith

-- rows that wait again are at their ends exactly if they were before
pub whole-again : (rows : List Row) → AreAtTheirEnds rows ↔ AreAtTheirEnds (map restarted rows)
whole-again rows = all-again (λ row. row.state ≡ Finished) end-again rows

-- ---- ENDS

or-failed : (state : RowState) (later : Bool) (Later : Type 0) → Later ↔ (later ≡ true) → ((state ≡ Failed) ⊎ Later) ↔ ((is_failed state || later) ≡ true)
or-failed state later Later same = grind arith

failed-rows : (ps : List Progress) → HaveFailed ps ↔ HasFailed (rows_in ps)
failed-rows [] = ((λ failed. absurd failed), (λ failed. cc))
failed-rows (p ∷ ps) = or-failed p.row.state (list_any (λ (row : Row). is_failed row.state) (rows_in ps)) (HaveFailed ps) (failed-rows ps)

all-rows : (P : Row → Type 0) (ps : List Progress) → AllByRecursion (λ (p : Progress). P p.row) ps ↔ AllByRecursion P (rows_in ps)
all-rows P ps = (all-map P (λ (p : Progress). p.row) ps, all_from_map P (λ (p : Progress). p.row) ps)

pub ends-of : EndsAreOfRows
ends-of ps = (all-rows (λ (row : Row). row.state ≡ Finished) ps, all-rows (λ (row : Row). has_ended row.state ≡ true) ps, failed-rows ps)

-- ---- STAMPS

pub stamps-of : StampsAreOf
stamps-of functions f stamps stamp are (k, within, is) = ap functions (sym is) ∙ all-get_or (λ s. functions s ≡ f) stamps k stamp are within
