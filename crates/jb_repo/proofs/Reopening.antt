-- What was opened has an accepted history; and where no lane runs, a repository may be opened with the rows.
use Rattle.std.proofs.Common.{◌≡◌, ℕ, false, Some, ap, ◌∙◌}
use Rattle.jb_rules.specs.declared.row.Row.{Row}
use Rattle.jb_rules.specs.Sound.{IsSoundRow}
use Rattle.jb_rules.specs.States.{is_running}
use Rattle.jb_repo.specs.Table.{Journal, row_of, reserved}
use Rattle.jb_repo.specs.Openable.{IsReplayable}
use Rattle.jb_repo.specs.Laws.{OpeningsAreAccepted, RowsMayBeOpenedAgain}
use Rattle.jb_repo.specs.inside.LowerLaws.{LowerRowLaws}
use Rattle.jb_repo.proofs.LawProofs.{none_runs}
use Rattle.jb_repo.proofs.Noting.{rows_from-opening}
use Rattle.jb_repo.proofs.Tables.{has_opening, row_sound, is_table}

pub openings_are_accepted : OpeningsAreAccepted
openings_are_accepted rows threads item_count ready = record {
  replayable = record { ready = ready; accepted = tt };
  rows = rows_from-opening item_count 0 rows;
}

idle : LowerRowLaws → (j : Journal) → IsReplayable j → reserved j ≡ 0 → (p : ℕ) (row : Row) → row_of j p ≡ Some row → IsSoundRow row × (is_running row.state ≡ false)
idle laws j law still p row is =
    let o = has_opening j p row is in (
      row_sound laws j law.ready law.accepted p row is,
      ap (λ (r : Row). is_running r.state) o.becomes ∙ none_runs j law still p o.opening o.opens,
    )

pub rows_may_be_opened_again : LowerRowLaws → RowsMayBeOpenedAgain
rows_may_be_opened_again laws j law still =
    let table = is_table laws j law.ready law.accepted in
    record {
      some_rows = table.some_rows;
      few_rows = table.few_rows;
      idle = idle laws j law still;
      disjoint = table.disjoint;
      some_threads = law.ready.some_threads;
      few_threads = law.ready.few_threads;
      some_items = law.ready.some_items;
      few_items = law.ready.few_items;
    }
