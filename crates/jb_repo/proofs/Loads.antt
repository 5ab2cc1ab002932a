-- What is left can be planned.
use Rattle.std.proofs.Common.{◌≡◌, ℕ, suc, false, List, [], ◌∷◌, length, refl, ap, subst, arith}
use Rattle.jb_cert.specs.Load.{IsWithinLimits}
use Rattle.jb_rules.specs.declared.row.Row.{Row}
use Rattle.jb_rules.specs.States.{has_ended}
use Rattle.jb_repo.specs.Rows.{remaining}
use Rattle.jb_repo.specs.Table.{rows_of}
use Rattle.jb_repo.specs.Laws.{LoadsFit, OpeningLoadsFit, WaitingRowsHaveChunks}
use Rattle.jb_repo.specs.inside.LowerLaws.{LowerRowLaws}
use Rattle.jb_repo.proofs.Consistent.{at_past}
use Rattle.jb_repo.proofs.RowLemmas.{length-rows_from}
use Rattle.jb_repo.proofs.Stepping.{waiting-before-end}
use Rattle.jb_repo.proofs.Tables.{remaining_fits}
use Rattle.jb_repo.proofs.Noting.{rows_from-opening}
use Rattle.jb_repo.proofs.Opened.{still_openable}

length-remaining : (c : ℕ) (rows : List Row) → length (remaining c rows) ≡ length rows
length-remaining c [] = refl
length-remaining c (row ∷ rows) = ap suc (length-remaining c rows)

pub loads_fit : LowerRowLaws → LoadsFit
loads_fit laws j law =
    let ready = law.ready in
    record {
      few_counts = omega (arith, length-remaining j.item_count (rows_of j), length-rows_from j.item_count j.past 0 j.opening, ready.few_rows);
      few_chunks = remaining_fits laws j ready law.accepted;
      some_thread = ready.some_threads;
      few_threads = ready.few_threads;
    }

pub opening_loads_fit : LowerRowLaws → OpeningLoadsFit
opening_loads_fit laws j ready =
    subst (λ (rows : List Row). IsWithinLimits (remaining j.item_count rows) j.threads) (rows_from-opening j.item_count 0 j.opening)
    (loads_fit laws (at_past j []) (record { ready = still_openable j [] j.room ready; accepted = tt }))

pub waiting_rows_have_chunks : LowerRowLaws → WaitingRowsHaveChunks
waiting_rows_have_chunks laws c row some sound waits =
    let going : has_ended row.state ≡ false = ap has_ended waits in
    let next = laws.chunks.next row.at row.redo row.hi c (waiting-before-end row sound going) sound.placed.redo_to some in
    let one = ap length next.others in
    rw waits (omega (arith, one))
