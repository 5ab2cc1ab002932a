-- Each Commit takes the first of the blocks that are left.
use Rattle.std.proofs.Common.{◌≡◌, ℕ, List, ◌∷◌, None, subst, arith}
use Rattle.jb_repo.specs.declared.deltas.Delta.{Delta}
use Rattle.jb_repo.specs.Deltas.{counts_in}
use Rattle.jb_rules.specs.Rows.{row_block}
use Rattle.jb_repo.specs.declared.events.Event.{Event}
use Rattle.jb_repo.specs.declared.events.Event.TheVariants.{Commit}
use Rattle.jb_repo.specs.History.{own}
use Rattle.jb_repo.specs.Rows.{replayed_row}
use Rattle.jb_repo.specs.Table.{Journal, refusal, AcceptedPast}
use Rattle.jb_repo.specs.Openable.{IsOpenable}
use Rattle.jb_repo.specs.Laws.{TakesFirstBlock, CommitsTakeFirstBlocks}
use Rattle.jb_repo.specs.inside.LowerLaws.{LowerRowLaws}
use Rattle.jb_repo.proofs.Consistent.{at_past, accepted_before, consistent, commit_of_row, rows-sound}
use Rattle.jb_repo.proofs.Passing.{row_of-is, commit_passes}
use Rattle.jb_repo.proofs.Stepping.{commit_facts, passed-block, running-before-end}
use Rattle.jb_repo.proofs.Tables.{at_some}

takes_first : LowerRowLaws → (j : Journal) → IsOpenable j → (past : List Event) (l : ℕ) (d : Delta) (w a : ℕ) → refusal (at_past j past) (Commit l d w a) ≡ None → AcceptedPast j past → TakesFirstBlock (at_past j past) l (counts_in d)
takes_first laws j ready past l d w a passes ok =
    let q = commit_passes (at_past j past) l d w a passes in
    let p = q.0.partition in
    let known = consistent j ready past ok in
    let opening = at_some j.opening p (known.lanes l p q.0.owned).partition in
    let row = replayed_row j.item_count opening.0 (own p past) in
    let sound = rows-sound laws j ready p opening.0 opening.1 past ok in
    let unfinished = running-before-end row l sound (known.states l p opening.0 q.0.owned opening.1) in
    let good = commit_of_row (at_past j past) p opening.0 _ (counts_in d) w q.0.owned opening.1 q.1 in
    let next = laws.chunks.next row.at row.redo row.hi j.item_count unfinished sound.placed.redo_to ready.some_items in
    let passed = passed-block laws j.item_count row ready.some_items sound unfinished (counts_in d) w (commit_facts laws j.item_count row (counts_in d) w good) in
    record {
      partition = p;
      owned = q.0.owned;
      row = row;
      row_is = row_of-is (at_past j past) p opening.0 opening.1;
      block = row_block j.item_count row;
      first = next.others;
      from = next.from;
      some = omega (arith, next.from, next.some);
      passed = omega (arith, next.from, passed);
    }

pub commits_take_first_blocks : LowerRowLaws → CommitsTakeFirstBlocks
commits_take_first_blocks laws j law later past l d w a is =
    let ok = accepted_before j later (Commit l d w a ∷ past) (subst (λ (x : List Event). AcceptedPast j x) is law.accepted) in
    takes_first laws j law.ready past l d w a ok.0 ok.1
