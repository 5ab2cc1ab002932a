-- The rows count a commit for each Commit.
use Rattle.std.proofs.Common.{◌≡◌, ℕ, zero, suc, ◌+◌, Bool, cond, List, [], ◌∷◌, set, slice_get, Option, Some, None, refl, ap, arith}
use Rattle.jb_rules.specs.declared.row.Row.{Row}
use Rattle.jb_repo.specs.declared.events.Event.{Event}
use Rattle.jb_repo.specs.Deltas.{counts_in}
use Rattle.jb_repo.specs.declared.events.Event.TheVariants.{Plan, Begin, Commit, Roll, Fail, Drop, Round, Stop}
use Rattle.jb_repo.specs.History.{own, partition_of, number, is_commit_event}
use Rattle.jb_repo.specs.Rows.{replayed_row, rows_from, total_counts}
use Rattle.jb_repo.specs.Table.{Journal, refusal, AcceptedPast}
use Rattle.jb_repo.specs.Openable.{IsOpenable}
use Rattle.jb_repo.specs.Laws.{CommitsAreCounted}
use Rattle.jb_repo.specs.inside.LowerLaws.{LowerRowLaws}
use Rattle.jb_repo.specs.inside.Steps.{CanStep}
use Rattle.jb_repo.proofs.Consistent.{at_past, consistent, about, can, rows-sound}
use Rattle.jb_repo.proofs.Passing.{row_of-is, commit_passes}
use Rattle.jb_repo.proofs.RowLemmas.{step, rows_from-none, rows_from-some}
use Rattle.jb_repo.proofs.Stepping.{commit_facts}
use Rattle.jb_repo.proofs.Tables.{at_some}
use Rattle.jb_repo.proofs.Noting.{rows_from-opening}

-- how many commits the rows count
abbrev counted : List Row → ℕ
counted rows = (total_counts rows).commit

abbrev one : Bool → ℕ
one b = cond b 1 0

-- a row in the place of another
counted-set : (rows : List Row) (i : ℕ) (old new : Row) → slice_get rows i ≡ Some old → counted (set rows i new) + old.counts.commit ≡ counted rows + new.counts.commit
counted-set [] i old new h = absurd cc
counted-set (row ∷ rows) zero old new h = let e : row ≡ old = cc in let f = ap (λ (r : Row). r.counts.commit) e in omega (arith, f)
counted-set (row ∷ rows) (suc i) old new h = let t = counted-set rows i old new h in omega (arith, t)

-- a Commit adds one commit to its row, and no other event does
counted-step : LowerRowLaws → (c : ℕ) (row : Row) (e : Event) → CanStep c row e → (step c row e).counts.commit ≡ row.counts.commit + one (is_commit_event e)
counted-step laws c row (Plan n k) can = omega arith
counted-step laws c row (Begin l p) can = omega arith
counted-step laws c row (Commit l d w a) can = let k = (commit_facts laws c row (counts_in d) w can.commit).delta.commit in omega (arith, k)
counted-step laws c row (Roll l k a) can = omega arith
counted-step laws c row (Fail l k a) can = omega arith
counted-step laws c row (Drop l) can = omega arith
counted-step laws c row Round can = omega arith
counted-step laws c row Stop can = omega arith

-- an accepted event that is about no partition is no Commit
no_commit : (j : Journal) (past : List Event) (e : Event) → refusal (at_past j past) e ≡ None → partition_of e past ≡ None → one (is_commit_event e) ≡ 0
no_commit j past (Plan n k) ok part = refl
no_commit j past (Begin l p) ok part = refl
no_commit j past (Commit l d w a) ok part = let o = (commit_passes (at_past j past) l d w a ok).0.owned in absurd cc
no_commit j past (Roll l k a) ok part = refl
no_commit j past (Fail l k a) ok part = refl
no_commit j past (Drop l) ok part = refl
no_commit j past Round ok part = refl
no_commit j past Stop ok part = refl

module _ (laws : LowerRowLaws) (j : Journal) (ready : IsOpenable j) where
  one_more : (e : Event) (past : List Event) → refusal (at_past j past) e ≡ None → AcceptedPast j past → (o : Option ℕ) → partition_of e past ≡ o
      → counted (rows_from j.item_count (e ∷ past) 0 j.opening) ≡ counted (rows_from j.item_count past 0 j.opening) + one (is_commit_event e)
  one_more e past passes ok None part =
      let same = ap counted (rows_from-none j.item_count e past 0 j.opening part) in
      let none = no_commit j past e passes part in
      omega (arith, same, none)
  one_more e past passes ok (Some p) part =
      let known = consistent j ready past ok in
      let opening = at_some j.opening p (about j past known e p passes part) in
      let row = replayed_row j.item_count opening.0 (own p past) in
      let is = row_of-is (at_past j past) p opening.0 opening.1 in
      let place : p ≡ 0 + p = omega arith in
      let changed = ap counted (rows_from-some j.item_count e past p p 0 j.opening row part place is) in
      let sound = rows-sound laws j ready p opening.0 opening.1 past ok in
      let more = counted-step laws j.item_count row e (can j past known p opening.0 opening.1 sound e passes part) in
      let put = counted-set (rows_from j.item_count past 0 j.opening) p row (step j.item_count row e) is in
      omega (arith, changed, more, put)

  all_counted : (past : List Event) → AcceptedPast j past → counted (rows_from j.item_count past 0 j.opening) ≡ counted j.opening + number is_commit_event past
  all_counted [] ok = let e = ap counted (rows_from-opening j.item_count 0 j.opening) in omega (arith, e)
  all_counted (e ∷ past) ok =
      let old = all_counted past ok.1 in
      let new = one_more e past ok.0 ok.1 (partition_of e past) refl in
      omega (arith, old, new)

pub commits_are_counted : LowerRowLaws → CommitsAreCounted
commits_are_counted laws j law = all_counted laws j law.ready j.past law.accepted
