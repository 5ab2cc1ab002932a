-- What is kept beside a history, after one more event.
use Rattle.std.proofs.Common.{◌≡◌, ℕ, zero, suc, ◌+◌, ◌<◌, ◌≤◌, true, false, cond, Bool, List, [], ◌∷◌, length, Option, Some, None, refl, sym, arith}
use Rattle.jb_base.specs.Limits.{max_threads}
use Rattle.jb_rules.specs.declared.row.Row.{Row}
use Rattle.jb_rules.specs.declared.row.RowState.TheVariants.{Finished}
use Rattle.jb_rules.specs.Counts.{plus_counts, no_counts, SumsFit}
use Rattle.jb_repo.specs.declared.events.Event.{Event}
use Rattle.jb_repo.specs.declared.events.Event.TheVariants.{Plan, Begin, Commit, Roll, Fail, Drop, Round, Stop}
use Rattle.jb_repo.specs.History.{own, partition_of, is_some_of, number, events_since, running}
use Rattle.jb_repo.specs.Rows.{rows_from, gain, gains, replayed_row, total_counts}
use Rattle.jb_repo.specs.Table.{Journal, Accepted, refusal, after, rows_of}
use Rattle.jb_repo.specs.Openable.{IsOpenable}
use Rattle.jb_repo.specs.inside.LowerLaws.{LowerRowLaws}
use Rattle.jb_repo.specs.inside.Fit.{CountsFit}
use Rattle.jb_repo.specs.inside.Projection.{IsInPlace}
use Rattle.jb_repo.proofs.RowLemmas.{own-yes, own-no, rows_from-none, rows_from-before, plus_counts-swap, plus_counts-zero, plus_counts_assoc}
use Rattle.jb_repo.proofs.Consistent.{row_eq_opening}
use Rattle.jb_repo.proofs.Opened.{still_openable}
use Rattle.jb_repo.proofs.Passing.{begin_passes, commit_passes, roll_passes, fail_passes, drop_passes}
use Rattle.jb_repo.proofs.Tables.{about_row, is_table}
use Rattle.jb_repo.proofs.Totals.{totals_fit}

-- BEFORE THE FIRST EVENT

pub rows_from-opening : (c first : ℕ) (rows : List Row) → rows_from c [] first rows ≡ rows
rows_from-opening c first [] = refl
rows_from-opening c first (r ∷ rows) =
    let t = rows_from-opening c (first + 1) rows in
    let u = row_eq_opening c r in
    rw (u, t) refl

pub running-opening : (n : ℕ) → running n [] ≡ 0
running-opening zero = refl
running-opening (suc n) = omega (arith, running-opening n)

-- any row, for the places of a list that are past its end
abbrev pub any_row : Row
any_row = record { lo = 0; hi = 0; at = 0; redo = 0; retries = 0; written = 0; counts = no_counts; in_place = 0; state = Finished }

-- NO MORE THAN THE EVENTS

pub number-few : (test : Event → Bool) (past : List Event) → number test past ≤ length past
number-few test [] = omega arith
number-few test (e ∷ past) =
    let t = number-few test past in
    elim (test e) as (λ b. cond b 1 0 + number test past ≤ suc (length past)) [ true ↦ omega (arith, t) | false ↦ omega (arith, t) ]

pub since-few : (test : Event → Bool) (past : List Event) → length (events_since test past) ≤ length past
since-few test [] = omega arith
since-few test (e ∷ past) =
    let t = since-few test past in
    elim (test e) as (λ b. length (cond b [] (e ∷ events_since test past)) ≤ suc (length past)) [ true ↦ omega arith | false ↦ omega (arith, t) ]

pub own-few : (p : ℕ) (past : List Event) → length (own p past) ≤ length past
own-few p [] = omega arith
own-few p (e ∷ past) =
    let t = own-few p past in
    elim (is_some_of (partition_of e past) p) as (λ b. length (cond b (e ∷ own p past) (own p past)) ≤ suc (length past)) [ true ↦ omega (arith, t) | false ↦ omega (arith, t) ]

-- THE TOTALS

-- the partition's row grows by what the event gains, and no other row changes
totals-some : (c : ℕ) (e : Event) (past : List Event) (p i first : ℕ) (rs : List Row) → partition_of e past ≡ Some p → p ≡ first + i → i < length rs
    → total_counts (rows_from c (e ∷ past) first rs) ≡ plus_counts (total_counts (rows_from c past first rs)) (gain e)
totals-some c e past p i first [] h at lt = absurd (omega arith)
totals-some c e past p zero first (r ∷ rs) h at lt =
    let q : p ≡ first = omega arith in
    let h' : partition_of e past ≡ Some first = cc in
    let t : own first (e ∷ past) ≡ e ∷ own first past = own-yes first e past h' in
    let u = rows_from-before c e past p (first + 1) rs h (omega arith) in
    rw (t, u) (plus_counts-swap r.counts (gains (own first past)) (gain e) (total_counts (rows_from c past (first + 1) rs)))
totals-some c e past p (suc i) first (r ∷ rs) h at lt =
    let t = own-no p first e past h (omega arith) in
    let u = totals-some c e past p i (first + 1) rs h (omega arith) (omega arith) in
    rw (t, u) (plus_counts_assoc (replayed_row c r (own first past)).counts (total_counts (rows_from c past (first + 1) rs)) (gain e))

module _ (j : Journal) (ready : IsOpenable j) (ok : Accepted j) (e : Event) (passes : refusal j e ≡ None) where
  -- an event that is about no partition gains nothing
  gain-none : (f : Event) → refusal j f ≡ None → partition_of f j.past ≡ None → gain f ≡ no_counts
  gain-none (Plan n k) passes part = refl
  gain-none (Begin l p) passes part = refl
  gain-none (Commit l d w a) passes part = let owned = (commit_passes j l d w a passes).0.owned in absurd cc
  gain-none (Roll l k a) passes part = let owned = (roll_passes j l k a passes).owned in absurd cc
  gain-none (Fail l k a) passes part = let owned = (fail_passes j l k a passes).owned in absurd cc
  gain-none (Drop l) passes part = refl
  gain-none Round passes part = refl
  gain-none Stop passes part = refl

  totals-about : (o : Option ℕ) → partition_of e j.past ≡ o → total_counts (rows_of (after j e)) ≡ plus_counts (total_counts (rows_of j)) (gain e)
  totals-about None part =
      let same = rows_from-none j.item_count e j.past 0 j.opening part in
      let none = gain-none e passes part in
      rw (same, none) (sym (plus_counts-zero (total_counts (rows_of j))))
  totals-about (Some p) part =
      let z : p ≡ 0 + p = omega arith in
      totals-some j.item_count e j.past p p 0 j.opening part z (about_row j ready ok e passes p part)

  pub totals_after : total_counts (rows_of (after j e)) ≡ plus_counts (total_counts (rows_of j)) (gain e)
  totals_after = totals-about (partition_of e j.past) refl

  -- they fit their words
  pub sums_fit : LowerRowLaws → SumsFit (total_counts (rows_of j)) (gain e)
  sums_fit laws =
      let table = is_table laws (after j e) (still_openable j (e ∷ j.past) j.room ready) (passes, ok) in
      let fit = totals_fit (rows_of (after j e)) table.few_rows table.sound in
      let f : CountsFit (plus_counts (total_counts (rows_of j)) (gain e)) = rw totals_after at fit in
      record { read = f.read; write = f.write; commit = f.commit; rollback = f.rollback; read_skip = f.read_skip; process_skip = f.process_skip; filter = f.filter; write_skip = f.write_skip }

-- THE EVENT'S LANE AND PARTITION

within-lane : (j : Journal) → IsOpenable j → (l : ℕ) → l < j.threads → l < max_threads
within-lane j ready l lt = omega (arith, lt, ready.few_threads)

pub within : (j : Journal) → IsOpenable j → (e : Event) → refusal j e ≡ None → IsInPlace e
within j ready (Plan n k) passes = record { lane = tt; partition = tt }
within j ready (Begin l p) passes =
    let b = begin_passes j l p passes in
    record { lane = within-lane j ready l b.lane; partition = omega (arith, b.partition, ready.few_rows) }
within j ready (Commit l d w a) passes = record { lane = within-lane j ready l (commit_passes j l d w a passes).0.lane; partition = tt }
within j ready (Roll l k a) passes = record { lane = within-lane j ready l (roll_passes j l k a passes).lane; partition = tt }
within j ready (Fail l k a) passes = record { lane = within-lane j ready l (fail_passes j l k a passes).lane; partition = tt }
within j ready (Drop l) passes = record { lane = within-lane j ready l (drop_passes j l passes).lane; partition = tt }
within j ready Round passes = record { lane = tt; partition = tt }
within j ready Stop passes = record { lane = tt; partition = tt }
