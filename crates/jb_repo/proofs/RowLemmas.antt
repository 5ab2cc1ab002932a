-- The row after one more own event is the old row after one step.
use Rattle.std.proofs.Common.{◌≡◌, ◌≢◌, ℕ, zero, suc, ◌+◌, ◌<◌, true, false, List, [], ◌∷◌, length, set, Some, None, option_map, slice_get, refl, ap, eq-eqb, arith}
use Rattle.std.proofs.lemmas.Bool.{ne_eqb}
use Rattle.jb_rules.specs.declared.counts.Counts.{Counts}
use Rattle.jb_rules.specs.declared.row.Row.{Row}
use Rattle.jb_rules.specs.declared.row.RowState.{RowState}
use Rattle.jb_repo.specs.declared.events.Event.{Event}
use Rattle.jb_repo.specs.Deltas.{counts_in}
use Rattle.jb_repo.specs.declared.events.Event.TheVariants.{Plan, Begin, Commit, Roll, Fail, Drop, Round, Stop}
use Rattle.jb_rules.specs.Counts.{plus_counts, no_counts, rolled_counts}
use Rattle.jb_repo.specs.History.{own, owner, names_lane, begun_by, partition_of, is_some_of}
use Rattle.jb_repo.specs.Rows.{replayed_row, rows_from, gains, advances, one_rollback}
use Rattle.jb_rules.specs.Rows.{repeated_row, committed_row}
use Rattle.jb_repo.specs.Laws.{next_row}

-- the row after one more own event, whether or not the table accepts it: a Commit is taken at its word
abbrev pub step : ℕ → Row → Event → Row
step c row (Commit l d w a) =
    record (committed_row (repeated_row row a) (row.at + (d.read + d.read_skip)) (counts_in d)) { written = w }
step c row e = next_row c row e

-- COUNTS

counts_eq : (a1 a2 a3 a4 a5 a6 a7 a8 b1 b2 b3 b4 b5 b6 b7 b8 : ℕ) → a1 ≡ b1 → a2 ≡ b2 → a3 ≡ b3 → a4 ≡ b4 → a5 ≡ b5 → a6 ≡ b6 → a7 ≡ b7 → a8 ≡ b8
    → ◌≡◌ {A = Counts} (record { read = a1; write = a2; commit = a3; rollback = a4; read_skip = a5; process_skip = a6; filter = a7; write_skip = a8 }) (record { read = b1; write = b2; commit = b3; rollback = b4; read_skip = b5; process_skip = b6; filter = b7; write_skip = b8 })
counts_eq a1 a2 a3 a4 a5 a6 a7 a8 b1 b2 b3 b4 b5 b6 b7 b8 e1 e2 e3 e4 e5 e6 e7 e8 = rw (e1, e2, e3, e4, e5, e6, e7, e8) refl

pub plus_counts_assoc : (a b c : Counts) → plus_counts a (plus_counts b c) ≡ plus_counts (plus_counts a b) c
plus_counts_assoc a b c =
    counts_eq _ _ _ _ _ _ _ _ _ _ _ _ _ _ _ _ (omega arith) (omega arith) (omega arith) (omega arith) (omega arith) (omega arith) (omega arith) (omega arith)

pub plus_counts-zero : (a : Counts) → plus_counts a no_counts ≡ a
plus_counts-zero a =
    counts_eq _ _ _ _ _ _ _ _ _ _ _ _ _ _ _ _ (omega arith) (omega arith) (omega arith) (omega arith) (omega arith) (omega arith) (omega arith) (omega arith)

-- what is added to the first of two sums is added to both
pub plus_counts-swap : (a g d t : Counts) → plus_counts (plus_counts a (plus_counts g d)) t ≡ plus_counts (plus_counts (plus_counts a g) t) d
plus_counts-swap a g d t =
    counts_eq _ _ _ _ _ _ _ _ _ _ _ _ _ _ _ _ (omega arith) (omega arith) (omega arith) (omega arith) (omega arith) (omega arith) (omega arith) (omega arith)

pub plus_counts-rollback : (a b : Counts) → plus_counts a (plus_counts b one_rollback) ≡ rolled_counts (plus_counts a b)
plus_counts-rollback a b =
    counts_eq _ _ _ _ _ _ _ _ _ _ _ _ _ _ _ _ (omega arith) (omega arith) (omega arith) (omega arith) (omega arith) (omega arith) (omega arith) (omega arith)

-- ONE MORE OWN EVENT

row_eq : (lo hi at redo retries written in_place at' redo' retries' written' in_place' : ℕ) (counts counts' : Counts) (state state' : RowState) → at ≡ at' → redo ≡ redo' → retries ≡ retries' → written ≡ written' → counts ≡ counts' → in_place ≡ in_place' → state ≡ state'
    → ◌≡◌ {A = Row} (record { lo = lo; hi = hi; at = at; redo = redo; retries = retries; written = written; counts = counts; in_place = in_place; state = state }) (record { lo = lo; hi = hi; at = at'; redo = redo'; retries = retries'; written = written'; counts = counts'; in_place = in_place'; state = state' })
row_eq lo hi at redo retries written in_place at' redo' retries' written' in_place' counts counts' state state' e1 e2 e3 e4 e5 e6 e7 = rw (e1, e2, e3, e4, e5, e6, e7) refl

module _ (c : ℕ) (r : Row) where
  pub replayed_row-step : (e : Event) (own : List Event) → replayed_row c r (e ∷ own) ≡ step c (replayed_row c r own) e
  replayed_row-step (Plan n k) own = row_eq _ _ _ _ _ _ _ _ _ _ _ _ _ _ _ _ (omega arith) refl (omega arith) refl (ap (plus_counts r.counts) (plus_counts-zero (gains own))) (omega arith) refl
  replayed_row-step (Begin l p) own = row_eq _ _ _ _ _ _ _ _ _ _ _ _ _ _ _ _ (omega arith) refl (omega arith) refl (ap (plus_counts r.counts) (plus_counts-zero (gains own))) (omega arith) refl
  replayed_row-step (Commit l d w a) own =
      let e : r.at + (advances own + (d.read + d.read_skip)) ≡ r.at + advances own + (d.read + d.read_skip) = omega arith in
      row_eq _ _ _ _ _ _ _ _ _ _ _ _ _ _ _ _ e refl (omega arith) refl (plus_counts_assoc r.counts (gains own) (counts_in d)) (omega arith) (rw e refl)
  replayed_row-step (Roll l k a) own = row_eq _ _ _ _ _ _ _ _ _ _ _ _ _ _ _ _ (omega arith) refl (omega arith) refl (plus_counts-rollback r.counts (gains own)) (omega arith) refl
  replayed_row-step (Fail l k a) own = row_eq _ _ _ _ _ _ _ _ _ _ _ _ _ _ _ _ (omega arith) refl (omega arith) refl (plus_counts-rollback r.counts (gains own)) (omega arith) refl
  replayed_row-step (Drop l) own = row_eq _ _ _ _ _ _ _ _ _ _ _ _ _ _ _ _ (omega arith) refl (omega arith) refl (ap (plus_counts r.counts) (plus_counts-zero (gains own))) (omega arith) refl
  replayed_row-step Round own = row_eq _ _ _ _ _ _ _ _ _ _ _ _ _ _ _ _ (omega arith) refl (omega arith) refl (ap (plus_counts r.counts) (plus_counts-zero (gains own))) (omega arith) refl
  replayed_row-step Stop own = row_eq _ _ _ _ _ _ _ _ _ _ _ _ _ _ _ _ (omega arith) refl (omega arith) refl (ap (plus_counts r.counts) (plus_counts-zero (gains own))) (omega arith) refl

-- OWN EVENTS AND OWNERS

pub own-yes : (p : ℕ) (e : Event) (past : List Event) → partition_of e past ≡ Some p → own p (e ∷ past) ≡ e ∷ own p past
own-yes p e past h =
    let t : is_some_of (partition_of e past) p ≡ true = rw h (eq-eqb p p refl) in
    rw t refl

pub own-no : (p q : ℕ) (e : Event) (past : List Event) → partition_of e past ≡ Some p → p ≢ q → own q (e ∷ past) ≡ own q past
own-no p q e past h ne =
    let t : is_some_of (partition_of e past) q ≡ false = rw h (ne_eqb p q ne) in
    rw t refl

pub own-none : (q : ℕ) (e : Event) (past : List Event) → partition_of e past ≡ None → own q (e ∷ past) ≡ own q past
own-none q e past h =
    let t : is_some_of (partition_of e past) q ≡ false = rw h refl in
    rw t refl

pub owner-yes : (l : ℕ) (e : Event) (past : List Event) → names_lane l e ≡ true → owner l (e ∷ past) ≡ begun_by e
owner-yes l e past h = rw h refl

pub owner-no : (l : ℕ) (e : Event) (past : List Event) → names_lane l e ≡ false → owner l (e ∷ past) ≡ owner l past
owner-no l e past h = rw h refl

-- THE LIST OF ROWS

pub length-rows_from : (c : ℕ) (past : List Event) (first : ℕ) (rs : List Row) → length (rows_from c past first rs) ≡ length rs
length-rows_from c past first [] = refl
length-rows_from c past first (r ∷ rs) = ap suc (length-rows_from c past (first + 1) rs)

pub slice_get-rows_from : (c : ℕ) (past : List Event) (first : ℕ) (rs : List Row) (i : ℕ) → slice_get (rows_from c past first rs) i ≡ option_map (λ r. replayed_row c r (own (first + i) past)) (slice_get rs i)
slice_get-rows_from c past first [] i = refl
slice_get-rows_from c past first (r ∷ rs) zero =
    let e : first + 0 ≡ first = omega arith in
    rw e refl
slice_get-rows_from c past first (r ∷ rs) (suc i) =
    let e : first + suc i ≡ first + 1 + i = omega arith in
    rw e (slice_get-rows_from c past (first + 1) rs i)

pub rows_from-none : (c : ℕ) (e : Event) (past : List Event) (first : ℕ) (rs : List Row) → partition_of e past ≡ None → rows_from c (e ∷ past) first rs ≡ rows_from c past first rs
rows_from-none c e past first [] h = refl
rows_from-none c e past first (r ∷ rs) h =
    let t = own-none first e past h in
    let u = rows_from-none c e past (first + 1) rs h in
    rw (t, u) refl

-- a partition before the first one changes none of them
pub rows_from-before : (c : ℕ) (e : Event) (past : List Event) (p first : ℕ) (rs : List Row) → partition_of e past ≡ Some p → p < first → rows_from c (e ∷ past) first rs ≡ rows_from c past first rs
rows_from-before c e past p first [] h lt = refl
rows_from-before c e past p first (r ∷ rs) h lt =
    let t = own-no p first e past h (omega arith) in
    let u = rows_from-before c e past p (first + 1) rs h (omega arith) in
    rw (t, u) refl

pub rows_from-some : (c : ℕ) (e : Event) (past : List Event) (p i first : ℕ) (rs : List Row) (row : Row) → partition_of e past ≡ Some p → p ≡ first + i → slice_get (rows_from c past first rs) i ≡ Some row → rows_from c (e ∷ past) first rs ≡ set (rows_from c past first rs) i (step c row e)
rows_from-some c e past p i first [] row h at got = refl
rows_from-some c e past p zero first (r ∷ rs) row h at got =
    let q : p ≡ first = omega arith in
    let h' : partition_of e past ≡ Some first = cc in
    let t : own first (e ∷ past) ≡ e ∷ own first past = own-yes first e past h' in
    let u = rows_from-before c e past p (first + 1) rs h (omega arith) in
    let s = replayed_row-step c r e (own first past) in
    let g : replayed_row c r (own first past) ≡ row = cc in
    rw (t, u, s, g) refl
rows_from-some c e past p (suc i) first (r ∷ rs) row h at got =
    let t = own-no p first e past h (omega arith) in
    let u = rows_from-some c e past p i (first + 1) rs row h (omega arith) got in
    rw (t, u) refl
