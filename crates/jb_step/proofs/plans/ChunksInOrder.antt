-- Quiet rounds of a plan: which chunks were run, and that the next round can be run.
use Rattle.std.proofs.Common.{◌≡◌, ℕ, suc, zero, ◌+◌, ◌-◌, ◌≤◌, ◌<◌, Bool, true, false, not, cond, List, [], ◌∷◌, ◌++◌, append-nil, length, drop, get_or, map, Option, Some, None, refl, ap, sym, ◌∙◌, subst, arith, inl, inr, length-append, length-drop}
use Rattle.std.specs.Prelude.{is_some, option_map, slice_get, slice_index, slice_index_or, Contains}
use Rattle.std.specs.Option.{option_map_or}
use Rattle.std.specs.List.{list_all, enumerate_from, AllByRecursion}
use Rattle.std.proofs.Math.Seq.{drop-nil}
use Rattle.std.proofs.lemmas.Bool.{cases_lt, or_parts, and_parts, not-false}
use Rattle.std.proofs.lemmas.List.{get_or_at, drop-drop}
use Rattle.std.proofs.lemmas.List.Elements.{All-contains_itself}
use Rattle.std.proofs.lemmas.List.Sums.{list_all-from_AllPass}
use Rattle.jb_base.specs.Pairwise.{Pairwise}
use Rattle.jb_base.specs.declared.range.Range.{Range}
use Rattle.jb_rules.specs.declared.row.Row.{Row}
use Rattle.jb_rules.specs.declared.row.RowState.{RowState}
use Rattle.jb_rules.specs.declared.row.RowState.TheVariants as state
use Rattle.jb_rules.specs.States.{is_waiting, has_ended}
use Rattle.jb_rules.specs.Rows.{remaining_of}
use Rattle.jb_cert.specs.Lawful.{Pair, IsLawful}
use Rattle.jb_chunk.specs.Attempt.{attempt_of, block_of}
use Rattle.jb_chunk.specs.TaskState.{TaskState}
use Rattle.jb_repo.specs.Rows.{remaining}
use Rattle.jb_step.specs.Alone.{have_ended}
use Rattle.jb_step.specs.rounds.PlanLaws.{ChunksAreBlocks, NextCanRun, RunsInOrder, RunsAll}
use Rattle.jb_step.specs.Tables.{Table, held_in, held_at}
use Rattle.jb_step.specs.rounds.Rounds.{AreRun, CanRun, GoQuietly, after_in, after_round, after_rounds, breaks_in, has_partition, is_commit, tasks_in}
use Rattle.jb_step.specs.preparing.Setup.{Setup, row_now, counts_now}
use Rattle.jb_step.specs.inside.LowerLaws.{ChunkLaws}
use Rattle.jb_step.proofs.run.Adding.{quiet-parts}
use Rattle.jb_step.proofs.table.Apart.{IsWaiting, wait-in}
use Rattle.jb_step.proofs.table.Filters.{all-so, all-true, kept-so, so-kept, true-all}
use Rattle.jb_step.proofs.table.Held.{HasItsTask, at-round, member, named, rest-of, some-is}
use Rattle.jb_step.proofs.table.Leftover.{IsIn, are-in}
use Rattle.jb_step.proofs.table.Rows.{rows-are, rows_in}
use Rattle.jb_step.proofs.plans.ChunkNumbers.{chunk-in, first-is, has-left, one_if, runs_of}
use Rattle.jb_step.proofs.plans.Staying.{steady-held, steady-rounds}
use Rattle.jb_step.proofs.plans.Steady.{IsSteady, IsSteadyIn, IsSteadyTable, due, due-next, due-number, due-waiting, due-waits, listing, next-list, waits, row_waits}

-- THE CHUNKS OF ONE PARTITION

-- those that it has left
abbrev due_in : ℕ → Table → List Range
due_in p table = option_map_or due (held_at table p) []

length-counts : (c : ℕ) (ts : List TaskState) (rows : List Row) (k : ℕ) → length (remaining c (map (λ n. row_now ts n.0 n.1) (enumerate_from k rows))) ≡ length rows
length-counts c ts [] k = refl
length-counts c ts (row ∷ rows) k = ap suc (length-counts c ts rows (k + 1))

pub number-of-counts : (s : Setup) (table : Table) → length (counts_now s table) ≡ length s.rows
number-of-counts s table = length-counts s.item_count (held_in table) s.rows 0

-- their number
none-of : (c : ℕ) (row : Row) (st : RowState) → is_waiting st ≡ false → remaining_of c row st ≡ 0
none-of c row state.Waiting e = absurd (cc e)
none-of c row (state.Running lane) e = refl
none-of c row state.Finished e = refl
none-of c row state.Failed e = refl

count-in : (s : Setup) (rows : List Row) (table : Table) → Pairwise HasItsTask rows table → AllByRecursion (IsSteadyIn s) (held_in table) → (p : ℕ) → p < length rows → slice_index (remaining s.item_count (rows_in rows table)) p ≡ length (due_in p table)
count-in s [] table h steady p lt = absurd (omega (arith, lt))
count-in s (row ∷ rows) [] h steady p lt = absurd h
count-in s (row ∷ rows) (None ∷ table) h steady zero lt = none-of s.item_count row row.state (rest-of (row ∷ rows) (None ∷ table) h zero row refl refl)
count-in s (row ∷ rows) (Some t ∷ table) h steady zero lt = ap (λ c. remaining_of c t.row t.row.state) (sym steady.0.1) ∙ sym (due-number t)
count-in s (row ∷ rows) (None ∷ table) h steady (suc p) lt = count-in s rows table h.1 steady p (omega (arith, lt))
count-in s (row ∷ rows) (Some t ∷ table) h steady (suc p) lt = count-in s rows table h.1 steady.1 p (omega (arith, lt))

counted : (s : Setup) (table : Table) → IsSteadyTable s table → (p : ℕ) → p < length s.rows → slice_index (counts_now s table) p ≡ length (due_in p table)
counted s table h p lt = ap (λ rows. slice_index (remaining s.item_count rows) p) (rows-are s.rows table h.placed) ∙ count-in s s.rows table h.unfinished h.tasks p lt

-- a partition that has chunks left has a task, and it waits
pub record IsDue (table : Table) (p : ℕ) : Type 0 where
  pub t : TaskState
  pub stands : held_at table p ≡ Some t
  pub steady : IsSteady t
  pub waiting : IsWaiting t
  pub chunks : due_in p table ≡ listing t

is-due : (s : Setup) (table : Table) → IsSteadyTable s table → (p : ℕ) → 1 ≤ length (due_in p table) → IsDue table p
is-due s table h p some = by (held_at table p) refl
  where
    by : (o : Option TaskState) → held_at table p ≡ o → IsDue table p
    by None e = let none = ap (λ (o : Option TaskState). length (option_map_or due o [])) e in absurd (omega (arith, some, none))
    by (Some t) e =
        let is : due_in p table ≡ due t = ap (λ (o : Option TaskState). option_map_or due o []) e in
        let waiting = due-waits t (subst (λ (xs : List Range). 1 ≤ length xs) is some) in
        record { t = t; stands = e; steady = (member (IsSteadyIn s) table p t h.tasks e).0; waiting = waiting; chunks = is ∙ due-waiting t waiting }

-- QUIET ROUNDS

-- the task waits, and its attempt is a commit
abbrev GoesOn : TaskState → Type 0
GoesOn t = IsWaiting t × (is_commit (attempt_of t).outcome ≡ true)

goes-on : (ts : List TaskState) → list_all row_waits ts ≡ true → breaks_in (map attempt_of ts) ≡ false → AllByRecursion GoesOn ts
goes-on [] w q = tt
goes-on (t ∷ ts) w q =
    let one = and_parts (row_waits t) (list_all row_waits ts) w in
    let two = or_parts (not (is_commit (attempt_of t).outcome)) (breaks_in (map attempt_of ts)) q in
    ((waits t.row.state one.0, not-false (is_commit (attempt_of t).outcome) two.0), goes-on ts one.1 two.1)

due-after : ChunkLaws → (b : Bool) (t : TaskState) → IsSteady t → (b ≡ true → GoesOn t) → due (cond b (attempt_of t).task t) ≡ drop (one_if b) (due t)
due-after law true t st on = due-next law t st (on refl).0 (on refl).1 ∙ ap (drop 1) (sym (due-waiting t (on refl).0))
due-after law false t st on = refl

-- each round that has the partition leaves it with one chunk less
due-round : ChunkLaws → (s : Setup) (p : ℕ) (set : List Pair) (table : Table) → IsSteadyTable s table → AllByRecursion GoesOn (tasks_in set table)
    → due_in p (after_round set table) ≡ drop (one_if (has_partition set p)) (due_in p table)
due-round law s p set table h on = ap (λ (o : Option TaskState). option_map_or due o []) (at-round set table p) ∙ by (held_at table p) refl
  where
    has : TaskState → Bool
    has t = has_partition set t.partition

    by : (o : Option TaskState) → held_at table p ≡ o → option_map_or due (option_map (after_in set) o) [] ≡ drop (one_if (has_partition set p)) (option_map_or due o [])
    by None e = sym (drop-nil (one_if (has_partition set p)))
    by (Some t) e =
        due-after law (has t) t (member (IsSteadyIn s) table p t h.tasks e).0 (member (λ (u : TaskState). has u ≡ true → GoesOn u) table p t (kept-so GoesOn has (held_in table) on) e)
        ∙ ap (λ q. drop (one_if (has_partition set q)) (due t)) (named table p t h.placed e)

due-rounds : ChunkLaws → (s : Setup) (p : ℕ) (rounds : List (List Pair)) (table : Table) → IsSteadyTable s table → AreRun rounds table → GoQuietly rounds table → due_in p (after_rounds rounds table) ≡ drop (runs_of p rounds) (due_in p table)
due-rounds law s p [] table h run quiet = refl
due-rounds law s p (set ∷ later) table h run quiet =
    let parts = quiet-parts set later table quiet in
    due-rounds law s p later (after_round set table) (steady-rounds law s (set ∷ []) table h ((wait-in (set ∷ later) table run).0, tt)) run.2 parts.1
    ∙ ap (drop (runs_of p later)) (due-round law s p set table h (goes-on (tasks_in set table) run.0.waiting parts.0))
    ∙ drop-drop (runs_of p later) (one_if (has_partition set p)) (due_in p table)

-- THE NEXT ROUND

get-dropped : (xs : List Range) (j : ℕ) → slice_get xs j ≡ slice_get (drop j xs) 0
get-dropped [] zero = refl
get-dropped [] (suc j) = refl
get-dropped (x ∷ xs) zero = refl
get-dropped (x ∷ xs) (suc j) = get-dropped xs j

ended-due : (p : ℕ) (table : Table) → have_ended (held_in table) ≡ true → due_in p table ≡ []
ended-due p table e = by (held_at table p) refl
  where
    none : (t : TaskState) (st : RowState) → has_ended st ≡ true → cond (is_waiting st) (listing t) [] ≡ []
    none t state.Waiting e = absurd (cc e)
    none t (state.Running lane) e = refl
    none t state.Finished e = refl
    none t state.Failed e = refl

    by : (o : Option TaskState) → held_at table p ≡ o → option_map_or due o [] ≡ []
    by None is = refl
    by (Some t) is = none t t.row.state (member (λ (u : TaskState). has_ended u.row.state ≡ true) table p t (all-true (λ (u : TaskState). has_ended u.row.state) (held_in table) e) is)

-- where the task of each partition of the set waits, all of the set's tasks do
members-wait : (s : Setup) (set : List Pair) (table : Table) → IsSteadyTable s table → ((p : ℕ) (t : TaskState) → has_partition set p ≡ true → held_at table p ≡ Some t → IsWaiting t) → list_all row_waits (tasks_in set table) ≡ true
members-wait s set table h each =
    true-all row_waits (tasks_in set table)
    (so-kept (λ (t : TaskState). row_waits t ≡ true) (λ (t : TaskState). has_partition set t.partition) (held_in table)
    (all-so (IsIn s.rows table) (λ (t : TaskState). has_partition set t.partition ≡ true → row_waits t ≡ true) (λ t is has. ap is_waiting (each t.partition t has is.stands)) (held_in table) (are-in s.rows table h.placed h.unfinished)))

-- the partition's task before the rounds, and now
pub record IsLeftTo (before after : Table) (p : ℕ) : Type 0 where
  pub t : TaskState
  pub u : TaskState
  pub stood : held_at before p ≡ Some t
  pub stands : held_at after p ≡ Some u

-- the chunk of the next round is the first one that the partition has left
pub record IsNextChunk (before after : Table) (p j : ℕ) : Type 0 where
  pub has : IsLeftTo before after p
  pub waiting : IsWaiting has.u
  pub block : slice_get (listing has.t) j ≡ Some (block_of has.u)

module _ (law : ChunkLaws) (s : Setup) (before : Table) (rounds : List (List Pair)) (table : IsSteadyTable s before) (run : AreRun rounds before) (quiet : GoQuietly rounds before) where
  abbrev after : Table
  after = after_rounds rounds before

  fallen : (p : ℕ) → due_in p after ≡ drop (runs_of p rounds) (due_in p before)
  fallen p = due-rounds law s p rounds before table run quiet

  table-now : IsSteadyTable s after
  table-now = steady-rounds law s rounds before table (wait-in rounds before run)

  -- the partition has as many chunks less as rounds had it
  counts : (p : ℕ) → p < length s.rows → slice_index (counts_now s after) p ≡ slice_index (counts_now s before) p - runs_of p rounds
  counts p lt = counted s after table-now p lt ∙ ap length (fallen p) ∙ length-drop (runs_of p rounds) (due_in p before) ∙ ap (λ n. n - runs_of p rounds) (sym (counted s before table p lt))

  block-at : (p j : ℕ) (was : IsDue before p) (is : IsDue after p) → j ≡ runs_of p rounds → slice_get (listing was.t) j ≡ Some (block_of is.t)
  block-at p j was is number =
      ap (λ xs. slice_get xs j) (sym was.chunks)
      ∙ get-dropped (due_in p before) j
      ∙ ap (λ m. slice_get (drop m (due_in p before)) 0) number
      ∙ ap (λ xs. slice_get xs 0) (sym (fallen p) ∙ is.chunks ∙ next-list law is.t is.steady is.waiting)

  module _ (set : List Pair) (left : List (List Pair)) (lawful : IsLawful (counts_now s before) s.threads (rounds ++ set ∷ left)) where
    known : (p j : ℕ) → Contains set (p, j) → (p < length (counts_now s before)) × (j < slice_index (counts_now s before) p)
    known p j chunk =
        let at : get_or (rounds ++ set ∷ left) (length rounds) [] ≡ set = get_or_at rounds set left [] (length rounds) refl in
        lawful.known (length rounds) p j (omega (arith, length-append rounds (set ∷ left)), subst (λ (x : List Pair). Contains x (p, j)) (sym at) chunk)

    within : (p j : ℕ) → Contains set (p, j) → p < length s.rows
    within p j chunk = let in_counts = (known p j chunk).0 in omega (arith, in_counts, number-of-counts s before)

    number : (p j : ℕ) → Contains set (p, j) → j ≡ runs_of p rounds
    number p j chunk = first-is p (runs_of p rounds) (slice_index (counts_now s before) p) set left (has-left (counts_now s before) s.threads rounds (set ∷ left) lawful p (known p j chunk).0) j chunk

    in-order : (p j : ℕ) → Contains set (p, j) → slice_index (counts_now s after) p + j ≡ slice_index (counts_now s before) p
    in-order p j chunk =
        let few = (known p j chunk).1 in
        let is = number p j chunk in
        let now = counts p (within p j chunk) in
        omega (arith, few, is, now)

    pub next-chunk : (p j : ℕ) → Contains set (p, j) → IsNextChunk before after p j
    next-chunk p j chunk =
        let few = (known p j chunk).1 in
        let all = in-order p j chunk in
        let many = counted s before table p (within p j chunk) in
        let more = counted s after table-now p (within p j chunk) in
        let was = is-due s before table p (omega (arith, few, many)) in
        let is = is-due s after table-now p (omega (arith, few, all, more)) in
        record {
          has = record { t = was.t; u = is.t; stood = was.stands; stands = is.stands };
          waiting = is.waiting;
          block = block-at p j was is (number p j chunk);
        }

    pub block-next : (p j : ℕ) (next : IsNextChunk before after p j) → slice_get (listing next.has.t) j ≡ Some (block_of next.has.u)
    block-next p j next = next.block

    pub next-can-run : CanRun set after
    next-can-run = record {
      tasks = list_all-from_AllPass (λ (x : Pair). is_some (held_at after x.0)) set (λ k d lt. let x = slice_index_or set k d in ap is_some (next-chunk x.0 x.1 (All-contains_itself set k d lt)).has.stands);
      waiting = members-wait s set after table-now (λ p t has is.
          let chunk = chunk-in set p has in
          let next = next-chunk p chunk.0 chunk.1 in
          subst IsWaiting (some-is next.has.u t (sym next.has.stands ∙ is)) next.waiting);
    }

  pub all-chunks : IsLawful (counts_now s before) s.threads rounds → (p : ℕ) → p < length s.rows → slice_index (counts_now s after) p ≡ 0
  all-chunks lawful p lt =
      let whole = subst (λ (sets : List (List Pair)). IsLawful (counts_now s before) s.threads sets) (sym (append-nil rounds)) lawful in
      let left = has-left (counts_now s before) s.threads rounds [] whole p (omega (arith, lt, number-of-counts s before)) in
      let now = counts p lt in
      elim (cases_lt (runs_of p rounds) (slice_index (counts_now s before) p)) [
        | inl few ↦ (let none = (left.somewhere (runs_of p rounds) (omega arith) few).1.0 in absurd (omega (arith, none)))
        | inr all ↦ omega (arith, all, now)
      ]

  -- where no partition waits, each was in as many rounds as it had chunks
  pub runs-from-ended : have_ended (held_in after) ≡ true → (p : ℕ) → p < length s.rows → slice_index (counts_now s before) p ≤ runs_of p rounds
  runs-from-ended ended p lt =
      let none = counted s after table-now p lt ∙ ap length (ended-due p after ended) in
      let now = counts p lt in
      omega (arith, none, now)

-- THE LAWS

pub next_can_run : ChunkLaws → NextCanRun
next_can_run law s before rounds set left h = next-can-run law s before rounds (steady-held law s before h.held) h.run h.quiet set left h.lawful

pub runs_in_order : ChunkLaws → RunsInOrder
runs_in_order law s before rounds set left h = in-order law s before rounds (steady-held law s before h.held) h.run h.quiet set left h.lawful

pub chunks_are_blocks : ChunkLaws → ChunksAreBlocks
chunks_are_blocks law s before rounds set left h p j chunk t u here there =
    let next = next-chunk law s before rounds (steady-held law s before h.held) h.run h.quiet set left h.lawful p j chunk in
    let was = some-is next.has.t t (sym next.has.stood ∙ here) in
    let is = some-is next.has.u u (sym next.has.stands ∙ there) in
    ap (λ v. slice_get (listing v) j) (sym was) ∙ next.block ∙ ap (λ v. Some (block_of v)) is

pub runs_all : ChunkLaws → RunsAll
runs_all law s before rounds h =
    all-chunks law s before rounds (steady-held law s before h.held) h.run h.quiet (subst (λ (sets : List (List Pair)). IsLawful (counts_now s before) s.threads sets) (append-nil rounds) h.lawful)
