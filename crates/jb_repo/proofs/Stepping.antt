-- A step keeps the row rules.
use Rattle.std.proofs.Common.{◌≡◌, ◌≢◌, ℕ, ◌+◌, ◌-◌, ◌<◌, ◌≤◌, true, false, refl, sym, ap, ◌∙◌, subst, arith}
use Rattle.std.proofs.lemmas.Bool.{and_parts, eqb-true}
use Rattle.jb_rules.specs.declared.counts.Counts.{Counts}
use Rattle.jb_rules.specs.declared.row.Row.{Row}
use Rattle.jb_rules.specs.declared.row.RowState.TheVariants.{Running, Finished}
use Rattle.jb_base.specs.Limits.{max_in_place}
use Rattle.jb_rules.specs.Counts.{IsDelta}
use Rattle.jb_rules.specs.Rows.{row_block, repeated_row, committed_row, rolled_row}
use Rattle.jb_rules.specs.Sound.{IsSoundRow}
use Rattle.jb_rules.specs.States.{has_ended}
use Rattle.jb_repo.specs.declared.deltas.Delta.{Delta}
use Rattle.jb_repo.specs.declared.events.Event.{Event}
use Rattle.jb_repo.specs.Deltas.{counts_in}
use Rattle.jb_repo.specs.declared.events.Event.TheVariants.{Plan, Begin, Commit, Roll, Fail, Drop, Round, Stop}
use Rattle.jb_repo.specs.Table.{is_commit_of}
use Rattle.jb_repo.specs.inside.LowerLaws.{LowerRowLaws}
use Rattle.jb_repo.specs.Laws.{next_row}
use Rattle.jb_repo.specs.inside.Steps.{CanStep}
use Rattle.jb_repo.proofs.RowLemmas.{step}

-- a true conjunction has true parts
-- a row that isn't finished has a record left
pub before-end : (row : Row) → IsSoundRow row → row.state ≢ Finished → row.at < row.hi
before-end row s going =
    let apart : row.at ≢ row.hi = λ e. going (s.finished.1 e) in
    omega (arith, s.placed.at_to, apart)

pub waiting-before-end : (row : Row) → IsSoundRow row → has_ended row.state ≡ false → row.at < row.hi
waiting-before-end row s unended =
    before-end row s (λ e. let h = ap has_ended e in cc)

pub running-before-end : (row : Row) (lane : ℕ) → IsSoundRow row → row.state ≡ Running lane → row.at < row.hi
running-before-end row lane s runs = before-end row s (λ e. cc)

-- what a good commit says
pub record IsCommitOf (c : ℕ) (row : Row) (d : Counts) (w : ℕ) : Type 0 where
  pub delta : IsDelta ((row_block c row).hi - row.at) d
  pub written : w ≡ row.written + d.write

pub commit_facts : (laws : LowerRowLaws) (c : ℕ) (row : Row) (d : Counts) (w : ℕ) → is_commit_of c row d w ≡ true → IsCommitOf c row d w
commit_facts laws c row d w h =
    let p = and_parts _ _ h in
    record { delta = (laws.deltas ((row_block c row).hi - row.at) d).0 p.0; written = eqb-true _ _ p.1 }

module _ (laws : LowerRowLaws) (c : ℕ) (row : Row) (some : 1 ≤ c) (s : IsSoundRow row) (lt : row.at < row.hi) where
  block_some : row.at < (row_block c row).hi
  block_some = (laws.chunks.next row.at row.redo row.hi c lt s.placed.redo_to some).some

  block_within : (row_block c row).hi ≤ row.hi
  block_within = (laws.chunks.next row.at row.redo row.hi c lt s.placed.redo_to some).within

  -- a commit passes the row's next block
  pub passed-block : (d : Counts) (w : ℕ) → IsCommitOf c row d w → row.at + (d.read + d.read_skip) ≡ (row_block c row).hi
  passed-block d w k =
      let more = block_some in
      let passed = k.delta.passed in
      omega (arith, more, passed)

  -- and leaves the row that is committed
  pub commit-is : (l : ℕ) (d : Delta) (w a : ℕ) → IsCommitOf c row (counts_in d) w → step c row (Commit l d w a) ≡ committed_row (repeated_row row a) (row_block c row).hi (counts_in d)
  commit-is l d w a k =
      ap (λ (at : ℕ). record (committed_row (repeated_row row a) at (counts_in d)) { written = w }) (passed-block (counts_in d) w k)
      ∙ ap (λ (n : ℕ). record (committed_row (repeated_row row a) (row_block c row).hi (counts_in d)) { written = n }) k.written

  sound-commit : (l : ℕ) (d : Delta) (w a : ℕ) → row.in_place + a ≤ max_in_place → IsCommitOf c row (counts_in d) w → IsSoundRow (step c row (Commit l d w a))
  sound-commit l d w a few k =
      subst IsSoundRow (sym (commit-is l d w a k)) (laws.rows.committed (repeated_row row a) (row_block c row).hi (counts_in d) (laws.rows.repeated row a s few) block_some block_within k.delta)

pub sound-step : (laws : LowerRowLaws) (c : ℕ) (row : Row) → 1 ≤ c → (e : Event) → CanStep c row e → IsSoundRow (step c row e)
sound-step laws c row some (Plan n k) can = can.sound
sound-step laws c row some (Begin l p) can = laws.rows.begun row l can.sound can.unfinished
sound-step laws c row some (Commit l d w a) can = sound-commit laws c row some can.sound can.unfinished l d w a can.few_repeats (commit_facts laws c row (counts_in d) w can.commit)
sound-step laws c row some (Roll l k a) can =
    let repeated = laws.rows.repeated row a can.sound can.few_repeats in
    let rolled = laws.rows.rolled (repeated_row row a) (row_block c row).hi repeated (block_within laws c row some can.sound can.unfinished) (can.below_limit tt) in
    laws.rows.dropped (rolled_row (repeated_row row a) (row_block c row).hi) rolled can.unfinished
sound-step laws c row some (Fail l k a) can = laws.rows.failed (repeated_row row a) (laws.rows.repeated row a can.sound can.few_repeats) can.unfinished (can.below_limit tt)
sound-step laws c row some (Drop l) can = laws.rows.dropped row can.sound can.unfinished
sound-step laws c row some Round can = can.sound
sound-step laws c row some Stop can = can.sound

-- where the row can take the step, the event does to it what it says of a row's life
pub next-is : (laws : LowerRowLaws) (c : ℕ) (row : Row) (e : Event) → 1 ≤ c → CanStep c row e → step c row e ≡ next_row c row e
next-is laws c row (Plan n k) some can = refl
next-is laws c row (Begin l p) some can = refl
next-is laws c row (Commit l d w a) some can =
    commit-is laws c row some can.sound can.unfinished l d w a (commit_facts laws c row (counts_in d) w can.commit)
next-is laws c row (Roll l k a) some can = refl
next-is laws c row (Fail l k a) some can = refl
next-is laws c row (Drop l) some can = refl
next-is laws c row Round some can = refl
next-is laws c row Stop some can = refl
