-- Each step of a row's life keeps the row rules.
use Rattle.std.proofs.Common.{◌≡◌, ℕ, ◌+◌, ◌-◌, ◌<◌, ◌≤◌, Bool, true, false, cond, refl, eq-eqb, arith}
use Rattle.std.specs.Prelude.{max, ◌==◌, ◌↔◌}
use Rattle.std.proofs.lemmas.Bool.Decides.{nat_tests}
use Rattle.jb_base.specs.declared.range.Range.{Range}
use Rattle.jb_base.specs.Limits.{max_records, max_rollbacks, max_in_place}
use Rattle.jb_rules.specs.declared.counts.Counts.{Counts}
use Rattle.jb_rules.specs.declared.row.Row.{Row}
use Rattle.jb_rules.specs.declared.row.RowState.{RowState}
use Rattle.jb_rules.specs.declared.row.RowState.TheVariants.{Waiting, Running, Finished, Failed}
use Rattle.jb_rules.specs.Counts.{IsDelta}
use Rattle.jb_rules.specs.Laws.{RowsStaySound}
use Rattle.jb_rules.specs.Rows.{state_at, fresh_row, repeated_row, committed_row}
use Rattle.jb_rules.specs.Sound.{IsSoundRow}

finished_by : (same : Bool) (at hi : ℕ) → (at == hi) ≡ same → (cond same Finished Waiting ≡ Finished) ↔ (at ≡ hi)
finished_by true at hi e = (λ _. grind (arith, nat_tests), λ _. refl)
finished_by false at hi e = (λ h. absurd cc, λ is. (let f = eq-eqb at hi is in absurd cc))

-- the state of a row that no lane runs says whether it is at its end
finished-at : (at hi : ℕ) → (state_at at hi ≡ Finished) ↔ (at ≡ hi)
finished-at at hi = finished_by (at == hi) at hi refl

-- a row whose chunk was perhaps rolled back, in a state that says whether it is at its end
changed : (row : Row) (redo retries rollback : ℕ) (state : RowState) → IsSoundRow row → row.lo ≤ redo → redo ≤ row.hi → row.retries ≤ retries → retries ≤ rollback + row.in_place → rollback ≤ max_rollbacks → (state ≡ Finished) ↔ (row.at ≡ row.hi)
    → IsSoundRow (record row { redo = redo; retries = retries; counts = record row.counts { rollback = rollback }; state = state })
changed row redo retries rollback state s from to more tried few finished = record {
  placed = record { at_from = s.placed.at_from; at_to = s.placed.at_to; redo_from = from; redo_to = to; records = s.placed.records };
  counted = record {
    passed = s.counted.passed;
    written = s.counted.written;
    settled = s.counted.settled;
    exact = s.counted.exact;
    write_skips = s.counted.write_skips;
    commits = s.counted.commits;
    committed = s.counted.committed;
    repeated = omega (arith, s.counted.repeated, more);
    retried = tried;
    rolled = few;
    few_repeats = s.counted.few_repeats;
  };
  finished = finished;
}

-- before the end of a row no state is the finished one
before_end : (at hi : ℕ) (state : RowState) → at < hi → (state ≡ Finished → ⊥) → (state ≡ Finished) ↔ (at ≡ hi)
before_end at hi state lt going = (λ is. absurd (going is), λ is. absurd (omega (arith, is, lt)))

-- the row in another state
in_state : (row : Row) (state : RowState) → IsSoundRow row → row.at < row.hi → (state ≡ Finished → ⊥) → IsSoundRow (record row { state = state })
in_state row state s lt going =
    changed row row.redo row.retries row.counts.rollback state s s.placed.redo_from s.placed.redo_to (omega arith) s.counted.retried s.counted.rolled (before_end row.at row.hi state lt going)

sound_fresh : (r : Range) → r.lo ≤ r.hi → r.hi ≤ max_records → IsSoundRow (fresh_row r)
sound_fresh r le few = record {
  placed = record { at_from = omega arith; at_to = le; redo_from = omega arith; redo_to = le; records = few };
  counted = record {
    passed = omega arith;
    written = refl;
    settled = omega arith;
    exact = λ _. omega arith;
    write_skips = omega arith;
    commits = omega arith;
    committed = λ lt. absurd (omega (arith, lt));
    repeated = omega arith;
    retried = omega arith;
    rolled = omega arith;
    few_repeats = omega arith;
  };
  finished = finished-at r.lo r.hi;
}

sound_committed : (row : Row) (at : ℕ) (d : Counts) → IsSoundRow row → row.at < at → at ≤ row.hi → IsDelta (at - row.at) d → IsSoundRow (committed_row row at d)
sound_committed row at d s more to k =
    let p = s.placed in
    let c = s.counted in
    let results = k.results in
    let passed = k.passed in
    record {
      placed = record { at_from = omega (arith, p.at_from, more); at_to = to; redo_from = p.redo_from; redo_to = p.redo_to; records = p.records };
      counted = record {
        passed = omega (arith, c.passed, p.at_from, more, passed);
        written = omega (arith, c.written);
        settled = omega (arith, c.settled, results);
        exact = λ none. omega (arith, c.exact, results, none);
        write_skips = omega (arith, c.write_skips, k.commit, results);
        commits = omega (arith, c.commits, k.commit, p.at_from, more);
        committed = λ _. omega (arith, k.commit);
        repeated = c.repeated;
        retried = omega (arith, c.retried, k.rollback);
        rolled = omega (arith, c.rolled, k.rollback);
        few_repeats = c.few_repeats;
      };
      finished = finished-at at row.hi;
    }

sound_repeated : (row : Row) (again : ℕ) → IsSoundRow row → row.in_place + again ≤ max_in_place → IsSoundRow (repeated_row row again)
sound_repeated row again s few =
    let c = s.counted in
    record {
      placed = record { at_from = s.placed.at_from; at_to = s.placed.at_to; redo_from = s.placed.redo_from; redo_to = s.placed.redo_to; records = s.placed.records };
      counted = record {
        passed = c.passed;
        written = c.written;
        settled = c.settled;
        exact = c.exact;
        write_skips = c.write_skips;
        commits = c.commits;
        committed = c.committed;
        repeated = omega (arith, c.repeated);
        retried = omega (arith, c.retried);
        rolled = c.rolled;
        few_repeats = few;
      };
      finished = s.finished;
    }

pub rows_stay_sound : RowsStaySound
rows_stay_sound = record {
  fresh = sound_fresh;
  begun = λ row lane s lt. in_state row (Running lane) s lt (λ is. cc);
  repeated = sound_repeated;
  committed = sound_committed;
  rolled = λ row end s to room.
      changed row (max row.redo end) (row.retries + 1) (row.counts.rollback + 1) row.state s (omega (arith, s.placed.redo_from)) (omega (arith, s.placed.redo_to, to)) (omega arith) (omega (arith, s.counted.retried)) (omega (arith, room)) s.finished;
  failed = λ row s lt room.
      changed row row.redo row.retries (row.counts.rollback + 1) Failed s s.placed.redo_from s.placed.redo_to (omega arith) (omega (arith, s.counted.retried)) (omega (arith, room)) (before_end row.at row.hi Failed lt (λ is. cc));
  dropped = λ row s lt. in_state row Waiting s lt (λ is. cc);
}
