-- The test of a row and what it tells.
use Rattle.std.proofs.Common.{◌≡◌, ◌↔◌, ℕ, zero, suc, ◌≤◌, ◌<◌, inl, inr, Bool, true, false, cond, not, ◌||◌, nat_lt, refl, sym, arith}
use Rattle.std.specs.Prelude.{◌==◌, nat_le}
use Rattle.std.proofs.lemmas.Bool.{and_parts, and_from, or_cases, ltb-true, leb-true, leb-false, eqb-true, eq-eqb, le-leb}
use Rattle.std.proofs.lemmas.Bool.Decides.{nat_tests}
use Rattle.jb_rules.specs.declared.row.Row.{Row}
use Rattle.jb_rules.specs.declared.row.RowState.{RowState}
use Rattle.jb_rules.specs.declared.row.RowState.TheVariants.{Waiting, Running, Finished, Failed}
use Rattle.jb_rules.specs.Laws.{RowsAreTested, UnfinishedRowsGoOn}
use Rattle.jb_rules.specs.RowTest.{is_placed, settled, is_counted, is_sound}
use Rattle.jb_rules.specs.Sound.{IsPlaced, IsCounted, IsSoundRow}
use Rattle.jb_rules.specs.States.{is_finished}

placed-from : (r : Row) → is_placed r ≡ true → IsPlaced r
placed-from r e =
    let d = and_parts _ _ e in
    let c = and_parts _ _ d.0 in
    let b = and_parts _ _ c.0 in
    let a = and_parts _ _ b.0 in
    record {
      at_from = leb-true _ _ a.0;
      at_to = leb-true _ _ a.1;
      redo_from = leb-true _ _ b.1;
      redo_to = leb-true _ _ c.1;
      records = leb-true _ _ d.1;
    }

placed-to : (r : Row) → IsPlaced r → is_placed r ≡ true
placed-to r p =
    let a = and_from _ _ (le-leb _ _ p.at_from) (le-leb _ _ p.at_to) in
    let b = and_from _ _ a (le-leb _ _ p.redo_from) in
    let c = and_from _ _ b (le-leb _ _ p.redo_to) in
    and_from _ _ c (le-leb _ _ p.records)

exact-from : (skips : ℕ) (b : Bool) → (nat_lt 0 skips || b) ≡ true → skips ≡ 0 → b ≡ true
exact-from skips b e none =
    elim (or_cases (nat_lt 0 skips) b e) [
      | inl lt ↦ absurd (omega (arith, ltb-true 0 skips lt, none))
      | inr is ↦ is
    ]

exact-to : (skips : ℕ) (b : Bool) → (skips ≡ 0 → b ≡ true) → (nat_lt 0 skips || b) ≡ true
exact-to zero b h = h refl
exact-to (suc n) b h = let some : nat_lt 0 (suc n) ≡ true = grind (arith, nat_tests) in rw some refl

some-from : (at lo commit : ℕ) → (nat_le at lo || nat_le 1 commit) ≡ true → lo < at → 1 ≤ commit
some-from at lo commit e lt =
    elim (or_cases (nat_le at lo) (nat_le 1 commit) e) [
      | inl le ↦ absurd (omega (arith, leb-true at lo le, lt))
      | inr is ↦ leb-true 1 commit is
    ]

some-by : (at lo commit : ℕ) (b : Bool) → nat_le at lo ≡ b → (lo < at → 1 ≤ commit) → (b || nat_le 1 commit) ≡ true
some-by at lo commit true e h = refl
some-by at lo commit false e h = le-leb 1 commit (h (leb-false at lo e))

counted-from : (r : Row) → is_counted r ≡ true → IsCounted r
counted-from r e =
    let n = and_parts _ _ e in
    let m = and_parts _ _ n.0 in
    let k = and_parts _ _ m.0 in
    let h = and_parts _ _ k.0 in
    let g = and_parts _ _ h.0 in
    let f = and_parts _ _ g.0 in
    let d = and_parts _ _ f.0 in
    let c = and_parts _ _ d.0 in
    let b = and_parts _ _ c.0 in
    let a = and_parts _ _ b.0 in
    record {
      passed = eqb-true _ _ a.0;
      written = eqb-true _ _ a.1;
      settled = leb-true _ _ b.1;
      exact = λ none. eqb-true _ _ (exact-from r.counts.write_skip (settled r == r.counts.read) c.1 none);
      write_skips = leb-true _ _ d.1;
      commits = leb-true _ _ f.1;
      committed = some-from r.at r.lo r.counts.commit g.1;
      repeated = leb-true _ _ h.1;
      retried = leb-true _ _ k.1;
      rolled = leb-true _ _ m.1;
      few_repeats = leb-true _ _ n.1;
    }

counted-to : (r : Row) → IsCounted r → is_counted r ≡ true
counted-to r p =
    let a = and_from _ _ (eq-eqb _ _ p.passed) (eq-eqb _ _ p.written) in
    let b = and_from _ _ a (le-leb _ _ p.settled) in
    let c = and_from _ _ b (exact-to r.counts.write_skip (settled r == r.counts.read) (λ none. eq-eqb _ _ (p.exact none))) in
    let d = and_from _ _ c (le-leb _ _ p.write_skips) in
    let f = and_from _ _ d (le-leb _ _ p.commits) in
    let g = and_from _ _ f (some-by r.at r.lo r.counts.commit (nat_le r.at r.lo) refl p.committed) in
    let h = and_from _ _ g (le-leb _ _ p.repeated) in
    let k = and_from _ _ h (le-leb _ _ p.retried) in
    let m = and_from _ _ k (le-leb _ _ p.rolled) in
    and_from _ _ m (le-leb _ _ p.few_repeats)

-- a state that is Finished exactly where b holds
abbrev done_by : RowState → Bool → Bool
done_by s b = cond (is_finished s) b (not b)

done-from : (s : RowState) (b : Bool) → done_by s b ≡ true → (s ≡ Finished) ↔ (b ≡ true)
done-from Waiting true e = absurd cc
done-from Waiting false e = (λ h. absurd cc, λ h. absurd cc)
done-from (Running lane) true e = absurd cc
done-from (Running lane) false e = (λ h. absurd cc, λ h. absurd cc)
done-from Finished b e = (λ h. e, λ h. refl)
done-from Failed true e = absurd cc
done-from Failed false e = (λ h. absurd cc, λ h. absurd cc)

done-to : (s : RowState) (b : Bool) → (s ≡ Finished) ↔ (b ≡ true) → done_by s b ≡ true
done-to Waiting true h = let never : Waiting ≡ Finished = h.1 refl in absurd cc
done-to Waiting false h = refl
done-to (Running lane) true h = let never : Running lane ≡ Finished = h.1 refl in absurd cc
done-to (Running lane) false h = refl
done-to Finished b h = h.0 refl
done-to Failed true h = let never : Failed ≡ Finished = h.1 refl in absurd cc
done-to Failed false h = refl

sound-from : (r : Row) → is_sound r ≡ true → IsSoundRow r
unfolding is_sound
sound-from r e =
    let b = and_parts _ _ e in
    let a = and_parts _ _ b.0 in
    let done = done-from r.state (r.at == r.hi) b.1 in
    record {
      placed = placed-from r a.0;
      counted = counted-from r a.1;
      finished = (λ f. eqb-true _ _ (done.0 f), λ same. done.1 (eq-eqb _ _ same));
    }

sound-to : (r : Row) → IsSoundRow r → is_sound r ≡ true
unfolding is_sound
sound-to r p =
    and_from _ _ (and_from _ _ (placed-to r p.placed) (counted-to r p.counted))
    (done-to r.state (r.at == r.hi) (λ f. eq-eqb _ _ (p.finished.0 f), λ e. p.finished.1 (eqb-true _ _ e)))

pub rows_are_tested : RowsAreTested
rows_are_tested r = (sound-from r, sound-to r)

-- two tests of one fact answer alike
pub same-answer : (a b : Bool) {P : Type 0} → (a ≡ true) ↔ P → (b ≡ true) ↔ P → a ≡ b
same-answer true b p q = sym (q.1 (p.0 refl))
same-answer false true p q = p.1 (q.0 refl)
same-answer false false p q = refl

record_left : (b : Bool) (row : Row) → (row.at == row.hi) ≡ b → IsSoundRow row → (row.state ≡ Finished → ⊥) → row.at < row.hi
record_left true row e s going = absurd (going (s.finished.1 (eqb-true row.at row.hi e)))
record_left false row e s going = let le = s.placed.at_to in grind (arith, nat_tests)

pub unfinished_rows_go_on : UnfinishedRowsGoOn
unfinished_rows_go_on row = record_left (row.at == row.hi) row refl
