-- The test of what a chunk adds to the counts.
use Rattle.std.proofs.Common.{◌≡◌, ℕ, ◌+◌, ◌<◌, true, false, ◌&&◌, ◌||◌, ◌⊎◌, inl, inr, nat_lt, refl, eq-eqb, arith}
use Rattle.std.specs.Prelude.{◌==◌}
use Rattle.std.proofs.lemmas.Bool.{lt-ltb, ltb-true, and_parts, or_cases, eqb-true}
use Rattle.std.proofs.lemmas.Bool.Decides.{nat_tests}
use Rattle.jb_rules.specs.declared.counts.Counts.{Counts}
use Rattle.jb_rules.specs.Counts.{IsDelta, is_delta}
use Rattle.jb_rules.specs.Laws.{DeltasAreTested}

-- how the items of a chunk were settled
abbrev Settled : Counts → Type 0
Settled d = (d.write_skip ≡ 0) × (d.process_skip + d.filter + d.write ≡ d.read) ⊎ (d.write_skip ≡ 1) × (d.write ≡ 0) × (d.process_skip + d.filter < d.read)

settled_of : (d : Counts) → ((d.write_skip == 0 && d.process_skip + d.filter + d.write == d.read) ≡ true) ⊎ ((d.write_skip == 1 && d.write == 0 && nat_lt (d.process_skip + d.filter) d.read) ≡ true) → Settled d
settled_of d (inl h) = let p = and_parts _ _ h in inl (eqb-true _ _ p.0, eqb-true _ _ p.1)
settled_of d (inr h) =
    let p = and_parts _ _ h in
    let q = and_parts _ _ p.0 in
    inr (eqb-true _ _ q.0, eqb-true _ _ q.1, ltb-true _ _ p.1)

delta_of : (records : ℕ) (d : Counts) → is_delta records d ≡ true → IsDelta records d
delta_of records d h =
    let p = and_parts _ _ h in
    let q = and_parts _ _ p.0 in
    let r = and_parts _ _ q.0 in
    record { passed = eqb-true _ _ r.0; commit = eqb-true _ _ r.1; rollback = eqb-true _ _ q.1; results = settled_of d (or_cases _ _ p.1) }

settled_test : (d : Counts) → Settled d → ((d.write_skip == 0 && d.process_skip + d.filter + d.write == d.read) || (d.write_skip == 1 && d.write == 0 && nat_lt (d.process_skip + d.filter) d.read)) ≡ true
settled_test d (inl (none, all)) = rw (eq-eqb d.write_skip 0 none, eq-eqb (d.process_skip + d.filter + d.write) d.read all) refl
settled_test d (inr (one, none, some)) =
    let skipped : (d.write_skip == 0) ≡ false = grind (arith, nat_tests) in
    rw (skipped, eq-eqb d.write_skip 1 one, eq-eqb d.write 0 none, lt-ltb (d.process_skip + d.filter) d.read some) refl

delta_test : (records : ℕ) (d : Counts) → IsDelta records d → is_delta records d ≡ true
delta_test records d h =
    rw (eq-eqb (d.read + d.read_skip) records h.passed, eq-eqb d.commit 1 h.commit, eq-eqb d.rollback 0 h.rollback) (settled_test d h.results)

pub deltas_are_tested : DeltasAreTested
deltas_are_tested records d = (delta_of records d, delta_test records d)
