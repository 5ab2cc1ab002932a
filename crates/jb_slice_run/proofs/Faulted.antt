-- The faults of a partition between two checkpoints.
use Rattle.std.{proofs.Common.{◌≡◌, ℕ, ◌+◌, ◌-◌, ◌≤◌, ◌<◌, ◌++◌, List, [], length, Option, None, Some, option_map, ap, sym, ◌∙◌, arith}, proofs.lemmas.List.{nil_from_length, length-append, map-append}, specs.Prelude.{MatchOption, option_to_list}, specs.List.{cons_option}}
use Rattle.jb_base.specs.Rules.{RulesRecord}
use Rattle.jb_ready.specs.declared.notes.Note.{Note}
use Rattle.jb_rules.specs.declared.row.Row.{Row}
use Rattle.jb_records.specs.{Artifacts.{record_of}, Following.{FollowsRules, IsStopOf}, FollowingLaws.{StoppedRowsDont}, Function.{steady}, Skips.{skip_by, skips_between}}
use Rattle.jb_slices.specs.Function.{Fault, Function, refusal_of}
use Rattle.jb_slice_run.{specs.NewOutput.{CanGrow, IsStopOfPartition, from_of, skipped_before}, specs.Rows.{fault_at, faults_at}, proofs.RowsSoFar.{skips-join}, proofs.RowsEnded.{stop-named}}

-- ---- the skips of one item more

one-option : (o : Option Note) → cons_option o [] ≡ option_to_list o
one-option o = grind arith

module _ (f : Function) (first : ℕ) (items : List (List ℕ)) where
  pub faults-more : (lo i : ℕ) (faults now : List Fault) → faults ≡ faults_at first (skips_between (steady f) items lo (lo + i))
      → now ≡ faults ++ faults_at first (option_to_list (skip_by (lo + i) (refusal_of f (record_of 0 items (lo + i))))) → now ≡ faults_at first (skips_between (steady f) items lo (lo + (i + 1)))
  faults-more lo i faults now so more =
      let skip = skip_by (lo + i) (refusal_of f (record_of 0 items (lo + i))) in
      let put = sym (one-option skip) in
      let one : lo + (i + 1) - (lo + i) ≡ 1 = omega arith in
      more ∙ (λ j. so j ++ faults_at first (put j)) ∙ sym (map-append (fault_at first) (skips_between (steady f) items lo (lo + i)) (cons_option skip []))
      ∙ ap (faults_at first) (rw one at (skips-join f items lo (lo + i) (lo + (i + 1)) (omega arith) (omega arith)))

  -- all of them
  pub faults-all : (lo hi i : ℕ) (faults : List Fault) → i ≡ hi - lo → faults ≡ faults_at first (skips_between (steady f) items lo (lo + i)) → faults ≡ faults_at first (skips_between (steady f) items lo hi)
  faults-all lo hi i faults all so = let same : lo + i - lo ≡ hi - lo = omega (arith, all) in rw same at so

  -- ---- since the checkpoint before

  -- none, if as many are counted as before
  pub none-new : (rules : RulesRecord) (b : Option Row) (row : Row) → CanGrow f rules items b row → row.counts.process_skip ≡ skipped_before b → [] ≡ faults_at first (skips_between (steady f) items (from_of b row) row.at)
  none-new rules None row can same = sym (ap (faults_at first) (nil_from_length (skips_between (steady f) items row.lo row.at) (sym can.follows.counted ∙ same)))
  none-new rules (Some before) row can same =
      let old = skips_between (steady f) items row.lo before.at in
      let new = skips_between (steady f) items before.at row.at in
      let joined = skips-join f items row.lo before.at row.at (omega (arith, can.since.lo, can.since.from)) can.since.at in
      let then : before.counts.process_skip ≡ length old = rw can.since.lo can.since.counted in
      let none : length new ≡ 0 = omega (arith, ap length joined, length-append old new, can.follows.counted, then, same) in
      sym (ap (faults_at first) (nil_from_length new none))

  -- ---- the fault by which it failed

  pub stop-agrees : StoppedRowsDont → (rules : RulesRecord) (row : Row) (note : Option Note) (fault : Option Fault) → FollowsRules (steady f) rules items row → row.hi ≤ length items
      → IsStopOf (steady f) rules items row note → MatchOption note (fault ≡ None) (λ n. n.number < length items → fault ≡ option_map (fault_at first) note) → IsStopOfPartition f rules first items row fault
  stop-agrees law rules row note fault follows within of agrees = record { stop = note; stop_is = grind arith; named = stop-named law f rules items row note follows of }
