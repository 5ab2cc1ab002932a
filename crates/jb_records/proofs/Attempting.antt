-- An attempt of a steady function goes by the rules.
use Rattle.std.proofs.Common.{◌≡◌, ℕ, zero, suc, ◌+◌, ◌-◌, ◌≤◌, ◌<◌, Bool, true, false, not, cond, List, length, Option, None, Some, is_some, refl, ap, sym, subst, ◌∙◌, arith, inl, inr}
use Rattle.std.specs.Prelude.{◌==◌}
use Rattle.std.specs.List.{find, range_with_len}
use Rattle.std.proofs.lemmas.List.{length-append}
use Rattle.std.proofs.Math.Nat.{eq-or-lt_of_le}
use Rattle.jb_artifacts.specs.Faults.{live}
use Rattle.jb_artifacts.specs.Meaning.{ArtifactsMeaning}
use Rattle.jb_artifacts.specs.declared.faults.FaultPlan.TheVariants.{Sound}
use Rattle.jb_base.specs.Rules.{RulesRecord}
use Rattle.jb_base.specs.declared.class.ClassId.{ClassId}
use Rattle.jb_chunk.specs.Attempt.{block_of, end_at, end_by, end_of, ending_by, fault_at, settled_at, skips_at}
use Rattle.jb_chunk.specs.Block.{choice_at, count_of, entry, entry_by, is_skip, settles, settling, skips_before, stops}
use Rattle.jb_chunk.specs.Entries.{fault_in, is_fault}
use Rattle.jb_chunk.specs.TaskState.{TaskState}
use Rattle.jb_chunk.specs.declared.outcome.Outcome.{Outcome}
use Rattle.jb_chunk.specs.declared.outcome.Outcome.TheVariants.{Committed, Rolled, Failed, NoMemory}
use Rattle.jb_chunk.proofs.RecordRepeats.{unfound}
use Rattle.jb_ready.specs.declared.notes.Note.{Note}
use Rattle.jb_rules.specs.Rows.{skips_of}
use Rattle.jb_rules.specs.declared.choice.Choice.{Choice}
use Rattle.jb_rules.specs.declared.choice.Choice.TheVariants.{Skip, Retry, Again, Fail}
use Rattle.jb_rules.specs.declared.counts.Counts.{Counts}
use Rattle.jb_rules.specs.declared.row.Row.{Row}
use Rattle.jb_rules.specs.declared.row.RowState.TheVariants as state
use Rattle.jb_slices.specs.Deciding.{FailsDont, SkipsPass}
use Rattle.jb_slices.specs.Function.{Pass}
use Rattle.jb_records.specs.Artifacts.{IsArtifactsOver, faulted_by, own_records, record_of}
use Rattle.jb_records.specs.Following.{FollowsRules, IsStop, classes_between}
use Rattle.jb_records.specs.Function.{Function, IsSteady, refusal_of, result_of}
use Rattle.jb_records.specs.Runs.{HasResults}
use Rattle.jb_records.specs.Skips.{skip_by, skips_between}
use Rattle.jb_records.proofs.Counting.{block-counted, counted-are, noted, reads-counted, skips-join}
use Rattle.jb_records.proofs.Going.{Commits, HasBlock, all-written, commit-none, entry-is, sound-write, whole_counts}
use Rattle.jb_records.proofs.Joining.{own-record}
use Rattle.jb_records.proofs.Passing.{classes-length, record-fails, records-pass}

-- ---- WHAT IS FOUND

-- the first number at which a test holds is one of these, and it doesn't hold before
record IsFound (p : ℕ → Bool) (lo n k : ℕ) : Type 0 where
  pub from : lo ≤ k
  pub to : k < lo + n
  pub before : (j : ℕ) → lo ≤ j → j < k → p j ≡ false

found-by : (p : ℕ → Bool) (lo n k : ℕ) (b : Bool) (others : Option ℕ) → p lo ≡ b → cond b (Some lo) others ≡ Some k → (others ≡ Some k → IsFound p (lo + 1) n k) → IsFound p lo (suc n) k
found-by p lo n k true others is e later = let same : lo ≡ k = cc in record { from = omega (arith, same); to = omega (arith, same); before = λ j from to. absurd (omega (arith, same, from, to)) }
found-by p lo n k false others is e later =
    let found = later e in
    let above = found.from in
    let below = found.to in
    record {
      from = omega (arith, above);
      to = omega (arith, below);
      before = λ j from to. elim (eq-or-lt_of_le from) [ inl same ↦ subst (λ x. p x ≡ false) same is | inr more ↦ found.before j (omega (arith, more)) to ];
    }

found : (p : ℕ → Bool) (lo n k : ℕ) → find p (range_with_len lo n) ≡ Some k → IsFound p lo n k
found p lo zero k e = absurd cc
found p lo (suc n) k e = found-by p lo n k (p lo) (find p (range_with_len (lo + 1) n)) refl e (found p (lo + 1) n k)

-- ---- A RECORD

-- of a steady function each fault is a refusal
fault-by : (refusal : Option ClassId) (answer : Option (List ℕ)) → fault_in (entry_by None (live (faulted_by refusal Sound)) answer) ≡ refusal
fault-by None answer = refl
fault-by (Some class) answer = refl

fault-steady : (f : Function) (first : ℕ) (records : List (List ℕ)) (rules : RulesRecord) (w : ArtifactsMeaning) (k : ℕ) → IsSteady f → IsArtifactsOver f rules first records w
    → fault_in (entry w k) ≡ refusal_of f (record_of first records k)
fault-steady f first records rules w k steady is =
    let own = record_of first records k in
    ap fault_in (entry-is f first records rules w k is)
    ∙ ap (λ plan. fault_in (entry_by None (live plan) (result_of f own))) (is.steady steady k)
    ∙ fault-by (refusal_of f own) (result_of f own)

skip-is : (c : Choice) → not (is_skip c) ≡ false → c ≡ Skip
skip-is Skip e = refl
skip-is Retry e = absurd cc
skip-is Again e = absurd cc
skip-is Fail e = absurd cc

fail-is : (skipped : Counts) (class other : ClassId) (c : Choice) → end_by skipped class c ≡ Failed other → c ≡ Fail
fail-is skipped class other Skip e = absurd cc
fail-is skipped class other Retry e = absurd cc
fail-is skipped class other Again e = absurd cc
fail-is skipped class other Fail e = refl

-- ---- A CHUNK

module _ (f : Function) (records : List (List ℕ)) (t : TaskState) (steady : IsSteady f) (has : HasResults f records t) (block : HasBlock t) (follows : FollowsRules f t.rules records t.row) where
  abbrev w : ArtifactsMeaning
  w = t.artifacts

  abbrev hi : ℕ
  hi = (block_of t).hi

  fault-at : (k : ℕ) → t.row.at ≤ k → k < hi → fault_in (entry w k) ≡ refusal_of f (record_of 0 records k)
  fault-at k from to =
      let above = has.from in
      let last = block.1 in
      fault-steady f t.row.lo (own_records records t.row) t.rules w k steady has.artifacts
      ∙ ap (refusal_of f) (own-record records t.row.lo t.row.hi k (omega (arith, above, from)) (omega (arith, last, to)))

  -- the faults before a record of the chunk
  faults-to : (k : ℕ) → t.row.at ≤ k → k ≤ hi → count_of is_fault w t.row.at k ≡ length (skips_between f records t.row.at k)
  unfolding count_of
  faults-to k from to =
      counted-are (λ j. is_fault (entry w j)) (λ j. skip_by j (refusal_of f (record_of 0 records j))) (k - t.row.at) t.row.at
      (λ j above below. ap is_some (fault-at j above (omega (arith, from, to, below))) ∙ noted j (refusal_of f (record_of 0 records j)))

  -- so the skips before it are those of the partition's range
  skips-to : (k : ℕ) → t.row.at ≤ k → k ≤ hi → skips_before t.row w k ≡ length (classes_between f records t.row.lo k)
  skips-to k from to =
      let before = follows.skipped in
      let faults = faults-to k from to in
      let all = sym (length-append (skips_between f records t.row.lo t.row.at) (skips_between f records t.row.at k)) ∙ ap length (skips-join f records t.row.lo t.row.at k has.from from) in
      (λ i. before i + faults i) ∙ all ∙ sym (classes-length f records t.row.lo k)

  -- a refused record that doesn't settle the chunk is skipped
  skip-at : (k : ℕ) (class : ClassId) → t.row.at ≤ k → k < hi → settles t.rules t.row w k ≡ false → refusal_of f (record_of 0 records k) ≡ Some class
      → choice_at t.rules t.row class (length (classes_between f records t.row.lo k)) ≡ Skip
  unfolding settles
  skip-at k class from to idle refused =
      skip-is (choice_at t.rules t.row class (length (classes_between f records t.row.lo k)))
      (sym (ap (λ o. stops t.rules t.row o (skips_before t.row w k)) (fault-at k from to ∙ refused) ∙ ap (λ n. stops t.rules t.row (Some class) n) (skips-to k from (omega (arith, to)))) ∙ idle)

  -- those before the record that settles it pass, or all of them
  pass-to : SkipsPass → (k : ℕ) → t.row.at ≤ k → k ≤ hi → ((j : ℕ) → t.row.at ≤ j → j < k → settles t.rules t.row w j ≡ false) → Pass t.rules (classes_between f records t.row.lo k)
  pass-to law k from to idle =
      let e : t.row.at + (k - t.row.at) ≡ k = omega (arith, from) in
      subst (λ n. Pass t.rules (classes_between f records t.row.lo n)) e
      (records-pass law f t.rules records t.row t.row.lo t.row.at (k - t.row.at) has.from follows.passed
      (λ j class above below refused. let under : j < k = omega (arith, below, from) in skip-at j class above (omega (arith, under, to)) (idle j above under) refused))

  -- ---- that is committed

  idle-all : settled_at t ≡ None → (j : ℕ) → t.row.at ≤ j → j < hi → settles t.rules t.row w j ≡ false
  unfolding settling
  idle-all none j from to = unfound (settles t.rules t.row w) (hi - t.row.at) t.row.at none j from (omega (arith, from, to))

  committed : SkipsPass → (again : ℕ) → settled_at t ≡ None → FollowsRules f t.rules records (ending_by t again (Committed (whole_counts t))).task.row
  committed law again none =
      let lt = block.0 in
      let le : t.row.at ≤ hi = omega (arith, lt) in
      let counted = follows.counted in
      let skipped = follows.skipped in
      let more = block-counted f records t has block.1 none in
      let reads = reads-counted f t.row.lo (own_records records t.row) t.rules w t.row.at hi has.artifacts in
      let all = sym (length-append (skips_between f records t.row.lo t.row.at) (skips_between f records t.row.at hi)) ∙ ap length (skips-join f records t.row.lo t.row.at hi has.from le) in
      record {
        counted = (λ i. counted i + more i) ∙ all;
        skipped = omega (arith, skipped, more, reads, all);
        passed = pass-to law hi le (omega arith) (idle-all none);
        failed = λ e. absurd (waits (hi == t.row.hi) e);
      }
    where
      waits : (b : Bool) → cond b state.Finished state.Waiting ≡ state.Failed → ⊥
      waits true e = cc
      waits false e = cc

  -- ---- by which the partition fails

  fails-at : SkipsPass → FailsDont → (k : ℕ) (class other : ClassId) → IsFound (settles t.rules t.row w) t.row.at (hi - t.row.at) k → refusal_of f (record_of 0 records k) ≡ Some class
      → choice_at t.rules t.row class (skips_before t.row w k) ≡ Fail → (note : Note) × IsStop f t.rules records t.row note
  fails-at law dont k class other is refused fails =
      let from = is.from in
      let below = is.to in
      let above = has.from in
      let last = block.1 in
      let lt = block.0 in
      let to : k < hi = omega (arith, below, lt) in (
        record { number = k; class = class },
        record {
          from = from;
          to = omega (arith, to, last);
          refused = refused;
          passed = pass-to law k from (omega (arith, to)) is.before;
          fails = record-fails dont f t.rules records t.row t.row.lo k class (omega (arith, above, from)) refused
              (subst (λ n. choice_at t.rules t.row class n ≡ Fail) (skips-to k from (omega (arith, to))) fails);
        },
      )

  stop-by : SkipsPass → FailsDont → (k : ℕ) (refusal : Option ClassId) (other : ClassId) → IsFound (settles t.rules t.row w) t.row.at (hi - t.row.at) k → refusal_of f (record_of 0 records k) ≡ refusal
      → end_at t refusal (skips_before t.row w k) ≡ Failed other → (note : Note) × IsStop f t.rules records t.row note
  stop-by law dont k None other is refused e = absurd cc
  stop-by law dont k (Some class) other is refused e = fails-at law dont k class other is refused (fail-is _ class other (choice_at t.rules t.row class (skips_before t.row w k)) e)

  stop-at : SkipsPass → FailsDont → (settled : Option ℕ) (class : ClassId) → settled_at t ≡ settled → end_at t (fault_at t settled) (skips_at t settled) ≡ Failed class
      → (note : Note) × IsStop f t.rules records t.row note
  unfolding settling
  stop-at law dont None class at e = absurd (let none = ap (λ o. end_at t o (skips_at t None)) (sound-write t has.artifacts.writes) in cc)
  stop-at law dont (Some k) class at e =
      let is = found (settles t.rules t.row w) t.row.at (hi - t.row.at) k at in
      let below = is.to in
      let lt = block.0 in
      stop-by law dont k (refusal_of f (record_of 0 records k)) class is refl (sym (ap (λ o. end_at t o (skips_before t.row w k)) (fault-at k is.from (omega (arith, below, lt)))) ∙ e)

  stopped : SkipsPass → FailsDont → (class : ClassId) → end_of t ≡ Failed class → (note : Note) × IsStop f t.rules records t.row note
  unfolding end_of
  stopped law dont class e = stop-at law dont (settled_at t) class refl e

-- ---- AN ATTEMPT

-- the same, of a row with the same range and checkpoint
pub stop-same : (f : Function) (rules : RulesRecord) (records : List (List ℕ)) (row now : Row) → now.lo ≡ row.lo → now.hi ≡ row.hi → now.at ≡ row.at
    → (note : Note) × IsStop f rules records row note → (note : Note) × IsStop f rules records now note
stop-same f rules records row now lo hi at stop =
    let from = stop.1.from in
    let to = stop.1.to in (
      stop.0,
      record {
        from = omega (arith, from, at);
        to = omega (arith, to, hi);
        refused = stop.1.refused;
        passed = subst (λ n. Pass rules (classes_between f records n stop.0.number)) (sym lo) stop.1.passed;
        fails = subst (λ n. Pass rules (classes_between f records n (suc stop.0.number)) → ⊥) (sym lo) stop.1.fails;
      },
    )

-- a row that stays at its checkpoint, and fails only where it failed before
pub follows-same : (f : Function) (rules : RulesRecord) (records : List (List ℕ)) (row now : Row) → now.lo ≡ row.lo → now.hi ≡ row.hi → now.at ≡ row.at
    → now.counts.process_skip ≡ row.counts.process_skip → skips_of now ≡ skips_of row → (now.state ≡ state.Failed → (note : Note) × IsStop f rules records row note)
    → FollowsRules f rules records row → FollowsRules f rules records now
follows-same f rules records row now lo hi at counted skipped failed follows = record {
  counted = counted ∙ follows.counted ∙ (λ i. length (skips_between f records (sym lo i) (sym at i)));
  skipped = skipped ∙ follows.skipped ∙ (λ i. length (skips_between f records (sym lo i) (sym at i)));
  passed = subst (λ n. Pass rules (classes_between f records n now.at)) (sym lo) (subst (λ n. Pass rules (classes_between f records row.lo n)) (sym at) follows.passed);
  failed = λ e. stop-same f rules records row now lo hi at (failed e);
}

pub attempt-follows : SkipsPass → FailsDont → (f : Function) (records : List (List ℕ)) (t : TaskState) (again : ℕ) (e : Outcome) → end_of t ≡ e → IsSteady f → HasBlock t → HasResults f records t
    → FollowsRules f t.rules records t.row → FollowsRules f t.rules records (ending_by t again e).task.row
attempt-follows law dont f records t again (Committed delta) is steady block has follows =
    let commits = subst Commits (sym is) tt in
    let same : Committed (whole_counts t) ≡ Committed delta = sym (all-written t has.artifacts.writes commits) ∙ is in
    subst (λ (e : Outcome). FollowsRules f t.rules records (ending_by t again e).task.row) same (committed f records t steady has block follows law again (commit-none t commits))
attempt-follows law dont f records t again (Rolled class) is steady block has follows =
    follows-same f t.rules records t.row _ refl refl refl refl refl follows.failed follows
attempt-follows law dont f records t again (Failed class) is steady block has follows =
    follows-same f t.rules records t.row _ refl refl refl refl refl (λ _. stopped f records t steady has block follows law dont class is) follows
attempt-follows law dont f records t again NoMemory is steady block has follows =
    follows-same f t.rules records t.row _ refl refl refl refl refl follows.failed follows
