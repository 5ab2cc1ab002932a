-- A block and its repeats.
use Rattle.std.proofs.Common.{◌≡◌, ℕ, zero, suc, ◌+◌, ◌-◌, ◌≤◌, ◌<◌, ◌⊎◌, inl, inr, Bool, true, false, not, cond, ◌&&◌, nat_lt, List, Option, Some, None, refl, ap, sym, ◌∙◌, subst, arith, eqb}
use Rattle.std.specs.Prelude.{◌||◌}
use Rattle.std.proofs.lemmas.Bool.Decides.{nat_tests}
use Rattle.jb_base.specs.declared.class.ClassId.{ClassId}
use Rattle.jb_base.specs.Rules.{RulesRecord}
use Rattle.jb_rules.specs.declared.row.Row.{Row}
use Rattle.jb_rules.specs.declared.choice.Choice.{Choice}
use Rattle.jb_rules.specs.declared.choice.Choice.TheVariants.{Skip, Retry, Again, Fail}
use Rattle.jb_rules.specs.Decide.{has_class, is_below}
use Rattle.jb_rules.specs.Rows.{row_block, repeated_row}
use Rattle.jb_artifacts.specs.declared.faults.FaultPlan.{FaultPlan}
use Rattle.jb_artifacts.specs.Faults.{FaultTable, used, used_at}
use Rattle.jb_artifacts.specs.Writer.{failing, used_for}
use Rattle.jb_artifacts.specs.Meaning.{ArtifactsMeaning}
use Rattle.jb_chunk.specs.Attempt.{settled_at, results_of, fault_at, skips_at, called_again, repeated_artifacts, repeated, asks_repeat, repeated_up_to, all_repeated, IsRestored, block_of}
use Rattle.jb_chunk.specs.TaskState.{TaskState}
use Rattle.jb_chunk.specs.Block.{entry, settles, settling, stops, repeats, choice_at, is_skip, is_again, used_times, MayBeUsed}
use Rattle.jb_chunk.specs.inside.Repeats.{IsRepeated}
use Rattle.jb_chunk.specs.Entries.{Entry, ReadFault, ProcessFault, Processed}
use Rattle.jb_chunk.proofs.OwnRecords.{found-of, failing-in}

-- A REPEAT TAKES A RETRY

-- the choice for a fault, by what is open
abbrev pub choice_by : (again retrying skip opened : Bool) → Choice
choice_by again retrying skip opened = cond (skip && (retrying || not opened)) Skip (cond (not opened) Fail (cond again Again Retry))

abbrev pub can_skip : RulesRecord → ClassId → (skips : ℕ) → Bool
can_skip rules class skips = has_class rules.skippable class && is_below rules.skip_limit skips

again-opened : (again retrying skip opened : Bool) → is_again (choice_by again retrying skip opened) ≡ true → opened ≡ true
again-opened again retrying skip true e = refl
again-opened again retrying false false e = absurd cc
again-opened again true true false e = absurd cc
again-opened again false true false e = absurd cc

pub opened-below : (b : Bool) (m n : ℕ) → (b && nat_lt m n) ≡ true → m < n
opened-below b m n e = grind (arith, nat_tests)

-- a fault is repeated only where a retry is left
pub repeats-below : (rules : RulesRecord) (row : Row) (fault : Option ClassId) (skips : ℕ) → repeats rules row fault skips ≡ true → row.retries < rules.retry_limit
repeats-below rules row None skips e = absurd cc
repeats-below rules row (Some class) skips e =
    opened-below (has_class rules.retryable class) row.retries rules.retry_limit
    (again-opened (has_class rules.no_rollback class) (nat_lt row.at row.redo) (can_skip rules class skips) _ e)

-- WHAT IS SKIPPED STAYS SKIPPED WHERE FEWER RETRIES ARE LEFT

skips-by : (again retrying skip opened fewer : Bool) → (fewer ≡ true → opened ≡ true) → not (is_skip (choice_by again retrying skip opened)) ≡ false → not (is_skip (choice_by again retrying skip fewer)) ≡ false
skips-by again true true opened fewer more e = refl
skips-by again false true false true more e = let never : false ≡ true = more refl in absurd cc
skips-by again false true false false more e = refl
skips-by true false true true fewer more e = absurd cc
skips-by false false true true fewer more e = absurd cc
skips-by again retrying false false fewer more e = absurd cc
skips-by true retrying false true fewer more e = absurd cc
skips-by false retrying false true fewer more e = absurd cc

fewer-opened : (b : Bool) (m n : ℕ) → (b && nat_lt (m + 1) n) ≡ true → (b && nat_lt m n) ≡ true
fewer-opened b m n e = grind (arith, nat_tests)

pub stops-kept : (rules : RulesRecord) (row : Row) (fault : Option ClassId) (skips : ℕ) → stops rules row fault skips ≡ false → stops rules (repeated_row row 1) fault skips ≡ false
stops-kept rules row None skips e = refl
stops-kept rules row (Some class) skips e =
    skips-by (has_class rules.no_rollback class) (nat_lt row.at row.redo) (can_skip rules class skips) _ _
    (fewer-opened (has_class rules.retryable class) row.retries rules.retry_limit) e

-- a fault that is repeated isn't skipped
again-unskipped : (choice : Choice) → is_again choice ≡ true → not (is_skip choice) ≡ true
again-unskipped Skip e = absurd cc
again-unskipped Retry e = absurd cc
again-unskipped Again e = refl
again-unskipped Fail e = absurd cc

pub repeats-stops : (rules : RulesRecord) (row : Row) (fault : Option ClassId) (skips : ℕ) → repeats rules row fault skips ≡ true → stops rules row fault skips ≡ true
repeats-stops rules row None skips e = absurd cc
repeats-stops rules row (Some class) skips e = again-unskipped (choice_at rules row class skips) e

-- ONE REPEAT AND THE REST

pub asks-below : (t : TaskState) → asks_repeat t ≡ true → t.row.retries < t.rules.retry_limit
unfolding asks_repeat
asks-below t e = repeats-below t.rules t.row (fault_at t (settled_at t)) (skips_at t (settled_at t)) e

pub after_repeats-more : (t : TaskState) → asks_repeat t ≡ true → all_repeated (repeated t) ≡ all_repeated t
unfolding all_repeated repeated_up_to
after_repeats-more t e =
    let below = asks-below t e in
    let left : t.rules.retry_limit - t.row.retries ≡ suc (t.rules.retry_limit - (t.row.retries + 1)) = omega (arith, below) in
    sym (ap (λ n. repeated_up_to n t) left
    ∙ ap (λ b. cond b (repeated_up_to (t.rules.retry_limit - (t.row.retries + 1)) (repeated t)) t) e)

up_to-none : (n : ℕ) (t : TaskState) → asks_repeat t ≡ false → repeated_up_to n t ≡ t
unfolding repeated_up_to
up_to-none zero t e = refl
up_to-none (suc n) t e = ap (λ b. cond b (repeated_up_to n (repeated t)) t) e

pub after_repeats-last : (t : TaskState) → asks_repeat t ≡ false → all_repeated t ≡ t
unfolding all_repeated
after_repeats-last t e = up_to-none _ t e

-- PLANS AFTER SOME CALLS

times-more : (m n : ℕ) (plan : FaultPlan) → used_times m (used_times n plan) ≡ used_times (m + n) plan
times-more zero n plan = let e : n ≡ 0 + n = omega arith in ap (λ k. used_times k plan) e
times-more (suc m) n plan = let e : suc (m + n) ≡ suc m + n = omega arith in ap used (times-more m n plan) ∙ ap (λ k. used_times k plan) e

pub may-same : (lo hi : ℕ) (plans : FaultTable) → MayBeUsed lo hi plans plans
may-same lo hi plans = record { each = λ k. (0, refl); others = λ k out. refl }

pub may-trans : (lo hi : ℕ) (a b c : FaultTable) → MayBeUsed lo hi a b → MayBeUsed lo hi b c → MayBeUsed lo hi a c
may-trans lo hi a b c one two = record {
  each = λ k. let x = one.each k in let y = two.each k in (y.0 + x.0, y.1 ∙ ap (used_times y.0) x.1 ∙ times-more y.0 x.0 (a k));
  others = λ k out. two.others k out ∙ one.others k out;
}

outside-wide : (lo hi from to k : ℕ) → from ≤ lo → hi ≤ to → (k < from) ⊎ (to ≤ k) → (k < lo) ⊎ (hi ≤ k)
outside-wide lo hi from to k a b (inl below) = inl (omega (arith, a, below))
outside-wide lo hi from to k a b (inr past) = inr (omega (arith, b, past))

pub may-wide : (lo hi from to : ℕ) (a b : FaultTable) → from ≤ lo → hi ≤ to → MayBeUsed lo hi a b → MayBeUsed from to a b
may-wide lo hi from to a b f t used = record { each = used.each; others = λ k out. used.others k (outside-wide lo hi from to k f t out) }

pub one-or-none : (b : Bool) (plan : FaultPlan) → (n : ℕ) × (cond b (used plan) plan ≡ used_times n plan)
one-or-none true plan = (1, refl)
one-or-none false plan = (0, refl)

apart : (lo hi j k : ℕ) → lo ≤ k → k < hi → (j < lo) ⊎ (hi ≤ j) → eqb j k ≡ false
apart lo hi j k from to (inl below) = grind (arith, nat_tests)
apart lo hi j k from to (inr past) = grind (arith, nat_tests)

pub may-used_at : (lo hi k : ℕ) (plans : FaultTable) → lo ≤ k → k < hi → MayBeUsed lo hi plans (used_at plans k)
unfolding used_at
may-used_at lo hi k plans from to = record {
  each = λ j. one-or-none (eqb j k) (plans j);
  others = λ j out. ap (λ b. cond b (used (plans j)) (plans j)) (apart lo hi j k from to out);
}

pub may-used_for : (plans : FaultTable) (o : Option (ℕ × List ℕ)) (lo hi : ℕ) → ((r : ℕ × List ℕ) → o ≡ Some r → (lo ≤ r.0) × (r.0 < hi)) → MayBeUsed lo hi plans (used_for plans o)
may-used_for plans None lo hi within = may-same lo hi plans
may-used_for plans (Some r) lo hi within = let is = within r refl in may-used_at lo hi r.0 plans is.0 is.1

-- THE SAME BLOCK

pub restored-same : (lo hi : ℕ) (w : ArtifactsMeaning) → IsRestored lo hi w w
restored-same lo hi w = record {
  reader = refl;
  processor = refl;
  writer = refl;
  collector = refl;
  read_plans = may-same lo hi _;
  process_plans = may-same lo hi _;
  write_plans = may-same lo hi _;
}

pub restored-trans : (lo hi : ℕ) (a b c : ArtifactsMeaning) → IsRestored lo hi a b → IsRestored lo hi b c → IsRestored lo hi a c
restored-trans lo hi a b c one two = record {
  reader = two.reader ∙ (λ i. record (one.reader i) { faults = c.reader.faults });
  processor = two.processor ∙ (λ i. record (one.processor i) { faults = c.processor.faults });
  writer = two.writer ∙ (λ i. record (one.writer i) { faults = c.writer.faults });
  collector = two.collector ∙ one.collector;
  read_plans = may-trans lo hi _ _ _ one.read_plans two.read_plans;
  process_plans = may-trans lo hi _ _ _ one.process_plans two.process_plans;
  write_plans = may-trans lo hi _ _ _ one.write_plans two.write_plans;
}

restored-process : (lo hi : ℕ) (w : ArtifactsMeaning) (k : ℕ) → lo ≤ k → k < hi → IsRestored lo hi w (record w { processor = record w.processor { faults = used_at w.processor.faults k } })
restored-process lo hi w k from to = record {
  reader = refl;
  processor = refl;
  writer = refl;
  collector = refl;
  read_plans = may-same lo hi _;
  process_plans = may-used_at lo hi k _ from to;
  write_plans = may-same lo hi _;
}

restored-call : (lo hi : ℕ) (w : ArtifactsMeaning) (k : ℕ) (e : Entry) → lo ≤ k → k < hi → IsRestored lo hi w (called_again w k e)
restored-call lo hi w k (ReadFault class) from to = record {
  reader = refl;
  processor = refl;
  writer = refl;
  collector = refl;
  read_plans = may-used_at lo hi k _ from to;
  process_plans = may-same lo hi _;
  write_plans = may-same lo hi _;
}
restored-call lo hi w k (ProcessFault class) from to = restored-process lo hi w k from to
restored-call lo hi w k (Processed answer) from to = restored-process lo hi w k from to

restored-repeat : (t : TaskState) (o : Option ℕ) → settled_at t ≡ o → IsRestored t.row.at (block_of t).hi t.artifacts (repeated_artifacts t o)
unfolding settling
restored-repeat t (Some k) at =
    let is = found-of (settles t.rules t.row t.artifacts) ((block_of t).hi - t.row.at) t.row.at k at in
    let from = is.0 in
    let to = is.1 in
    restored-call t.row.at (block_of t).hi t.artifacts k (entry t.artifacts k) from (omega (arith, from, to))
restored-repeat t None at = record {
  reader = refl;
  processor = refl;
  writer = refl;
  collector = refl;
  read_plans = may-same _ _ _;
  process_plans = may-same _ _ _;
  write_plans = may-used_for t.artifacts.writer.faults (failing t.artifacts.writer.faults (results_of t)) t.row.at (block_of t).hi (failing-in t);
}

-- REPEATS ONE AFTER ANOTHER

pub same-rules : {t u : TaskState} → IsRepeated t u → u.rules ≡ t.rules
same-rules r = ap (λ (x : TaskState). x.rules) r.rest

-- a repeat doesn't change where the chunk ends
pub same-hi : {t u : TaskState} → IsRepeated t u → (block_of u).hi ≡ (block_of t).hi
same-hi {t} {u} r = (λ i. (row_block (r.rest i).item_count u.row).hi) ∙ ap (λ (x : Row). (row_block t.item_count x).hi) r.row

pub repeated-none : (t : TaskState) → IsRepeated t t
repeated-none t =
    let retries : t.row.retries ≡ t.row.retries + 0 = omega arith in
    let in_place : t.row.in_place ≡ t.row.in_place + 0 = omega arith in
    record {
      again = 0;
      rest = refl;
      row = λ i. record t.row { retries = retries i; in_place = in_place i };
      few = inl refl;
      artifacts = restored-same _ _ _;
      same = refl;
    }

pub row-more : (row : Row) (n : ℕ) → repeated_row (repeated_row row n) 1 ≡ repeated_row row (n + 1)
row-more row n =
    let retries : row.retries + n + 1 ≡ row.retries + (n + 1) = omega arith in
    let in_place : row.in_place + n + 1 ≡ row.in_place + (n + 1) = omega arith in
    λ i. record row { retries = retries i; in_place = in_place i }

pub repeated-more : (t u : TaskState) → IsRepeated t u → asks_repeat u ≡ true → IsRepeated t (repeated u)
repeated-more t u r asks =
    let below = asks-below u asks in
    let retries : u.row.retries ≡ t.row.retries + r.again = ap (λ (x : Row). x.retries) r.row in
    let limit : u.rules.retry_limit ≡ t.rules.retry_limit = ap (λ (x : RulesRecord). x.retry_limit) (same-rules r) in
    let at : u.row.at ≡ t.row.at = ap (λ (x : Row). x.at) r.row in
    let here = restored-repeat u (settled_at u) refl in
    let P : ℕ → Type 0 = λ lo. IsRestored lo (block_of u).hi u.artifacts (repeated_artifacts u (settled_at u)) in
    let Q : ℕ → Type 0 = λ hi. IsRestored t.row.at hi u.artifacts (repeated_artifacts u (settled_at u)) in
    record {
      again = r.again + 1;
      rest = λ i. record (r.rest i) { row = repeated_row u.row 1; artifacts = repeated_artifacts u (settled_at u) };
      row = ap (λ x. repeated_row x 1) r.row ∙ row-more t.row r.again;
      few = inr (omega (arith, below, retries, limit));
      artifacts = restored-trans t.row.at (block_of t).hi _ _ _ r.artifacts (subst Q (same-hi r) (subst P at here));
      same = after_repeats-more u asks ∙ r.same;
    }

reached-by : (b : Bool) (n : ℕ) (t u : TaskState) → asks_repeat u ≡ b → IsRepeated t u → ((v : TaskState) → IsRepeated t v → IsRepeated t (repeated_up_to n v)) → IsRepeated t (cond b (repeated_up_to n (repeated u)) u)
reached-by true n t u e r more = more (repeated u) (repeated-more t u r e)
reached-by false n t u e r more = r

reached : (n : ℕ) (t u : TaskState) → IsRepeated t u → IsRepeated t (repeated_up_to n u)
unfolding repeated_up_to
reached zero t u r = r
reached (suc n) t u r = reached-by (asks_repeat u) n t u refl r (λ v. reached n t v)

-- all repeats of a block are repeats of it
pub after_repeats-repeated : (t : TaskState) → IsRepeated t (all_repeated t)
unfolding all_repeated
after_repeats-repeated t = reached _ t t (repeated-none t)

-- a block that asks for no more repeats is that after all of them
pub repeated-last : (t u : TaskState) → IsRepeated t u → asks_repeat u ≡ false → u ≡ all_repeated t
repeated-last t u r e = sym (after_repeats-last u e) ∙ r.same
