-- A run of a step is short: each of its rounds has an attempt, and it has no more attempts than its tasks have left.
use Rattle.std.proofs.Common.{◌≡◌, ℕ, zero, suc, ◌+◌, ◌*◌, ◌<◌, ◌≤◌, Bool, true, false, cond, ◌||◌, List, [], ◌∷◌, ◌++◌, length, map, sum, filter_map, Option, Some, None, refl, ap, sym, ◌∙◌, subst, arith, append-nil}
use Rattle.std.specs.Prelude.{filter, is_some, nat_eq, nat_lt, ◌&&◌, option_map}
use Rattle.std.specs.Int.{div_ceil}
use Rattle.std.specs.List.{AllByRecursion, cons_option, list_all, range_with_len}
use Rattle.std.proofs.Math.Nat.{max-le}
use Rattle.std.proofs.lemmas.Bool.{and_from, and_parts}
use Rattle.std.proofs.lemmas.Bool.Decides.{nat_tests}
use Rattle.std.proofs.lemmas.List.{length-append, length-map, length-take-le}
use Rattle.std.proofs.lemmas.List.Sums.{sum_by-cons}
use Rattle.jb_cert.proofs.LowerBound.{div_ceil_within}
use Rattle.jb_cert.specs.Lawful.{Pair}
use Rattle.jb_cert.specs.Load.{Load, longest_count, mcnaughton}
use Rattle.jb_cert.specs.Plans.{slot_pair}
use Rattle.jb_cert.specs.WrapAround.{in_lane, lane_slot, pair_at_place, slot_of, slots_of_round}
use Rattle.jb_cert.specs.declared.notes.PlanNote.{PlanNote}
use Rattle.jb_cert.specs.declared.plans.Slot.{Slot}
use Rattle.jb_chunk.specs.Alone.{IsRunOf, attempts_left}
use Rattle.jb_chunk.specs.Attempt.{AttemptEnd, attempt_of}
use Rattle.jb_chunk.specs.Laws.{RunsAreShort}
use Rattle.jb_chunk.specs.TaskState.{TaskState}
use Rattle.jb_step.specs.Alone.{AreReady}
use Rattle.jb_step.specs.Tables.{ArePlaced, Table, held_at, held_in}
use Rattle.jb_step.specs.rounds.Rounds.{CanRun, after_in, after_round, after_rounds, attempts_in, attempts_of, has_partition, tasks_in}
use Rattle.jb_step.specs.rounds.Runs.{ArePlanRuns, PlanRun, all_attempts, note_of, rounds_of, rounds_run}
use Rattle.jb_step.specs.preparing.Setup.{Setup}
use Rattle.jb_step.specs.inside.callbacks.Telling.{Moment}
use Rattle.jb_step.specs.inside.rounds.Round.{Progress}
use Rattle.jb_step.specs.inside.rounds.SoFar.{IsRunOfStepSoFar, at_first, set_of_round}
use Rattle.jb_step.specs.Short.{all_attempts_left, rounds_noted}
use Rattle.jb_step.proofs.table.Apart.{AllWait, IsWaiting, all-wait, run-more}
use Rattle.jb_step.proofs.table.Filters.{kept-so}
use Rattle.jb_step.proofs.table.Held.{held-round, named, none-is, some-is}

sum-cons : (n : ℕ) (ns : List ℕ) → sum (n ∷ ns) ≡ n + sum ns
sum-cons n ns = sum_by-cons (λ x. x) n ns

-- A ROUND HAS AN ATTEMPT

longest-within : (counts : List ℕ) → longest_count counts ≤ sum counts
longest-within [] = omega arith
longest-within (n ∷ ns) = let rest = longest-within ns in let all = sum-cons n ns in max-le {a = n} {b = longest_count ns} {k = sum (n ∷ ns)} (omega (arith, all)) (omega (arith, rest, all))

-- no plan has more rounds than chunks
few-rounds : (counts : List ℕ) (threads : ℕ) → 1 ≤ threads → mcnaughton counts threads ≤ sum counts
few-rounds counts threads some =
    let all = sum counts in
    max-le {a = longest_count counts} {b = div_ceil all threads} {k = all} (longest-within counts) (div_ceil_within all threads all some (more all threads some))
  where
    more : (n m : ℕ) → 1 ≤ m → n ≤ n * m
    more n (suc m) some = omega arith
    more n zero some = absurd (omega (arith, some))

below : (a b : ℕ) → a < b → nat_lt a b ≡ true
below a b lt = grind (arith, nat_tests)

-- lane 0 has a chunk in each round
first-slot : (counts : List ℕ) (threads r : ℕ) → 1 ≤ threads → r < mcnaughton counts threads → slot_of counts threads r 0 ≡ Some (pair_at_place counts (mcnaughton counts threads) (0 * mcnaughton counts threads + r))
first-slot counts threads r some lt =
    let rounds = mcnaughton counts threads in
    let few = few-rounds counts threads some in
    let x = 0 * rounds + r in
    let place : x < sum counts = omega (arith, lt, few) in
    ap (λ (b : Bool). cond b (Some (pair_at_place counts rounds x)) None)
    (and_from (nat_lt r rounds && nat_lt 0 threads) (nat_lt x (sum counts)) (and_from (nat_lt r rounds) (nat_lt 0 threads) (below r rounds lt) (below 0 threads (omega (arith, some)))) (below x (sum counts) place))

some-slot : (counts : List ℕ) (threads r : ℕ) → 1 ≤ threads → r < mcnaughton counts threads → 1 ≤ length (slots_of_round counts threads r)
some-slot counts zero r some lt = absurd (omega (arith, some))
some-slot counts (suc k) r some lt =
    let rest : List Slot = filter_map (lane_slot counts (suc k) r) (range_with_len 1 k) in
    let first : lane_slot counts (suc k) r 0 ≡ Some (in_lane 0 (pair_at_place counts (mcnaughton counts (suc k)) (0 * mcnaughton counts (suc k) + r))) = ap (option_map (in_lane 0)) (first-slot counts (suc k) r some lt) in
    subst (λ (o : Option Slot). 1 ≤ length (cons_option o rest)) (sym first) (omega arith)

-- a task that is kept is one at least
kept-some : (keep : TaskState → Bool) (table : Table) (p : ℕ) (t : TaskState) → held_at table p ≡ Some t → keep t ≡ true → 1 ≤ length (filter keep (held_in table))
kept-some keep [] p t e k = absurd (none-is t e)
kept-some keep (None ∷ table) zero t e k = absurd (none-is t e)
kept-some keep (Some u ∷ table) zero t e k =
    subst (λ (b : Bool). 1 ≤ length (cond b (u ∷ filter keep (held_in table)) (filter keep (held_in table)))) (sym (ap keep (some-is u t e) ∙ k)) (omega arith)
kept-some keep (None ∷ table) (suc p) t e k = kept-some keep table p t e k
kept-some keep (Some u ∷ table) (suc p) t e k =
    let rest = kept-some keep table p t e k in
    elim (keep u) as (λ b. 1 ≤ length (cond b (u ∷ filter keep (held_in table)) (filter keep (held_in table)))) [ true ↦ omega arith | false ↦ rest ]

same-number : (a b : ℕ) → a ≡ b → nat_eq b a ≡ true
same-number a b e = grind (arith, nat_tests)

some-attempt : (set : List Pair) (table : Table) → ArePlaced 0 table → CanRun set table → 1 ≤ length set → 1 ≤ length (attempts_in set table)
some-attempt [] table placed can some = absurd (omega (arith, some))
some-attempt (pair ∷ set) table placed can some = by (held_at table pair.0) refl
  where
    here : is_some (held_at table pair.0) ≡ true
    here = (and_parts (is_some (held_at table pair.0)) (list_all (λ (other : Pair). is_some (held_at table other.0)) set) can.tasks).0

    by : (o : Option TaskState) → held_at table pair.0 ≡ o → 1 ≤ length (attempts_in (pair ∷ set) table)
    by None e = let both : true ≡ false = sym here ∙ ap is_some e in let never : ⊥ = cc in absurd never
    by (Some t) e =
        let keep : TaskState → Bool = λ (u : TaskState). has_partition (pair ∷ set) u.partition in
        let is : keep t ≡ true = ap (λ (b : Bool). b || has_partition set t.partition) (same-number t.partition pair.0 (named table pair.0 t placed e)) in
        let long = length-map (tasks_in (pair ∷ set) table) attempt_of in
        let kept = kept-some keep table pair.0 t e is in
        omega (arith, long, kept)

-- each round of the load's plan that can be run has one
pub round-has-one : (load : Load) (r : ℕ) (table : Table) → 1 ≤ load.threads → r < mcnaughton load.counts load.threads → ArePlaced 0 table → CanRun (set_of_round load r) table
    → 1 ≤ length (attempts_of (set_of_round load r ∷ []) table)
round-has-one load r table some lt placed can =
    let slots = some-slot load.counts load.threads r some lt in
    let long = length-map (slots_of_round load.counts load.threads r) slot_pair in
    let one = some-attempt (set_of_round load r) table placed can (omega (arith, slots, long)) in
    let all = ap length (append-nil (attempts_in (set_of_round load r) table)) in
    omega (arith, one, all)

-- NO MORE ATTEMPTS THAN ARE LEFT

-- attempts of one task led it here, and others the other tasks: so many in all
record IsMade (t s : TaskState) (Rest : ℕ → Type 0) (n : ℕ) : Type 0 where
  es : List AttemptEnd
  run : IsRunOf t es s
  others : ℕ
  rest : Rest others
  all : n ≡ length es + others

abbrev AreMade : List TaskState → List TaskState → ℕ → Type 0
AreMade [] [] n = n ≡ 0
AreMade [] (s ∷ ss) n = ⊥
AreMade (t ∷ ts) [] n = ⊥
AreMade (t ∷ ts) (s ∷ ss) n = IsMade t s (AreMade ts ss) n

made-none : (ts : List TaskState) → AreMade ts ts 0
made-none [] = refl
made-none (t ∷ ts) = record { es = []; run = refl; others = 0; rest = made-none ts; all = refl }

both-few : (a b c d n : ℕ) → a ≤ b → c ≤ d → n ≡ a + c → n ≤ b + d
both-few a b c d n one other is = omega (arith, one, other, is)

made-few : RunsAreShort → (ts ss : List TaskState) (n : ℕ) → AreReady ts → AreMade ts ss n → n ≤ all_attempts_left ts
made-few law [] [] n ready made = omega (arith, made)
made-few law [] (s ∷ ss) n ready made = absurd made
made-few law (t ∷ ts) [] n ready made = absurd made
made-few law (t ∷ ts) (s ∷ ss) n ready made =
    subst (λ m. n ≤ m) (sym (sum-cons (attempts_left t) (map attempts_left ts)))
    (both-few (length made.es) (attempts_left t) made.others (all_attempts_left ts) n (law t s made.es ready.0 made.run) (made-few law ts ss made.others ready.1 made.rest) made.all)

in-one : (a b c n : ℕ) → n ≡ a + b → n + suc c ≡ (a + 1) + (b + c)
in-one a b c n is = omega (arith, is)

in-others : (a b c n : ℕ) → n ≡ a + b → n + c ≡ a + (b + c)
in-others a b c n is = omega (arith, is)

made-round : (set : List Pair) (ts ss : List TaskState) (n : ℕ) → AreMade ts ss n → AllByRecursion (λ (s : TaskState). has_partition set s.partition ≡ true → IsWaiting s) ss
    → AreMade ts (map (after_in set) ss) (n + length (filter (λ (s : TaskState). has_partition set s.partition) ss))
made-round set [] [] n made waiting = omega (arith, made)
made-round set [] (s ∷ ss) n made waiting = absurd made
made-round set (t ∷ ts) [] n made waiting = absurd made
made-round set (t ∷ ts) (s ∷ ss) n made waiting = by (has_partition set s.partition) waiting.0 (made-round set ts ss made.others made.rest waiting.1)
  where
    kept : List TaskState
    kept = filter (λ (u : TaskState). has_partition set u.partition) ss

    by : (b : Bool) → (b ≡ true → IsWaiting s) → AreMade ts (map (after_in set) ss) (made.others + length kept)
        → IsMade t (cond b (attempt_of s).task s) (AreMade ts (map (after_in set) ss)) (n + length (cond b (s ∷ kept) kept))
    by true waits rest = record {
      es = made.es ++ attempt_of s ∷ [];
      run = run-more t made.es s made.run (waits refl);
      others = made.others + length kept;
      rest = rest;
      all = in-one (length made.es) made.others (length kept) n made.all ∙ ap (λ m. m + (made.others + length kept)) (sym (length-append made.es (attempt_of s ∷ [])));
    }
    by false waits rest = record { es = made.es; run = made.run; others = made.others + length kept; rest = rest; all = in-others (length made.es) made.others (length kept) n made.all }

made-rounds : (rounds : List (List Pair)) (ts : List TaskState) (table : Table) (n : ℕ) → AreMade ts (held_in table) n → AllWait rounds table
    → AreMade ts (held_in (after_rounds rounds table)) (n + length (attempts_of rounds table))
made-rounds [] ts table n made all = subst (AreMade ts (held_in table)) (let e : n ≡ n + 0 = omega arith in e) made
made-rounds (set ∷ later) ts table n made all =
    let keep : TaskState → Bool = λ (s : TaskState). has_partition set s.partition in
    let waiting = kept-so IsWaiting keep (held_in table) all.0 in
    let here = attempts_in set table in
    let there = attempts_of later (after_round set table) in
    let number : n + length (filter keep (held_in table)) ≡ n + length here = ap (λ m. n + m) (sym (length-map (tasks_in set table) attempt_of)) in
    let one : AreMade ts (held_in (after_round set table)) (n + length here) =
    subst (λ (ss : List TaskState). AreMade ts ss (n + length here)) (sym (held-round set table))
    (subst (AreMade ts (map (after_in set) (held_in table))) number (made-round set ts (held_in table) n made waiting)) in
    let long = length-append here there in
    let e : (n + length here) + length there ≡ n + length (here ++ there) = omega (arith, long) in
    subst (AreMade ts (held_in (after_rounds later (after_round set table)))) e (made-rounds later ts (after_round set table) (n + length here) one all.1)

attempts-few : RunsAreShort → (s : Setup) (start : Table) (plans : List PlanRun) → AreReady (held_in start) → ArePlanRuns s start plans → length (all_attempts plans start) ≤ all_attempts_left (held_in start)
attempts-few law s start plans ready runs =
    let few = made-few law (held_in start) _ (0 + length (all_attempts plans start)) ready (made-rounds (rounds_of plans) (held_in start) start 0 (made-none (held_in start)) (all-wait s start plans runs)) in
    omega (arith, few)

-- BY THE NOTES

noted-are : (s : Setup) (start : Table) (plans : List PlanRun) → ArePlanRuns s start plans → rounds_noted (map note_of plans) ≡ length (rounds_of plans)
noted-are s start [] runs = refl
noted-are s start (plan ∷ later) runs =
    let one = length-take-le plan.ran plan.rounds runs.0.among in
    let rest = noted-are s (after_rounds (rounds_run plan) start) later runs.2 in
    let all = length-append (rounds_run plan) (rounds_of later) in
    let noted = sum-cons plan.ran (map (λ (note : PlanNote). note.ran) (map note_of later)) in
    omega (arith, one, rest, all, noted)

plans-noted : (s : Setup) (start : Table) (plans : List PlanRun) → ArePlanRuns s start plans → length (map note_of plans) ≤ rounds_noted (map note_of plans)
plans-noted s start [] runs = omega arith
plans-noted s start (plan ∷ later) runs =
    let some = runs.0.some in
    let rest = plans-noted s (after_rounds (rounds_run plan) start) later runs.2 in
    let noted = sum-cons plan.ran (map (λ (note : PlanNote). note.ran) (map note_of later)) in
    omega (arith, some, rest, noted)

-- so far
pub record IsFew (ts : List TaskState) (now : Progress) : Type 0 where
  pub plans : length now.notes ≤ rounds_noted now.notes
  pub noted : rounds_noted now.notes ≡ now.rounds
  pub rounds : now.rounds ≤ all_attempts_left ts
  pub attempts : now.attempts ≤ all_attempts_left ts

pub few-so-far : RunsAreShort → (s : Setup) (limit : Option ℕ) (stopped : Bool) (first : Moment) (start : Table) (now : Progress) → AreReady (held_in start)
    → IsRunOfStepSoFar s limit stopped (at_first first start) now → now.rounds ≤ now.attempts → IsFew (held_in start) now
few-so-far law s limit stopped first start now ready run busy =
    let few = attempts-few law s start run.plans ready run.run in
    let rounds = run.left.rounds_are in
    let attempts = run.left.attempts_are in
    let noted = noted-are s start run.plans run.run in
    let notes : now.notes ≡ map note_of run.plans = run.notes_are in
    let made : now.attempts ≤ all_attempts_left (held_in start) = omega (arith, few, attempts) in
    record {
      plans = subst (λ (notes : List PlanNote). length notes ≤ rounds_noted notes) (sym notes) (plans-noted s start run.plans run.run);
      noted = ap rounds_noted notes ∙ noted ∙ (let e : length (rounds_of run.plans) ≡ now.rounds = omega (arith, rounds) in e);
      rounds = omega (arith, made, busy);
      attempts = made;
    }
