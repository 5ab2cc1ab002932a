-- One partition among the others.
use Rattle.std.proofs.Common.{◌≡◌, ℕ, Bool, true, false, cond, List, [], ◌∷◌, ◌++◌, Option, Some, None, refl, ap, ap₂, sym, ◌∙◌, subst, map}
use Rattle.std.specs.Prelude.{nat_eq, filter, option_map}
use Rattle.std.specs.List.{AllByRecursion, cons_option}
use Rattle.std.proofs.lemmas.List.Elements.{filter-append}
use Rattle.jb_rules.specs.declared.row.RowState.TheVariants as state
use Rattle.jb_rules.specs.States.{is_waiting}
use Rattle.jb_cert.specs.Lawful.{Pair}
use Rattle.jb_chunk.specs.Alone.{IsRunOf}
use Rattle.jb_chunk.specs.Attempt.{AttemptEnd, attempt_of}
use Rattle.jb_chunk.specs.TaskState.{TaskState}
use Rattle.jb_collect.specs.declared.calls.AnalyzerCall.{AnalyzerCall}
use Rattle.jb_collect.specs.declared.calls.AnalyzerCall.TheVariants as call
use Rattle.jb_collect.specs.declared.calls.Status.TheVariants.{Stopped}
use Rattle.jb_collect.specs.Heard.{calls_about, heard_first, heard_in, heard_last, partition_heard}
use Rattle.jb_collect.specs.Laws.{PartitionsAreHeardApart}
use Rattle.jb_step.specs.OnePartition.{alone_at, attempts_at, OthersDontCount, HeardOfPartition, AttemptsAreAlone}
use Rattle.jb_step.specs.Tables.{ArePlaced, Table, held_in, keep_if, held_at}
use Rattle.jb_step.specs.rounds.Rounds.{has_partition, after_in, tasks_in, attempts_in, attempts_of, after_round, after_rounds, AreRun}
use Rattle.jb_step.specs.rounds.Runs.{PlanRun, ArePlanRuns, all_attempts, table_after, rounds_of, rounds_run}
use Rattle.jb_step.specs.preparing.Setup.{Setup}
use Rattle.jb_step.proofs.table.Filters.{all-so, all-true, filter-map, filter-swap, kept-so}
use Rattle.jb_step.proofs.table.Held.{at-round, member, placed-round, stays}
use Rattle.jb_step.proofs.table.Keeping.{alone-is, held-kept}
use Rattle.jb_step.proofs.plans.Steady.{waits, same-partition, row_waits}

-- what passes among the images of what passes
pick : {X Y : Type 0} (q : Y → Bool) (h k : X → Bool) (f : X → Y) → ((x : X) → q (f x) ≡ k x) → (xs : List X) → filter q (map f (filter h xs)) ≡ map f (filter h (filter k xs))
pick q h k f same xs = filter-map q k f same (filter h xs) ∙ ap (map f) (filter-swap k h xs)

keeps-after : (p : ℕ) (set : List Pair) (place : Option TaskState) → keep_if (λ t. nat_eq t.partition p) (option_map (after_in set) place) ≡ option_map (after_in set) (keep_if (λ t. nat_eq t.partition p) place)
keeps-after p set None = refl
keeps-after p set (Some t) =
    ap (λ q. cond (nat_eq q p) (Some (after_in set t)) None) (stays set t)
    ∙ (elim (nat_eq t.partition p) as (λ b. cond b (Some (after_in set t)) None ≡ option_map (after_in set) (cond b (Some t) None)) [ true ↦ refl | false ↦ refl ])

alone-round : (p : ℕ) (set : List Pair) (table : Table) → alone_at p (after_round set table) ≡ after_round set (alone_at p table)
alone-round p set [] = refl
alone-round p set (place ∷ table) = ap₂ ◌∷◌ (keeps-after p set place) (alone-round p set table)

attempts-round : (p : ℕ) (set : List Pair) (table : Table) → attempts_at p (attempts_in set table) ≡ attempts_in set (alone_at p table)
attempts-round p set table =
    pick (λ (e : AttemptEnd). nat_eq e.task.partition p) (λ (t : TaskState). has_partition set t.partition) (λ (t : TaskState). nat_eq t.partition p) attempt_of (λ t. ap (λ q. nat_eq q p) (same-partition t)) (held_in table)
    ∙ ap (λ ts. map attempt_of (filter (λ (t : TaskState). has_partition set t.partition) ts)) (sym (held-kept (λ (t : TaskState). nat_eq t.partition p) table))

alone-rounds : (p : ℕ) (rounds : List (List Pair)) (table : Table) → alone_at p (after_rounds rounds table) ≡ after_rounds rounds (alone_at p table)
alone-rounds p [] table = refl
alone-rounds p (set ∷ later) table = alone-rounds p later (after_round set table) ∙ ap (after_rounds later) (alone-round p set table)

attempts-rounds : (p : ℕ) (rounds : List (List Pair)) (table : Table) → attempts_at p (attempts_of rounds table) ≡ attempts_of rounds (alone_at p table)
attempts-rounds p [] table = refl
attempts-rounds p (set ∷ later) table =
    filter-append (λ (e : AttemptEnd). nat_eq e.task.partition p) (attempts_in set table) (attempts_of later (after_round set table))
    ∙ ap₂ ◌++◌ (attempts-round p set table) (attempts-rounds p later (after_round set table) ∙ ap (attempts_of later) (alone-round p set table))

pub others_dont_count : OthersDontCount
others_dont_count p start plans = (attempts-rounds p (rounds_of plans) start, alone-rounds p (rounds_of plans) start)

-- HEARD

about-last : (p : ℕ) (table : Table) → calls_about p (heard_last (held_in table)) ≡ heard_last (held_in (alone_at p table))
about-last p table =
    pick (λ (d : AnalyzerCall). nat_eq (partition_heard d) p) (λ (t : TaskState). is_waiting t.row.state) (λ (t : TaskState). nat_eq t.partition p) (λ (t : TaskState). call.Status t.partition Stopped) (λ t. refl) (held_in table)
    ∙ ap heard_last (sym (held-kept (λ (t : TaskState). nat_eq t.partition p) table))

pub heard_of_partition : PartitionsAreHeardApart → HeardOfPartition
heard_of_partition law p s start plans =
    let first = heard_first s.is_fresh s.rows in
    let all = all_attempts plans start in
    let last = heard_last (held_in (table_after plans start)) in
    filter-append (λ (d : AnalyzerCall). nat_eq (partition_heard d) p) (first ++ heard_in all) last
    ∙ ap₂ ◌++◌
    (filter-append (λ (d : AnalyzerCall). nat_eq (partition_heard d) p) first (heard_in all) ∙ ap (λ cs. calls_about p first ++ cs) (law p all))
    (about-last p (table_after plans start))

-- ALONE

abbrev pub IsWaiting : TaskState → Type 0
IsWaiting t = t.row.state ≡ state.Waiting

-- each task of each round waits when it is run
abbrev pub AllWait : List (List Pair) → Table → Type 0
AllWait [] table = Unit {0}
AllWait (set ∷ later) table = AllByRecursion IsWaiting (tasks_in set table) × AllWait later (after_round set table)

all-append : (one more : List (List Pair)) (table : Table) → AllWait one table → AllWait more (after_rounds one table) → AllWait (one ++ more) table
all-append [] more table here behind = behind
all-append (set ∷ one) more table here behind = (here.0, all-append one more (after_round set table) here.1 behind)

pub wait-in : (rounds : List (List Pair)) (table : Table) → AreRun rounds table → AllWait rounds table
wait-in [] table run = tt
wait-in (set ∷ later) table run = (
  all-so (λ (t : TaskState). row_waits t ≡ true) IsWaiting (λ t. waits t.row.state) (tasks_in set table) (all-true row_waits (tasks_in set table) run.0.waiting),
  wait-in later (after_round set table) run.2,
)

pub all-wait : (s : Setup) (start : Table) (plans : List PlanRun) → ArePlanRuns s start plans → AllWait (rounds_of plans) start
all-wait s start [] runs = tt
all-wait s start (plan ∷ later) runs =
    all-append (rounds_run plan) (rounds_of later) start (wait-in (rounds_run plan) start runs.0.run) (all-wait s (after_rounds (rounds_run plan) start) later runs.2)

-- the set's tasks wait, so the partition's does, if the set has it
pub waits-at : (set : List Pair) (table : Table) (p : ℕ) (t : TaskState) → AllByRecursion IsWaiting (tasks_in set table) → held_at table p ≡ Some t → has_partition set t.partition ≡ true → IsWaiting t
waits-at set table p t all e =
    member (λ (u : TaskState). has_partition set u.partition ≡ true → IsWaiting u) table p t (kept-so IsWaiting (λ (u : TaskState). has_partition set u.partition) (held_in table) all) e

pub run-more : (t : TaskState) (es : List AttemptEnd) (s : TaskState) → IsRunOf t es s → s.row.state ≡ state.Waiting → IsRunOf t (es ++ attempt_of s ∷ []) (attempt_of s).task
run-more t [] s run w =
    let P : TaskState → Type 0 = λ u. IsRunOf u (attempt_of s ∷ []) (attempt_of s).task in
    subst P run (w, refl, refl)
run-more t (e ∷ es) s run w = (run.0, run.1, run-more e.task es s run.2 w)

-- where the rounds leave the partition's task
record IsLeft (p : ℕ) (rounds : List (List Pair)) (table : Table) (t : TaskState) : Type 0 where
  left : TaskState
  stands : held_at (after_rounds rounds table) p ≡ Some left
  run : IsRunOf t (attempts_at p (attempts_of rounds table)) left

left-one : (p : ℕ) (set : List Pair) (later : List (List Pair)) (table : Table) (t : TaskState) (b : Bool) → has_partition set t.partition ≡ b → (b ≡ true → IsWaiting t) → attempts_at p (attempts_in set table) ≡ map attempt_of (cond b (t ∷ []) [])
    → IsLeft p later (after_round set table) (cond b (attempt_of t).task t) → IsLeft p (set ∷ later) table t
left-one p set later table t b has waiting made more =
    record { left = more.left; stands = more.stands; run = subst (λ es. IsRunOf t es more.left) (sym all) (by b waiting more) }
  where
    others : List AttemptEnd
    others = attempts_at p (attempts_of later (after_round set table))

    all : attempts_at p (attempts_of (set ∷ later) table) ≡ map attempt_of (cond b (t ∷ []) []) ++ others
    all = filter-append (λ (e : AttemptEnd). nat_eq e.task.partition p) (attempts_in set table) (attempts_of later (after_round set table)) ∙ ap (λ es. es ++ others) made

    by : (b : Bool) → (b ≡ true → IsWaiting t) → (more : IsLeft p later (after_round set table) (cond b (attempt_of t).task t)) → IsRunOf t (map attempt_of (cond b (t ∷ []) []) ++ others) more.left
    by true waiting more = (waiting refl, refl, more.run)
    by false waiting more = more.run

left-by : (p : ℕ) (rounds : List (List Pair)) (table : Table) (t : TaskState) → ArePlaced 0 table → AllWait rounds table → held_at table p ≡ Some t → IsLeft p rounds table t
left-by p [] table t placed all e = record { left = t; stands = e; run = refl }
left-by p (set ∷ later) table t placed all e =
    let has = has_partition set t.partition in
    let made : attempts_at p (attempts_in set table) ≡ map attempt_of (cond has (t ∷ []) []) =
    attempts-round p set table
    ∙ ap (λ ts. map attempt_of (filter (λ (u : TaskState). has_partition set u.partition) ts)) (alone-is p table placed ∙ ap (λ (o : Option TaskState). cons_option o []) e) in
    left-one p set later table t has refl (waits-at set table p t all.0 e) made
    (left-by p later (after_round set table) (after_in set t) (placed-round set table placed) all.1 (at-round set table p ∙ ap (option_map (after_in set)) e))

pub attempts_are_alone : AttemptsAreAlone
attempts_are_alone s start plans p t placed runs e =
    let end = left-by p (rounds_of plans) start t placed (all-wait s start plans runs) e in
    (end.left, end.stands, end.run)
