-- The headline, from the laws.
use Rattle.std.proofs.Common.{◌≡◌, ℕ, suc, zero, ◌-◌, ◌<◌, Bool, true, false, List, [], ◌∷◌, ◌++◌, append-nil, append_assoc, length, drop, take, refl, ap, sym, ◌∙◌, subst, arith, inl, inr}
use Rattle.std.specs.Prelude.{Contains, ◌⊎◌}
use Rattle.std.proofs.lemmas.List.{take-append-drop, take_all}
use Rattle.jb_rules.specs.declared.row.Row.{Row}
use Rattle.jb_cert.specs.Lawful.{Pair, IsLawful}
use Rattle.jb_chunk.specs.Laws.{OneEnd}
use Rattle.jb_chunk.specs.TaskState.{TaskState}
use Rattle.jb_step.specs.Alone.{AreAlone}
use Rattle.jb_step.specs.Answers.{IsRunOfStep, StepRun, artifacts_of, table_before, tasks_after, tasks_before, tasks_by}
use Rattle.jb_step.specs.Headline.{ArePlansOf, Headline, HeadlineHolds, IsNextBlock, IsPlanOf, NoneIsLeft, RunInOrder, UnstoppedRunsAgree}
use Rattle.jb_step.specs.Tables.{Table, held_in}
use Rattle.jb_step.specs.rounds.PlanLaws.{IsTaskTable}
use Rattle.jb_step.specs.rounds.Rounds.{AreRun, GoQuietly, after_round, after_rounds, attempts_in, attempts_of, breaks_in}
use Rattle.jb_step.specs.rounds.Runs.{AreOver, ArePlanRuns, IsOver, IsPlanRun, PlanRun, rounds_of, rounds_run, table_after}
use Rattle.jb_step.specs.preparing.Setup.{Setup, counts_now, rows_now}
use Rattle.jb_step.specs.inside.LowerLaws.{ChunkLaws, LowerLaws}
use Rattle.jb_step.proofs.run.Adding.{after-append, breaks-more, not-last, quiet-both, run-more}
use Rattle.jb_step.proofs.table.Apart.{wait-in}
use Rattle.jb_step.proofs.plans.ChunksInOrder.{all-chunks, block-next, next-chunk}
use Rattle.jb_step.proofs.plans.Holding.{begins_with_table}
use Rattle.jb_step.proofs.run.Leading.{alone_is_one_place, steps_end_alone}
use Rattle.jb_step.proofs.plans.Staying.{steady-rounds}
use Rattle.jb_step.proofs.plans.Steady.{IsSteadyTable, steady-table}
use Rattle.jb_step.proofs.run.SoFar.{ready-of}

-- ONE PLAN

-- of rounds that were run, all but the last one went quietly
no-further : (rounds : List (List Pair)) (n : ℕ) (ts : Table) → n < length rounds → AreRun (take (suc n) rounds) ts → GoQuietly (take n rounds) ts
no-further rounds zero ts lt run = refl
no-further [] (suc n) ts lt run = refl
no-further (set ∷ []) (suc n) ts lt run = absurd (omega (arith, lt))
no-further (set ∷ (next ∷ later)) (suc n) ts lt run = quiet-both set (take n (next ∷ later)) ts (not-last run.1) (no-further (next ∷ later) n (after_round set ts) (omega (arith, lt)) run.2)

module _ (law : ChunkLaws) (s : Setup) (before : Table) (table : IsSteadyTable s before) where
  next-block : (done : List (List Pair)) (set : List Pair) (left : List (List Pair)) → IsLawful (counts_now s before) s.threads (done ++ set ∷ left) → AreRun done before → GoQuietly done before → (p j : ℕ) → Contains set (p, j)
      → IsNextBlock before (after_rounds done before) p j
  next-block done set left lawful run quiet p j chunk =
      let next = next-chunk law s before done table run quiet set left lawful p j chunk in
      record { was = next.has.t; is = next.has.u; stood = next.has.stood; stands = next.has.stands; next = block-next law s before done table run quiet set left lawful p j next }

  -- these rounds are run behind quiet ones
  in-order : (done rounds left : List (List Pair)) → IsLawful (counts_now s before) s.threads (done ++ (rounds ++ left)) → AreRun done before → GoQuietly done before → AreRun rounds (after_rounds done before)
      → RunInOrder before (after_rounds done before) rounds
  in-order done [] left lawful behind quiet run = tt
  in-order done (set ∷ []) left lawful behind quiet run = (next-block done set left lawful behind quiet, tt)
  in-order done (set ∷ (next ∷ later)) left lawful behind quiet run =
      let moved = after-append done (set ∷ []) before in (
        next-block done set ((next ∷ later) ++ left) lawful behind quiet,
        subst (λ now. RunInOrder before now (next ∷ later)) moved
            (in-order (done ++ set ∷ []) (next ∷ later) left (subst (λ (sets : List (List Pair)). IsLawful (counts_now s before) s.threads sets) (sym (append_assoc done (set ∷ []) ((next ∷ later) ++ left))) lawful)
            (run-more done set before behind quiet run.0) (breaks-more done (set ∷ []) before quiet ∙ ap breaks_in (append-nil (attempts_in set (after_rounds done before))) ∙ not-last run.1) (subst (λ now. AreRun (next ∷ later) now) (sym moved) run.2)),
      )

  none-left : (plan : PlanRun) → IsPlanRun s before plan → plan.ran ≡ length plan.rounds → GoQuietly (rounds_run plan) before → NoneIsLeft s (after_rounds (rounds_run plan) before)
  none-left plan one whole quiet p lt =
      let all : plan.rounds ≡ rounds_run plan = sym (take_all plan.ran plan.rounds (omega (arith, whole))) in
      all-chunks law s before (rounds_run plan) table one.run quiet (subst (λ (sets : List (List Pair)). IsLawful (counts_now s before) s.threads sets) all one.least.lawful) p lt

quietly : (b : Bool) (P : Type 0) → P ⊎ (b ≡ true) → b ≡ false → P
quietly b P (inl it) quiet = it
quietly b P (inr broke) quiet = let both : false ≡ true = sym quiet ∙ broke in let never : ⊥ = cc in absurd never

-- THE RUN

module _ (below : LowerLaws) (r : StepRun) where
  plan-of : (before : Table) (plan : PlanRun) (later : List PlanRun) → IsSteadyTable r.setup before → IsPlanRun r.setup before plan → (later ≡ []) ⊎ IsOver before plan → (r.snapshot.stopping ≡ false → IsOver before plan)
      → IsPlanOf r before plan later
  plan-of before plan later table one next last = record {
    exactly = one.least.lawful;
    fewest = one.least.least;
    certified = one.certified;
    among = one.among;
    in_order =
        in-order below.chunks r.setup before table [] (rounds_run plan) (drop plan.ran plan.rounds)
        (subst (λ (sets : List (List Pair)). IsLawful (counts_now r.setup before) r.setup.threads sets) (sym (take-append-drop plan.ran plan.rounds)) one.least.lawful) tt refl one.run;
    no_further =
        let some = one.some in
        let among = one.among in
        let ran : plan.ran ≡ suc (plan.ran - 1) = omega (arith, some) in
        no-further plan.rounds (plan.ran - 1) before (omega (arith, some, among)) (subst (λ n. AreRun (take n plan.rounds) before) ran one.run);
    whole = λ unended.
        let over : IsOver before plan = elim next [ inl none ↦ last (unended.unstopped none) | inr over ↦ over ] in
        let ran = quietly (breaks_in (attempts_of (rounds_run plan) before)) (plan.ran ≡ length plan.rounds) over unended.quiet in
        (ran, none-left below.chunks r.setup before table plan one ran unended.quiet);
  }

  plans-of : (before : Table) (plans : List PlanRun) → IsSteadyTable r.setup before → ArePlanRuns r.setup before plans → (r.snapshot.stopping ≡ false → AreOver before plans) → tasks_after r ≡ held_in (table_after plans before)
      → ArePlansOf r before plans
  plans-of before [] table runs over is = is
  plans-of before (plan ∷ later) table runs over is = (
    plan-of before plan later table runs.0 runs.1 (λ going. (over going).0),
    plans-of (after_rounds (rounds_run plan) before) later (steady-rounds below.chunks r.setup (rounds_run plan) before table (wait-in (rounds_run plan) before runs.0.run)) runs.2 (λ going. (over going).1)
        (is ∙ ap held_in (after-append (rounds_run plan) (rounds_of later) before)),
  )

  pub headline-of : IsTaskTable r.setup (table_before r) → held_in (table_before r) ≡ tasks_before r → IsRunOfStep r → Headline r
  headline-of first begun_with run = record {
    plans = run.plans;
    each = plans-of (table_before r) run.plans (steady-table r.setup (table_before r) first) run.run (λ going. (run.unstopped going).over) run.tasks;
    noted = run.notes_are;
    alone = λ going.
        subst (λ (ts : List TaskState). AreAlone (tasks_before r) ts) (sym run.tasks)
        (subst (λ (ts : List TaskState). AreAlone ts (tasks_by r run.plans)) begun_with
        (steps_end_alone below.ends r.setup (table_before r) run.plans (ready-of r.setup (held_in (table_before r)) first.tasks) run.run (run.unstopped going).ended));
    rows = run.rows ∙ ap (rows_now r.setup.rows) (sym run.tasks);
    came_back = run.came_back ∙ ap artifacts_of (sym run.tasks);
  }

pub headline_holds : LowerLaws → HeadlineHolds
headline_holds below r setup a = let first = begins_with_table r.setup r.artifacts setup a.fit in headline-of below r first.0 first.1 a.run

pub unstopped_runs_agree : OneEnd → UnstoppedRunsAgree
unstopped_runs_agree law r other one two rows tasks going other_going =
    let there = subst (λ (ts : List TaskState). AreAlone ts (tasks_after other)) tasks (two.alone other_going) in
    let same : tasks_after other ≡ tasks_after r = alone_is_one_place law (tasks_before r) (tasks_after other) (tasks_after r) there (one.alone going) in (
      two.rows ∙ (ap (λ (rs : List Row). rows_now rs (tasks_after other)) rows ∙ (ap (rows_now r.setup.rows) same ∙ sym one.rows)),
      two.came_back ∙ ap artifacts_of same ∙ sym one.came_back,
    )
