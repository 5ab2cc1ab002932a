use Rattle.std.proofs.Common.{◌≡◌, ℕ, ◌+◌, ◌<◌, ◌⊎◌, inl, inr, true, false, List, Option, length, sym, ◌∙◌, subst, arith, eqb-true}
use Rattle.jb_cert.specs.Load.{Load}
use Rattle.jb_cert.specs.Plans.{sets_of}
use Rattle.jb_cert.specs.WrapAround.{wrapped_rounds}
use Rattle.jb_chunk.specs.TaskState.{TaskState}
use Rattle.jb_step.specs.preparing.Setup.{Setup}
use Rattle.jb_step.specs.inside.table.Places.{table_in}
use Rattle.jb_step.specs.inside.rounds.Round.{Progress, progress}
use Rattle.jb_step.specs.inside.rounds.SoFar.{AreWithin, IsPlanFor, plan_run_of}
use Rattle.jb_step.proofs.calls.Growing.{grew-more, grew-none}
use Rattle.jb_step.proofs.table.Numbers.{below-of}
use Rattle.jb_step.proofs.run.Short.{round-has-one}
use Rattle.jb_step.proofs.run.SoFar.{ends, goes-on, long-plan, none-run, open-can-run, opens, ready-of, table-round}
use Rattle.jb_step.proofs.rounds.runner.RoundRunner.run_plan.Goals as goal
use Rattle.jb_step.proofs.rounds.runner.RoundRunner.run_plan.Goals.{then-broke, else-broke}

-- the plan was made for the tasks that were held
made-for : {T : Type 0} (task_state : T → TaskState) (s : Setup) (load : Load) (held places : List (Option T)) → held ≡ places → IsPlanFor s (table_in task_state held) (plan_run_of load 0) → IsPlanFor s (table_in task_state places) (plan_run_of load 0)
made-for task_state s load held places is made = subst (λ (os : List (Option _)). IsPlanFor s (table_in task_state os) (plan_run_of load 0)) is made

in-plan : (load : Load) (rounds round : ℕ) → length (wrapped_rounds load.counts load.threads) ≡ rounds → round < rounds → round < length (sets_of (wrapped_rounds load.counts load.threads))
in-plan load rounds round long lt = omega (arith, lt, long, long-plan load)

pub returns-then-is_cut-clause-run : goal.returns-then-is_cut-clause-run
returns-then-is_cut-clause-run g c = none-run _ _ _ _ c.requires.few

pub returns-then-is_cut-clause-on : goal.returns-then-is_cut-clause-on
returns-then-is_cut-clause-on g c = λ going. (let never : true ≡ false = going in cc)

pub loop-round-init : goal.loop-round-init
loop-round-init g c =
    let made = made-for g.T.PartitionTask.task_state c.args.prepared.now c.in_ok-plan.plan _ c.args.ran.now.held.items c.as_slice.ensures.value c.in_ok-plan.ensures in
    let some = made.some in (
      opens _ _ _ c.requires.table,
      omega (arith, some, long-plan c.in_ok-plan.plan, c.rounds-rounds.ensures.length),
      c.is_cut.ensures c.if-is_cut.false,
      grew-none _,
      omega arith,
    )

pub next_round-requires-clause-placed : goal.next_round-requires-clause-placed
next_round-requires-clause-placed g c κs within = c.loop-round.invariant.0.table.placed

pub next_round-requires-clause-ready : goal.next_round-requires-clause-ready
next_round-requires-clause-ready g c κs within = ready-of c.args.prepared.now _ c.loop-round.invariant.0.table.tasks

pub next_round-requires-clause-can_run : goal.next_round-requires-clause-can_run
next_round-requires-clause-can_run g c κs within =
    let load = c.in_ok-plan.plan in
    let first : Progress = progress g.T.PartitionTask.task_state ((goal.Analyzer-dyn g c.args.analyzer.now).analyzed c.args.analyzer.now.1) c.args.ran.now in
    let made = made-for g.T.PartitionTask.task_state c.args.prepared.now load _ c.args.ran.now.held.items c.as_slice.ensures.value c.in_ok-plan.ensures in
    let here = in-plan load c.rounds-rounds.result c.loop-round.round c.rounds-rounds.ensures.length c.loop-round-test.true in
    open-can-run c.lower_laws.ensures c.args.prepared.now load first made c.requires.table c.loop-round.round here _ c.loop-round.invariant.0

pub returns-in_err-broke-clause-grew : goal.returns-in_err-broke-clause-grew
returns-in_err-broke-clause-grew g c = grew-more _ _ _ c.loop-round.invariant.3 c.next_round.ensures.grew

pub returns-in_err-take_note-clause-grew : goal.returns-in_err-take_note-clause-grew
returns-in_err-take_note-clause-grew g c = grew-more _ _ _ c.loop-round.invariant.3 c.next_round.ensures.grew

pub returns-then-over-clause-run : goal.returns-then-over-clause-run
returns-then-over-clause-run g c =
    let load = c.in_ok-plan.plan in
    let first : Progress = progress g.T.PartitionTask.task_state ((goal.Analyzer-dyn g c.args.analyzer.now).analyzed c.args.analyzer.now.1) c.args.ran.now in
    let made = made-for g.T.PartitionTask.task_state c.args.prepared.now load _ c.args.ran.now.held.items c.as_slice.ensures.value c.in_ok-plan.ensures in
    let here = in-plan load c.rounds-rounds.result c.loop-round.round c.rounds-rounds.ensures.length c.loop-round-test.true in
    let round = c.loop-round.round in
    let one = c.in_ok-broke.ensures.round.left.rounds_are in
    let now : c.next_round.new.ran.rounds ≡ c.loop-round.ran.rounds + 1 = omega (arith, one) in
    let over : c.if-broke.over ≡ true → (c.in_ok-broke.broke ≡ true) ⊎ (round + 1 ≡ length (plan_run_of load 0).rounds) =
    elim c.if-broke.branch [
      | then-broke w ↦ λ it. inl w.if-broke.true
      | else-broke w ↦ λ it. inr (eqb-true (round + 1) c.rounds-rounds.result (sym w.over-is ∙ it) ∙ sym (long-plan load ∙ c.rounds-rounds.ensures.length))
    ]
    in
    ends c.lower_laws.ensures c.args.prepared.now load first made c.requires.table round here _ c.loop-round.invariant.0 _ c.in_ok-broke.broke c.in_ok-broke.ensures.round
    c.args.round_limit c.if-broke.over c.take_note.new.notes.items over (subst (λ (n : ℕ). AreWithin c.args.round_limit n) (sym now) c.loop-round.invariant.2) c.in_ok-take_note.ensures

pub returns-then-over-clause-table : goal.returns-then-over-clause-table
returns-then-over-clause-table g c = table-round _ _ _ _ _ c.loop-round.invariant.0.table c.in_ok-broke.ensures.round

pub returns-then-over-clause-grew : goal.returns-then-over-clause-grew
returns-then-over-clause-grew g c = grew-more _ _ _ c.loop-round.invariant.3 c.next_round.ensures.grew

pub loop-round-preserved : goal.loop-round-preserved
loop-round-preserved g c =
    let load = c.in_ok-plan.plan in
    let first : Progress = progress g.T.PartitionTask.task_state ((goal.Analyzer-dyn g c.args.analyzer.now).analyzed c.args.analyzer.now.1) c.args.ran.now in
    let made = made-for g.T.PartitionTask.task_state c.args.prepared.now load _ c.args.ran.now.held.items c.as_slice.ensures.value c.in_ok-plan.ensures in
    let here = in-plan load c.rounds-rounds.result c.loop-round.round c.rounds-rounds.ensures.length c.loop-round-test.true in
    let round = c.loop-round.round in
    let lt = c.loop-round-test.true in
    let quiet : (c.in_ok-broke.broke ≡ false) × (round + 1 < c.rounds-rounds.result) =
    elim c.if-broke.branch [
      | then-broke w ↦ (let both : true ≡ false = sym w.if-broke.true ∙ sym w.over-is ∙ c.if-over.false in let never : ⊥ = cc in absurd never)
      | else-broke w ↦ (w.if-broke.false, (let more = below-of (round + 1) c.rounds-rounds.result (sym w.over-is ∙ c.if-over.false) (omega (arith, lt)) in omega (arith, more)))
    ]
    in (
      goes-on c.lower_laws.ensures c.args.prepared.now load first made c.requires.table round here _ c.loop-round.invariant.0 _ c.in_ok-broke.broke c.in_ok-broke.ensures.round quiet.0,
      quiet.1,
      c.is_cut-else-over.ensures c.if-is_cut-2.false,
      grew-more _ _ _ c.loop-round.invariant.3 c.in_ok-broke.ensures.grew,
      (let now = c.in_ok-broke.ensures.round.left.rounds_are in
          let tried = c.in_ok-broke.ensures.round.left.attempts_are in
          let bound = c.rounds-rounds.ensures.bound in
          let one = round-has-one load round _ c.threads-threads.ensures.limits.some_thread (omega (arith, bound, lt)) c.loop-round.invariant.0.table.placed (open-can-run c.lower_laws.ensures c.args.prepared.now load first made c.requires.table round here _ c.loop-round.invariant.0) in
          let before = c.loop-round.invariant.4 in
          omega (arith, now, tried, one, before)),
    )

pub unreachable-requires : goal.unreachable-requires
unreachable-requires g c = let lt = c.loop-round.invariant.1 in omega (arith, lt, c.loop-round-test.false)

pub returns-then-over-clause-on : goal.returns-then-over-clause-on
returns-then-over-clause-on g c = λ going. (let now = c.in_ok-broke.ensures.round.left.rounds_are in let before = c.loop-round.invariant.0.left.rounds_are in omega (arith, now, before))

pub returns-then-over-clause-busy : goal.returns-then-over-clause-busy
returns-then-over-clause-busy g c =
    let load = c.in_ok-plan.plan in
    let first : Progress = progress g.T.PartitionTask.task_state ((goal.Analyzer-dyn g c.args.analyzer.now).analyzed c.args.analyzer.now.1) c.args.ran.now in
    let made = made-for g.T.PartitionTask.task_state c.args.prepared.now load _ c.args.ran.now.held.items c.as_slice.ensures.value c.in_ok-plan.ensures in
    let here = in-plan load c.rounds-rounds.result c.loop-round.round c.rounds-rounds.ensures.length c.loop-round-test.true in
    let round = c.loop-round.round in
    let lt = c.loop-round-test.true in
    let bound = c.rounds-rounds.ensures.bound in
    let one = round-has-one load round _ c.threads-threads.ensures.limits.some_thread (omega (arith, bound, lt)) c.loop-round.invariant.0.table.placed (open-can-run c.lower_laws.ensures c.args.prepared.now load first made c.requires.table round here _ c.loop-round.invariant.0) in
    let now = c.in_ok-broke.ensures.round.left.rounds_are in
    let tried = c.in_ok-broke.ensures.round.left.attempts_are in
    let before = c.loop-round.invariant.4 in
    omega (arith, now, tried, one, before)
