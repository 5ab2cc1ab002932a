use Rattle.std.proofs.Common.{◌≡◌, ℕ, Bool, Option, false, refl, rules, sym, subst, arith}
use Rattle.jb_step.specs.preparing.Setup.{Setup}
use Rattle.jb_step.specs.inside.rounds.Round.{Progress}
use Rattle.jb_step.specs.inside.rounds.SoFar.{AreWithin, IsRunOfStepSoFar}
use Rattle.jb_step.proofs.calls.Growing.{grew-more, grew-none}
use Rattle.jb_step.proofs.run.Short.{few-so-far}
use Rattle.jb_step.proofs.run.SoFar.{none-run, ready-of, runs-more}
use Rattle.jb_step.proofs.rounds.runner.RoundRunner.run_rounds.Goals as goal

-- whether the step stops, by another name
named : (s : Setup) (limit : Option ℕ) (stopped other : Bool) (first now : Progress) → stopped ≡ other → IsRunOfStepSoFar s limit stopped first now → IsRunOfStepSoFar s limit other first now
named s limit stopped other first now is run = subst (λ (b : Bool). IsRunOfStepSoFar s limit b first now) is run

pub plans-init : goal.plans-init
plans-init g c =
    let few : AreWithin c.args.round_limit 0 = search rules in
    (rw c.new.ensures.items (none-run _ _ _ _ few), c.requires, grew-none _, refl, omega arith)

pub run_plan-requires-clause-table : goal.run_plan-requires-clause-table
run_plan-requires-clause-table g c κs bounds = c.plans.invariant.1

pub run_plan-requires-clause-few : goal.run_plan-requires-clause-few
run_plan-requires-clause-few g c κs bounds = c.plans.invariant.0.few

pub plans-preserved : goal.plans-preserved
plans-preserved g c =
    let before = c.plans.invariant.4 in
    let step = c.in_ok-ran.ensures.busy in (
      runs-more c.lower_laws.ensures c.args.prepared.now c.args.round_limit false _ _ _ c.plans.invariant.0
          (named _ _ _ _ _ _ c.if-ran.false c.in_ok-ran.ensures.run),
      c.in_ok-ran.ensures.table,
      grew-more _ _ _ c.plans.invariant.2 c.in_ok-ran.ensures.grew,
      c.if-ran.false,
      omega (arith, before, step),
    )

pub plans-smaller : goal.plans-smaller
plans-smaller g c =
    let run = runs-more c.lower_laws.ensures c.args.prepared.now c.args.round_limit false _ _ _ c.plans.invariant.0 (named _ _ _ _ _ _ c.if-ran.false c.in_ok-ran.ensures.run) in
    let on = c.in_ok-ran.ensures.on c.if-ran.false in
    let before = c.plans.invariant.4 in
    let step = c.in_ok-ran.ensures.busy in
    let few = few-so-far c.lower_laws.ensures.short c.args.prepared.now c.args.round_limit false _ _ _ (ready-of c.args.prepared.now _ c.requires.tasks) run (omega (arith, before, step)) in
    let most = few.rounds in
    omega (arith, on, most)

pub returns-clause-run : goal.returns-clause-run
returns-clause-run g c = named _ _ _ _ _ _ (sym c.plans.invariant.3) c.plans.invariant.0

pub returns-clause-table : goal.returns-clause-table
returns-clause-table g c = c.plans.invariant.1

pub returns-clause-grew : goal.returns-clause-grew
returns-clause-grew g c = c.plans.invariant.2

pub returns-in_err-ran-clause-grew : goal.returns-in_err-ran-clause-grew
returns-in_err-ran-clause-grew g c = grew-more _ _ _ c.plans.invariant.2 c.run_plan.ensures.grew

pub returns-in_err-stop-clause-grew : goal.returns-in_err-stop-clause-grew
returns-in_err-stop-clause-grew g c = grew-more _ _ _ c.plans.invariant.2 c.run_plan.ensures.grew

pub returns-then-ran-clause-run : goal.returns-then-ran-clause-run
returns-then-ran-clause-run g c = runs-more c.lower_laws.ensures c.args.prepared.now c.args.round_limit _ _ _ _ c.plans.invariant.0 c.in_ok-ran.ensures.run

pub returns-then-ran-clause-grew : goal.returns-then-ran-clause-grew
returns-then-ran-clause-grew g c = grew-more _ _ _ c.plans.invariant.2 c.run_plan.ensures.grew

pub returns-clause-busy : goal.returns-clause-busy
returns-clause-busy g c = c.plans.invariant.4

pub returns-then-ran-clause-busy : goal.returns-then-ran-clause-busy
returns-then-ran-clause-busy g c = let before = c.plans.invariant.4 in let step = c.in_ok-ran.ensures.busy in omega (arith, before, step)
