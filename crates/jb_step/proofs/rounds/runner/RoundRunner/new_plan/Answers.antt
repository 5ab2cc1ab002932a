use Rattle.std.proofs.Common.{◌≡◌, ℕ, ◌≤◌, length, sym, ◌∙◌, subst, arith}
use Rattle.jb_cert.specs.Certificates.{Holds, bound_certificate}
use Rattle.jb_cert.specs.Load.{Load, mcnaughton}
use Rattle.jb_cert.specs.Plans.{StandsForLeast}
use Rattle.jb_cert.specs.WrapAround.{wrapped_rounds}
use Rattle.jb_step.specs.Tables.{Table}
use Rattle.jb_step.specs.preparing.Setup.{Setup, counts_now}
use Rattle.jb_step.specs.inside.rounds.SoFar.{IsPlanFor, plan_run_of}
use Rattle.jb_step.proofs.plans.Planning.{least-sets}
use Rattle.jb_step.proofs.run.SoFar.{long-plan}
use Rattle.jb_step.proofs.rounds.runner.RoundRunner.new_plan.Goals as goal

-- the wrap-around is a least plan, as sets of chunks
planned : (s : Setup) (before : Table) (load : Load) → load.counts ≡ counts_now s before → load.threads ≡ s.threads → StandsForLeast load.counts load.threads (wrapped_rounds load.counts load.threads)
    → Holds load.counts load.threads (mcnaughton load.counts load.threads) (bound_certificate load.counts load.threads) → length (wrapped_rounds load.counts load.threads) ≡ mcnaughton load.counts load.threads
    → 1 ≤ mcnaughton load.counts load.threads → IsPlanFor s before (plan_run_of load 0)
planned s before load counts threads stands holds long some =
    let all = long-plan load ∙ long in
    record {
      least = rw (← counts, ← threads) (least-sets load.counts load.threads (wrapped_rounds load.counts load.threads) stands);
      certified = rw (← counts, ← threads) (subst (λ (n : ℕ). Holds load.counts load.threads n (bound_certificate load.counts load.threads)) (sym all) holds);
      some = omega (arith, all, some);
    }

pub returns : goal.returns
returns g c =
    let load = c.in_ok-cursor.cursor in
    let rounds = c.rounds-rounds.ensures.bound in
    let some = c.if-rounds-lt1.false in
    planned _ _ load (c.in_ok-cursor.ensures.counts ∙ c.as_slice-2.ensures.value ∙ c.in_ok-counts.ensures) (c.in_ok-cursor.ensures.threads ∙ c.threads-threads.ensures) c.rounds-rounds.ensures.plan
    (subst (λ k. Holds load.counts load.threads (mcnaughton load.counts load.threads) k) c.certificate.ensures.value c.certificate.ensures.holds)
    (c.rounds-rounds.ensures.length ∙ rounds) (omega (arith, rounds, some))
