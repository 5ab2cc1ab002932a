use Rattle.std.proofs.Common.{◌∙◌, ℕ, List, ap, subst}
use Rattle.std.specs.Arc.{arc_value}
use Rattle.jb_artifacts.specs.Faults.{FaultTable, plans_of}
use Rattle.jb_artifacts.specs.Reader.{Reader}
use Rattle.jb_artifacts.specs.Writer.{Writer}
use Rattle.jb_records.specs.Artifacts.{tries_plan}
use Rattle.jb_records.specs.Causes.{Explains, Make}
use Rattle.jb_records.proofs.Causes.{handed-on, refused-own}
use Rattle.jb_records.proofs.Processing.{over, processor_with}
use Rattle.jb_records.proofs.artifacts.artifacts_of.Goals as goal

pub returns-clause-artifacts : goal.returns-clause-artifacts
returns-clause-artifacts g c =
    let F = g.F.StepFunction.function in
    let lo = c.args.row.now.lo in
    let part = c.in_ok-own.ensures in
    let shared = c.in_ok-own-2.ensures.ok ∙ part in
    let own = c.in_ok-try_clone-2.ensures ∙ shared in
    let reader = c.new-3.ensures in
    rw c.in_ok-artifacts.ensures
    (over (F (arc_value c.args.function.now)) c.args.rules.now lo _ _ (λ k. c.in_ok-tries.ensures.tries k ∙ (λ i. tries_plan (F (c.deref.ensures i)) lo (part i) k)) c.in_ok-tries.ensures.never_skipped
    _ (ap (λ (r : Reader). r.first) reader) (ap (λ (r : Reader). r.records) reader ∙ shared) (λ k. ap (λ (r : Reader). r.faults k) reader)
    (λ i. processor_with (F (c.in_ok-try_clone.ensures i)) lo (own i) (plans_of c.in_ok-tries.tries))
    (λ k. ap (λ (w : Writer). w.faults k) c.new-6.ensures ∙ ap (λ (plans : FaultTable). plans k) c.new-5.ensures))

pub returns-in_err-tries-clause-why : goal.returns-in_err-tries-clause-why
returns-in_err-tries-clause-why g c =
    let f = g.F.StepFunction.function in
    let e = c.in_err-tries.field-0.0 in
    let row = c.args.row.now in
    let own = subst (λ a. Explains (Make (f a) c.args.rules.now row.lo c.in_ok-own.own) e) c.deref.ensures c.in_err-tries.ensures.why in
    handed-on c.from_residual-in_err-tries.result e _ c.from_residual-in_err-tries.ensures.1
    (refused-own (f (arc_value c.args.function.now)) c.args.rules.now c.args.records.now row e c.requires.0 c.requires.1 (subst (λ (r : List (List ℕ)). Explains (Make (f (arc_value c.args.function.now)) c.args.rules.now row.lo r) e) c.in_ok-own.ensures own))
