use Rattle.std.proofs.Common.{◌≡◌, arith, slice_index, Some}
use Rattle.jb_cert.specs.Faults.{missing_fault}
use Rattle.jb_cert.specs.declared.plans.PlanFault.TheVariants.{Missing}
use Rattle.jb_cert.proofs.Judged.{nothing_missing, one_missing}
use Rattle.jb_cert.proofs.checker.end_fault.Goals as goal

pub returns-then-ran-i : goal.returns-then-ran-i
returns-then-ran-i c =
    let missing : missing_fault c.args.counts.now (λ p. slice_index c.args.ran.now p) ≡ Some Missing =
    one_missing c.args.counts.now (λ p. slice_index c.args.ran.now p) c.loop-i.i (omega arith) c.if-ran-i.true in
    cc

pub returns : goal.returns
returns c =
    let whole = nothing_missing c.args.counts.now (λ p. slice_index c.args.ran.now p) (λ p within. c.loop-i.invariant p (omega arith)) in
    cc
