use Rattle.std.proofs.Common.{◌≡◌, ◌<◌, ℕ, length, slice_index, take, drop}
use Rattle.jb_cert.specs.Plans.{plan_rounds}
use Rattle.jb_cert.specs.Faults.{slots_in_all}
use Rattle.jb_cert.specs.inside.Walk.{fault_after, found_fault}
use Rattle.jb_cert.proofs.checker.plan_fault.Given as goal

abbrev pub invariant-loop-round : goal.invariant-loop-round
invariant-loop-round l = record {
  fault : fault_after l.counts l.threads (take l.round-index (plan_rounds l.plan)) (drop l.round-index (plan_rounds l.plan)) ≡ found_fault l.counts l.threads (plan_rounds l.plan);
  ran : (p : ℕ) → p < length l.counts → slice_index l.ran p ≡ slots_in_all p (take l.round-index (plan_rounds l.plan));
}
