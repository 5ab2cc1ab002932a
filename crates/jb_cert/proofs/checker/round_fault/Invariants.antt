use Rattle.std.proofs.Common.{◌≡◌, ◌+◌, ◌<◌, ℕ, [], length, get_or, take, drop}
use Rattle.jb_cert.specs.Faults.{slots_of}
use Rattle.jb_cert.specs.inside.Walk.{fault_in_round}
use Rattle.jb_cert.proofs.checker.round_fault.Given as goal

abbrev pub invariant-loop-i : goal.invariant-loop-i
invariant-loop-i l = record {
  fault : fault_in_round l.counts l.threads (λ p. get_or l.fn.ran p 0) (take l.i l.round) (drop l.i l.round)
      ≡ fault_in_round l.counts l.threads (λ p. get_or l.fn.ran p 0) [] l.round;
  ran : (p : ℕ) → p < length l.counts → get_or l.ran p 0 ≡ get_or l.fn.ran p 0 + slots_of p (take l.i l.round);
}
