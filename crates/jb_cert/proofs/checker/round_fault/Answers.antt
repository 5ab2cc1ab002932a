use Rattle.std.proofs.Common.{sym, arith, slice_index}
use Rattle.jb_cert.proofs.Judged.{no_slot, round_fault, round_more, ran_more}
use Rattle.jb_cert.proofs.checker.round_fault.Goals as goal

pub returns-in-Some-clause-fault : goal.returns-in-Some-clause-fault
returns-in-Some-clause-fault c =
    sym (round_fault c.args.counts.now c.args.threads (λ p. slice_index c.args.ran.now p) (λ p. slice_index c.loop-i.ran p) c.args.round.now c.loop-i.i no_slot
    (omega arith) c.loop-i.invariant.ran c.in-Some.fault c.in-Some.ensures.fault c.loop-i.invariant.fault)

pub loop-i-preserved : goal.loop-i-preserved
loop-i-preserved c = record {
  fault = round_more c.args.counts.now c.args.threads (λ p. slice_index c.args.ran.now p) (λ p. slice_index c.loop-i.ran p) c.args.round.now c.loop-i.i no_slot
      (omega arith) c.loop-i.invariant.ran c.in_default.ensures.fault c.loop-i.invariant.fault;
  ran = λ p within.
      let known = c.in_default.ensures.next.0 in
      ran_more (λ q. slice_index c.args.ran.now q) c.loop-i.ran c.args.round.now c.loop-i.i no_slot (omega arith) (omega (arith, known, c.loop-i.auto.ran)) p (c.loop-i.invariant.ran p within);
}
