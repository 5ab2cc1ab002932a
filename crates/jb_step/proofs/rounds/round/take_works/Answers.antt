use Rattle.jb_step.proofs.run.Breaking.{emptied-more, taken-more}
use Rattle.jb_step.proofs.rounds.round.take_works.Goals as goal

pub loop-slot-preserved : goal.loop-slot-preserved
loop-slot-preserved g c = (
  taken-more c.args.slots.now c.loop-slot.slot-index _ _ _ _ _ _ c.loop-slot-test.true c.in_ok-take_work.ensures.places c.in_ok-take_work.ensures.works c.loop-slot.invariant.0,
  emptied-more c.args.slots.now c.loop-slot.slot-index _ _ _ _ c.loop-slot-test.true c.in_ok-take_work.ensures.places c.loop-slot.invariant.1,
)
