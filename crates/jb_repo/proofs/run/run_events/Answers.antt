use Rattle.std.proofs.Common.{◌<◌, length, arith}
use Rattle.jb_repo.proofs.Runs.{run_more}
use Rattle.jb_repo.proofs.run.run_events.Goals as goal

pub loop-event-preserved : goal.loop-event-preserved
loop-event-preserved c =
    let lt : c.loop-event.event-index < length c.args.events.now = omega arith in (
      run_more c.args.repo.now c.loop-event.repo c.apply.new.self c.args.events.now c.loop-event.event-index c.event-item.result
          c.loop-event.answers.items c.push.new.self.items c.apply.result c.err.result lt c.event-item.is c.loop-event.invariant.0
          c.apply.ensures.accepted c.apply.ensures.in_place c.apply.ensures.refused c.apply.ensures.unchanged c.err.ensures.value c.in-Ok.ensures.items,
      omega (arith, c.in-Ok.ensures.len),
      omega (arith, c.in-Ok.ensures.capacity),
    )
